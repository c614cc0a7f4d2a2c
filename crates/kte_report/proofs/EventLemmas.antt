-- The lines of events: each is one event's.
use Rattle.std.proofs.Common.{◌≡◌, ℕ, ◌<◌, ◌^◌, true, [], ◌∷◌, ◌++◌, refl, sym, ap, ◌∙◌, subst, append_assoc, arith, inl, inr}
use Rattle.std.specs.Prelude.{codes}
use Rattle.std.specs.Fmt.{decimal}
use Rattle.kte_script.specs.Table.{filled, table, spell_fields}
use Rattle.kte_core.specs.declared.event.Event.{Event}
use Rattle.kte_core.specs.declared.request.Request.{Request}
use Rattle.kte_core.specs.declared.request.Request.TheVariants.{Cmd, Close, Take, Deliver, GiveBack, Outcome}
use Rattle.kte_core.specs.declared.request.OutsideCall.TheVariants as call
use Rattle.kte_core.specs.declared.reply.Reply.{Reply}
use Rattle.kte_core.specs.declared.reply.Reply.TheVariants as reply
use Rattle.kte_report.specs.Lines.{is_in_line}
use Rattle.kte_report.specs.EventTable.{Phrase, spell_phrase, request_phrase, refusal_rows, filled_refusal, reply_rows, reply_phrase}
use Rattle.kte_report.specs.Events.{PhraseFits, IsHeld, request_spelling, reply_spelling, event_text}
use Rattle.kte_report.specs.EventReading.{event_at}
use Rattle.kte_report.specs.Journal.{head}
use Rattle.kte_report.proofs.InLineLemmas.{in-append, decimal_in_line, fields_in_line}
use Rattle.kte_report.proofs.RowLemmas.{IsPlain, of_listed}
use Rattle.kte_report.proofs.AgainLemmas.{plain_refusals, refusal_listed, plain_replies, reply_listed, plain_commands, command_listed, event_again}
use Rattle.kte_report.proofs.HeldLemmas.{first_same}

-- the words of a phrase have no line end
abbrev pub WordsInLine : {A : Type 0} → Phrase A → Type 0
WordsInLine phrase = is_in_line (phrase.lead ++ phrase.filled.row.word) ≡ true

request_words : (request : Request) → WordsInLine (request_phrase request)
request_words (Cmd command) = (of_listed IsPlain table (filled command) command plain_commands (command_listed command)).inside
request_words Close = refl
request_words Take = refl
request_words (Deliver job findings) = refl
request_words (GiveBack job) = refl
request_words (Outcome call.Append ok) = refl
request_words (Outcome call.Sync ok) = refl
request_words (Outcome call.Save ok) = refl

abbrev ReplyWords : Reply → Type 0
ReplyWords replied = WordsInLine (reply_phrase replied)

reply_words : (replied : Reply) → ReplyWords replied
reply_words replied = elim (reply_listed replied) [
  | inl is ↦ rw (is.lead) (of_listed IsPlain reply_rows (reply_phrase replied).filled replied plain_replies is.listed).inside
  | inr p ↦ subst ReplyWords (sym p.1) (of_listed IsPlain refusal_rows (filled_refusal p.0) p.0 plain_refusals (refusal_listed p.0)).inside
]

phrase_in_line : {A : Type 0} (phrase : Phrase A) → WordsInLine phrase → PhraseFits phrase → is_in_line (spell_phrase phrase) ≡ true
phrase_in_line phrase words fits =
    let whole = in-append (phrase.lead ++ phrase.filled.row.word) (spell_fields phrase.filled.row.kinds phrase.filled.values) words (fields_in_line phrase.filled.row.kinds phrase.filled.values fits) in
    ap is_in_line (sym (append_assoc phrase.lead phrase.filled.row.word (spell_fields phrase.filled.row.kinds phrase.filled.values))) ∙ whole

pub event_in_line : (event : Event) → IsHeld event → is_in_line (event_text event) ≡ true
unfolding event_text
event_in_line event held =
    let request = phrase_in_line (request_phrase event.request) (request_words event.request) held.request in
    let replied = phrase_in_line (reply_phrase event.reply) (reply_words event.reply) held.reply in
    in-append (decimal event.seat) (32 ∷ (request_spelling event.request ++ (codes " = " ++ reply_spelling event.reply))) (decimal_in_line event.seat (omega (arith, held.seat)))
    (in-append (request_spelling event.request) (codes " = " ++ reply_spelling event.reply) request replied)

pub one_event : (a b : Event) → IsHeld a → IsHeld b → event_text a ≡ event_text b → a ≡ b
one_event a b p q e = first_same a b [] [] (sym (event_again a p) ∙ ap event_at e ∙ event_again b q)

pub head_in_line : (count : ℕ) → count < 2 ^ 64 → is_in_line (head count) ≡ true
head_in_line count small = in-append (codes "journal ") (decimal count) refl (decimal_in_line count small)

-- an event that every journal can hold
abbrev pub filler : Event
filler = record { seat = 0; request = Close; reply = reply.Closed }

pub filler_held : IsHeld filler
filler_held = record { seat = omega arith; request = tt; reply = tt }
