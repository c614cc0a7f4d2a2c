-- An event that is spelled is read again.
use Rattle.std.proofs.Common.{◌≡◌, ℕ, ◌≤◌, true, false, List, [], ◌∷◌, ◌++◌, Option, None, Some, Ok, refl, sym, ap, ◌∙◌, subst, append-nil, arith, inl, inr, ◌⊎◌, lit<}
use Rattle.std.specs.Prelude.{codes}
use Rattle.std.specs.Fmt.{decimal}
use Rattle.std.specs.Str.{bytes_eq}
use Rattle.kte_fold.specs.declared.refused.FoldRefused.TheVariants as fold
use Rattle.kte_text.specs.declared.primitive.Misfit.TheVariants as misfit
use Rattle.kte_command.specs.declared.command.Command.{Command}
use Rattle.kte_script.specs.declared.limits.Limits.TheVariants.{Journal}
use Rattle.kte_script.specs.Words.{skip, ends_here, number_of}
use Rattle.kte_script.specs.Fields.{Short, most, most_digits, number_at, word_at}
use Rattle.kte_script.specs.Table.{Row, Filled, filled, table, row_in, spell_filled, spelling}
use Rattle.kte_script.specs.Limits.{AllFit, IsWithin}
use Rattle.kte_script.proofs.AgainLemmas.{IsWord, meant_again, taken, word-of, behind-of, skip-word, skip-one, decimal_word, decimal_means, limited}
use Rattle.kte_script.proofs.RoundLemmas.{listed}
use Rattle.kte_core.specs.declared.event.Event.{Event}
use Rattle.kte_core.specs.declared.request.Request.{Request}
use Rattle.kte_core.specs.declared.request.Request.TheVariants.{Cmd, Close, Take, Deliver, GiveBack, Outcome}
use Rattle.kte_core.specs.declared.request.OutsideCall.TheVariants as call
use Rattle.kte_core.specs.declared.reply.Reply.{Reply}
use Rattle.kte_core.specs.declared.reply.Reply.TheVariants as reply
use Rattle.kte_core.specs.declared.reply.Refusal.{Refusal}
use Rattle.kte_core.specs.declared.reply.Refusal.TheVariants as refusal
use Rattle.kte_report.specs.EventTable.{request_rows, call_rows, request_phrase, refusal_rows, filled_refusal, reply_rows, reply_phrase}
use Rattle.kte_report.specs.Events.{PhraseFits, IsHeld, request_spelling, refusal_spelling, reply_spelling, event_text}
use Rattle.kte_report.specs.EventReading.{request_at, reply_at, equals_of, equals_at, event_at}
use Rattle.kte_report.proofs.RowLemmas.{OfEach, IsPlain, IsRest, IsListed, of_listed, listed_front, listed_word, listed_after}

-- ---- refusals

pub plain_refusals : OfEach IsPlain refusal_rows
plain_refusals = search arith

pub refusal_listed : (refused : Refusal) → IsListed refusal_rows (filled_refusal refused) refused
refusal_listed (refusal.Misfit (misfit.NoLine line)) = record { there = refl; made = refl }
refusal_listed (refusal.Misfit (misfit.NoColumn line column)) = record { there = refl; made = refl }
refusal_listed (refusal.Misfit (misfit.SplitsPair line column)) = record { there = refl; made = refl }
refusal_listed (refusal.Misfit misfit.FirstLine) = record { there = refl; made = refl }
refusal_listed (refusal.Misfit (misfit.TooLarge size)) = record { there = refl; made = refl }
refusal_listed refusal.NotOpen = record { there = refl; made = refl }
refusal_listed (refusal.StillOpen depth) = record { there = refl; made = refl }
refusal_listed refusal.Nothing = record { there = refl; made = refl }
refusal_listed (refusal.RevisionsFull revision) = record { there = refl; made = refl }
refusal_listed (refusal.NoRange id) = record { there = refl; made = refl }
refusal_listed (refusal.NoFold id) = record { there = refl; made = refl }
refusal_listed (refusal.Fold fold.OutOfText) = record { there = refl; made = refl }
refusal_listed (refusal.Fold fold.EmptySpan) = record { there = refl; made = refl }
refusal_listed (refusal.Fold (fold.Crosses id)) = record { there = refl; made = refl }
refusal_listed refusal.NoMatch = record { there = refl; made = refl }
refusal_listed (refusal.NotLocked revision oldest) = record { there = refl; made = refl }
refusal_listed (refusal.NotOwned revision) = record { there = refl; made = refl }
refusal_listed (refusal.NoJob closed) = record { there = refl; made = refl }
refusal_listed (refusal.NotTaken job) = record { there = refl; made = refl }
refusal_listed refusal.Closed = record { there = refl; made = refl }

-- ---- replies

pub plain_replies : OfEach IsPlain reply_rows
plain_replies = search arith

-- a row whose word is not that of refusals
abbrev IsNoRefusal : Row Reply → Type 0
IsNoRefusal row = bytes_eq row.word (codes "refused") ≡ false

no_refusals : OfEach IsNoRefusal reply_rows
no_refusals = search arith

-- a reply with a row of the table
pub record IsListedReply (replied : Reply) : Type 0 where
  pub lead : (reply_phrase replied).lead ≡ []
  pub listed : IsListed reply_rows (reply_phrase replied).filled replied

abbrev pub IsRefusal : Reply → Type 0
IsRefusal replied = (refused : Refusal) × (replied ≡ reply.Refused refused)

-- a reply has a row of the table, or is a refusal
pub reply_listed : (replied : Reply) → IsListedReply replied ⊎ IsRefusal replied
reply_listed (reply.Edited steps revision depth) = inl (record { lead = refl; listed = record { there = refl; made = refl } })
reply_listed (reply.Cut steps revision depth) = inl (record { lead = refl; listed = record { there = refl; made = refl } })
reply_listed (reply.Depth depth) = inl (record { lead = refl; listed = record { there = refl; made = refl } })
reply_listed (reply.Range id span) = inl (record { lead = refl; listed = record { there = refl; made = refl } })
reply_listed (reply.Dropped id) = inl (record { lead = refl; listed = record { there = refl; made = refl } })
reply_listed (reply.Locked revision) = inl (record { lead = refl; listed = record { there = refl; made = refl } })
reply_listed (reply.Unlocked revision) = inl (record { lead = refl; listed = record { there = refl; made = refl } })
reply_listed (reply.Landed span) = inl (record { lead = refl; listed = record { there = refl; made = refl } })
reply_listed (reply.Found spans) = inl (record { lead = refl; listed = record { there = refl; made = refl } })
reply_listed (reply.Posted job) = inl (record { lead = refl; listed = record { there = refl; made = refl } })
reply_listed reply.Asked = inl (record { lead = refl; listed = record { there = refl; made = refl } })
reply_listed (reply.Took job revision) = inl (record { lead = refl; listed = record { there = refl; made = refl } })
reply_listed (reply.Delivered job first count) = inl (record { lead = refl; listed = record { there = refl; made = refl } })
reply_listed (reply.Returned job) = inl (record { lead = refl; listed = record { there = refl; made = refl } })
reply_listed reply.Noted = inl (record { lead = refl; listed = record { there = refl; made = refl } })
reply_listed reply.Closed = inl (record { lead = refl; listed = record { there = refl; made = refl } })
reply_listed (reply.Refused refused) = inr (refused, refl)

abbrev ReplyAgain : Reply → Type 0
ReplyAgain replied = (rest : List ℕ) → PhraseFits (reply_phrase replied) → IsRest rest → reply_at (32 ∷ reply_spelling replied ++ rest) ≡ Ok (replied, rest)

listed_reply_again : (replied : Reply) → IsListedReply replied → ReplyAgain replied
unfolding reply_at
listed_reply_again replied is rest fits after =
    let f = (reply_phrase replied).filled in
    rw (is.lead, listed_word reply_rows f replied rest plain_replies is.listed after.ends, of_listed IsNoRefusal reply_rows f replied no_refusals is.listed) (listed_front reply_rows f replied rest plain_replies is.listed fits after)

refused_again : (refused : Refusal) → ReplyAgain (reply.Refused refused)
unfolding reply_at
refused_again refused rest fits after =
    let t = taken (codes "refused") (32 ∷ refusal_spelling refused ++ rest) (record { some = lit< tt; whole = refl }) refl in
    rw (t.0, t.1, listed_front refusal_rows (filled_refusal refused) refused rest plain_refusals (refusal_listed refused) fits after) refl

pub reply_again : (replied : Reply) → ReplyAgain replied
reply_again replied = elim (reply_listed replied) [
  | inl is ↦ listed_reply_again replied is
  | inr p ↦ subst ReplyAgain (sym p.1) (refused_again p.0)
]

-- ---- requests

pub plain_commands : OfEach IsPlain table
plain_commands = search arith

-- a row whose word is that of no other request
abbrev IsNoRequest : Row Command → Type 0
IsNoRequest row = (bytes_eq row.word (codes "outcome") ≡ false) × (row_in request_rows row.word ≡ None)

no_requests : OfEach IsNoRequest table
no_requests = search arith

pub command_listed : (command : Command) → IsListed table (filled command) command
command_listed command = record { there = (listed command).there; made = (listed command).made }

-- what follows a request: the next word is `=`
abbrev pub equals_and : List ℕ → List ℕ
equals_and more = 32 ∷ 61 ∷ 32 ∷ more

after_request : (more : List ℕ) → IsRest (equals_and more)
after_request more = record { ends = refl; none = rw (skip-one 61 (32 ∷ more) refl) refl }

command_again : (command : Command) (more : List ℕ) → IsWithin Journal command → request_at (32 ∷ spelling command ++ equals_and more) ≡ Ok (Cmd command, equals_and more)
unfolding request_at
command_again command more fits =
    let f = filled command in
    let is = command_listed command in
    let none = of_listed IsNoRequest table f command no_requests is in
    rw (listed_word table f command (equals_and more) plain_commands is refl, none.0, none.1, listed_front table f command (equals_and more) plain_commands is fits (after_request more)) refl

plain_requests : OfEach IsPlain request_rows
plain_requests = search arith

plain_calls : OfEach IsPlain call_rows
plain_calls = search arith

-- a request's row that is neither a command's nor an outcome's
request_row : (f : Filled Request) (more : List ℕ) → IsListed request_rows f (f.row.make f.values) → bytes_eq f.row.word (codes "outcome") ≡ false → AllFit Journal f.row.kinds f.values → request_at (32 ∷ spell_filled f ++ equals_and more) ≡ Ok (f.row.make f.values, equals_and more)
unfolding request_at
request_row f more is other fits =
    rw (listed_word request_rows f (f.row.make f.values) (equals_and more) plain_requests is refl, other, is.there) (listed_after request_rows f (f.row.make f.values) (equals_and more) plain_requests is fits (after_request more))

outcome_again : (f : Filled Request) (more : List ℕ) → IsListed call_rows f (f.row.make f.values) → AllFit Journal f.row.kinds f.values → request_at (32 ∷ (codes "outcome" ++ 32 ∷ spell_filled f) ++ equals_and more) ≡ Ok (f.row.make f.values, equals_and more)
unfolding request_at
outcome_again f more is fits =
    let t = taken (codes "outcome") (32 ∷ spell_filled f ++ equals_and more) (record { some = lit< tt; whole = refl }) refl in
    rw (t.0, t.1) (listed_front call_rows f (f.row.make f.values) (equals_and more) plain_calls is fits (after_request more))

pub request_again : (request : Request) (more : List ℕ) → PhraseFits (request_phrase request) → request_at (32 ∷ request_spelling request ++ equals_and more) ≡ Ok (request, equals_and more)
request_again (Cmd command) more fits = command_again command more fits
request_again Close more fits = request_row (request_phrase Close).filled more (record { there = refl; made = refl }) refl fits
request_again Take more fits = request_row (request_phrase Take).filled more (record { there = refl; made = refl }) refl fits
request_again (Deliver job findings) more fits = request_row (request_phrase (Deliver job findings)).filled more (record { there = refl; made = refl }) refl fits
request_again (GiveBack job) more fits = request_row (request_phrase (GiveBack job)).filled more (record { there = refl; made = refl }) refl fits
request_again (Outcome call.Append ok) more fits = outcome_again (request_phrase (Outcome call.Append ok)).filled more (record { there = refl; made = refl }) fits
request_again (Outcome call.Sync ok) more fits = outcome_again (request_phrase (Outcome call.Sync ok)).filled more (record { there = refl; made = refl }) fits
request_again (Outcome call.Save ok) more fits = outcome_again (request_phrase (Outcome call.Save ok)).filled more (record { there = refl; made = refl }) fits

-- ---- the whole line

equals_again : (more : List ℕ) → equals_at (equals_and more) ≡ Ok (tt, 32 ∷ more)
unfolding equals_at
equals_again more = meant_again equals_of tt (61 ∷ []) (32 ∷ more) (record { some = lit< tt; whole = refl }) refl refl

-- the first word, where it stands in front
word_first : {A : Type 0} (meaning : List ℕ → Option A) (value : A) (w rest : List ℕ) → IsWord w → meaning w ≡ Some value → ends_here rest ≡ true → word_at meaning (w ++ rest) ≡ Ok (value, rest)
word_first meaning value w rest is m e =
    let here : skip (w ++ rest) ≡ w ++ rest = skip-word w rest is in
    rw (here, word-of w rest is.whole e, m, behind-of w rest is.whole e) refl

seat_again : (seat : ℕ) (more : List ℕ) → seat ≤ most Journal Short → number_at Journal Short (decimal seat ++ 32 ∷ more) ≡ Ok (seat, 32 ∷ more)
unfolding number_at
seat_again seat more le =
    word_first (number_of (most_digits Journal) (most Journal Short)) seat (decimal seat) (32 ∷ more) (decimal_word seat (omega arith)) (decimal_means (most Journal Short) (most_digits Journal) seat (limited Journal Short) le) refl

at_end : IsRest []
unfolding skip
at_end = record { ends = refl; none = refl }

pub event_again : (event : Event) → IsHeld event → event_at (event_text event) ≡ Ok (event, [])
unfolding event_at event_text
event_again event held =
    let replied = reply_spelling event.reply in
    let asked : request_at (32 ∷ request_spelling event.request ++ equals_and replied) ≡ Ok (event.request, equals_and replied) = request_again event.request replied held.request in
    let answered : reply_at (32 ∷ replied) ≡ Ok (event.reply, []) = ap (λ (xs : List ℕ). reply_at (32 ∷ xs)) (sym (append-nil replied)) ∙ reply_again event.reply [] held.reply at_end in
    rw (seat_again event.seat (request_spelling event.request ++ equals_and replied) held.seat, asked, equals_again replied, answered) refl
