-- The line of an event: its one spelling, and what it can hold. This project's own form
use Rattle.std.specs.Prelude.{ℕ, ◌≤◌, List, ◌∷◌, ◌++◌, codes}
use Rattle.std.specs.Fmt.{decimal}
use Rattle.kte_script.specs.declared.limits.Limits.TheVariants.{Journal}
use Rattle.kte_script.specs.Fields.{Short, most}
use Rattle.kte_script.specs.Limits.{AllFit}
use Rattle.kte_script.specs.Table.{spell_filled}
use Rattle.kte_core.specs.declared.event.Event.{Event}
use Rattle.kte_core.specs.declared.request.Request.{Request}
use Rattle.kte_core.specs.declared.reply.Reply.{Reply}
use Rattle.kte_core.specs.declared.reply.Refusal.{Refusal}
use Rattle.kte_report.specs.EventTable.{Phrase, spell_phrase, request_phrase, filled_refusal, reply_phrase}

-- the one spelling of a request; that of a command is its canonical one
abbrev pub request_spelling : Request → List ℕ
request_spelling request = spell_phrase (request_phrase request)

-- the one spelling of a refusal
abbrev pub refusal_spelling : Refusal → List ℕ
refusal_spelling refusal = spell_filled (filled_refusal refusal)

-- the one spelling of a reply
abbrev pub reply_spelling : Reply → List ℕ
reply_spelling reply = spell_phrase (reply_phrase reply)

-- the line of an event, without its end: the seat, the request, ` = ` and the reply
unfoldable pub event_text : Event → List ℕ
event_text event =
    decimal event.seat
    ++ 32 ∷ (request_spelling event.request ++ (codes " = " ++ reply_spelling event.reply))

-- the values of a phrase are within their types
abbrev pub PhraseFits : {A : Type 0} → Phrase A → Type 0
PhraseFits phrase = AllFit Journal phrase.filled.row.kinds phrase.filled.values

-- An event that the types hold: numbers are within their types, spans begin at or before their end,
-- lines are well formed, texts are not too large. The word of a rule is not empty
pub record IsHeld (event : Event) : Type 0 where
  pub seat : event.seat ≤ most Journal Short
  pub request : PhraseFits (request_phrase event.request)
  pub reply : PhraseFits (reply_phrase event.reply)
