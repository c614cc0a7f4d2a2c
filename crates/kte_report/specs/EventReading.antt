-- How the line of an event is read, word by word and off the tables. What is read is spelled again
-- and compared, so this says nothing of what a journal is.
use Rattle.std.specs.Prelude.{ℕ, List, codes, Option, Some, None, Ok, if◌then◌else◌}
use Rattle.std.specs.Str.{bytes_eq}
use Rattle.kte_script.specs.declared.limits.Limits.TheVariants.{Journal}
use Rattle.kte_script.specs.Words.{skip, word, behind}
use Rattle.kte_script.specs.Fields.{Short, Reading, ◌>>=◌, word_at, number_at}
use Rattle.kte_script.specs.Table.{Row, row_in, table}
use Rattle.kte_script.specs.Reading.{row_at, front_at}
use Rattle.kte_core.specs.declared.event.Event.{Event}
use Rattle.kte_core.specs.declared.request.Request.{Request}
use Rattle.kte_core.specs.declared.request.Request.TheVariants.{Cmd}
use Rattle.kte_core.specs.declared.reply.Reply.{Reply}
use Rattle.kte_core.specs.declared.reply.Reply.TheVariants.{Refused}
use Rattle.kte_report.specs.EventTable.{request_rows, call_rows, refusal_rows, reply_rows}

-- the request of a row after its word, or else a command
abbrev pub row_or_command : Option (Row Request) → List ℕ → Reading Request
row_or_command None words =
    front_at Journal table words >>= λ command. Ok (Cmd command.0, command.1)
row_or_command (Some row) words = row_at Journal row (behind (skip words))

unfoldable pub request_at : List ℕ → Reading Request
request_at bytes =
    if bytes_eq (word (skip bytes)) (codes "outcome")
    then front_at Journal call_rows (behind (skip bytes))
    else row_or_command (row_in request_rows (word (skip bytes))) bytes

unfoldable pub reply_at : List ℕ → Reading Reply
reply_at bytes =
    if bytes_eq (word (skip bytes)) (codes "refused")
    then (front_at Journal refusal_rows (behind (skip bytes))
    >>= λ refusal. Ok (Refused refusal.0, refusal.1))
    else front_at Journal reply_rows bytes

-- `=`
abbrev pub equals_of : List ℕ → Option (Unit {0})
equals_of word = if bytes_eq word (codes "=") then Some tt else None

unfoldable pub equals_at : List ℕ → Reading (Unit {0})
equals_at bytes = word_at equals_of bytes

unfoldable pub event_at : List ℕ → Reading Event
event_at line = do
  seat ← number_at Journal Short line
  request ← request_at seat.1
  equals ← equals_at request.1
  reply ← reply_at equals.1
  Ok (record { seat = seat.0; request = request.0; reply = reply.0 }, reply.1)
