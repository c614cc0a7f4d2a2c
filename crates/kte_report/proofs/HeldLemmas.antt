-- What is read is within the types.
use Rattle.std.proofs.Common.{◌≡◌, ℕ, ◌≤◌, Bool, true, false, cond, List, [], ◌∷◌, Option, None, Some, Ok, refl, ap, subst, arith}
use Rattle.std.specs.Prelude.{codes}
use Rattle.std.specs.Str.{bytes_eq}
use Rattle.kte_command.specs.declared.command.Command.{Command}
use Rattle.kte_script.specs.declared.limits.Limits.TheVariants.{Journal}
use Rattle.kte_script.specs.Words.{skip, word, behind}
use Rattle.kte_script.specs.Fields.{Short, most, Number, Reading, ◌>>=◌, number_at}
use Rattle.kte_script.specs.Table.{Row, table, row_in}
use Rattle.kte_script.specs.Reading.{read_fields, front_at}
use Rattle.kte_script.specs.Limits.{AllFit, IsWithin}
use Rattle.kte_script.proofs.ReadsLemmas.{bind_ok, done_same}
use Rattle.kte_script.proofs.WithinLemmas.{front_within}
use Rattle.kte_core.specs.declared.event.Event.{Event}
use Rattle.kte_core.specs.declared.request.Request.{Request}
use Rattle.kte_core.specs.declared.request.Request.TheVariants.{Cmd}
use Rattle.kte_core.specs.declared.reply.Reply.{Reply}
use Rattle.kte_core.specs.declared.reply.Reply.TheVariants.{Refused}
use Rattle.kte_core.specs.declared.reply.Refusal.{Refusal}
use Rattle.kte_report.specs.EventTable.{request_rows, call_rows, request_phrase, refusal_rows, filled_refusal, reply_rows, reply_phrase}
use Rattle.kte_report.specs.Events.{PhraseFits, IsHeld}
use Rattle.kte_report.specs.EventReading.{row_or_command, request_at, reply_at, equals_at, event_at}
use Rattle.kte_report.proofs.FieldLemmas.{fields_fit}
use Rattle.kte_report.proofs.RowLemmas.{OfEach, of_row, Made, after_made, front_made}

abbrev done : {A : Type 0} → A → List ℕ → Reading A
done x rest = Ok (x, rest)

pub first_same : {A : Type 0} (x y : A) (a b : List ℕ) → done x a ≡ done y b → x ≡ y
first_same {A} x y a b e = ap (λ (z : A × List ℕ). z.0) (done_same {A = A × List ℕ} (x, a) (y, b) e)

seat_fits : (bytes rest : List ℕ) (seat : ℕ) → number_at Journal Short bytes ≡ Ok (seat, rest) → seat ≤ most Journal Short
seat_fits bytes rest seat e =
    let read : read_fields Journal (Number Short ∷ []) bytes ≡ Ok ((seat, tt), rest) = rw e refl in
    (fields_fit Journal (Number Short ∷ []) bytes rest (seat, tt) read).0

-- ---- requests

abbrev pub RequestFits : Request → Type 0
RequestFits request = PhraseFits (request_phrase request)

each_request : OfEach (Made RequestFits) request_rows
each_request = search arith

each_call : OfEach (Made RequestFits) call_rows
each_call = search arith

command_fits : (bytes rest : List ℕ) (request : Request) → ◌>>=◌ {A = Command × List ℕ} {B = Request × List ℕ} (front_at Journal table bytes) (λ command. Ok (Cmd command.0, command.1)) ≡ Ok (request, rest) → RequestFits request
command_fits bytes rest request e =
    let b = bind_ok (front_at Journal table bytes) (λ (command : Command × List ℕ). Ok (Cmd command.0, command.1)) (request, rest) e in
    let held : IsWithin Journal b.0.0 = front_within Journal bytes b.0.0 b.0.1 b.1 in
    let same : Cmd b.0.0 ≡ request = first_same (Cmd b.0.0) request b.0.1 rest b.2 in
    subst RequestFits same held

row_or_command_fits : (o : Option (Row Request)) (w bytes rest : List ℕ) (request : Request) → row_in request_rows w ≡ o → row_or_command o bytes ≡ Ok (request, rest) → RequestFits request
row_or_command_fits None w bytes rest request is e = command_fits bytes rest request e
row_or_command_fits (Some row) w bytes rest request is e =
    after_made RequestFits row (behind (skip bytes)) request rest (of_row (Made RequestFits) request_rows w row each_request is) e

request_by : (b : Bool) (bytes rest : List ℕ) (request : Request) → cond b (front_at Journal call_rows (behind (skip bytes))) (row_or_command (row_in request_rows (word (skip bytes))) bytes) ≡ Ok (request, rest) → RequestFits request
request_by true bytes rest request e = front_made RequestFits call_rows (behind (skip bytes)) request rest each_call e
request_by false bytes rest request e = row_or_command_fits (row_in request_rows (word (skip bytes))) (word (skip bytes)) bytes rest request refl e

pub request_fits : (bytes rest : List ℕ) (request : Request) → request_at bytes ≡ Ok (request, rest) → RequestFits request
unfolding request_at
request_fits bytes rest request e = request_by (bytes_eq (word (skip bytes)) (codes "outcome")) bytes rest request e

-- ---- replies

abbrev pub ReplyFits : Reply → Type 0
ReplyFits reply = PhraseFits (reply_phrase reply)

abbrev RefusalFits : Refusal → Type 0
RefusalFits refused = AllFit Journal (filled_refusal refused).row.kinds (filled_refusal refused).values

each_refusal : OfEach (Made RefusalFits) refusal_rows
each_refusal = search arith

each_reply : OfEach (Made ReplyFits) reply_rows
each_reply = search arith

refused_fits : (bytes rest : List ℕ) (reply : Reply) → ◌>>=◌ {A = Refusal × List ℕ} {B = Reply × List ℕ} (front_at Journal refusal_rows bytes) (λ refusal. Ok (Refused refusal.0, refusal.1)) ≡ Ok (reply, rest) → ReplyFits reply
refused_fits bytes rest reply e =
    let b = bind_ok (front_at Journal refusal_rows bytes) (λ (refusal : Refusal × List ℕ). Ok (Refused refusal.0, refusal.1)) (reply, rest) e in
    let held : RefusalFits b.0.0 = front_made RefusalFits refusal_rows bytes b.0.0 b.0.1 each_refusal b.1 in
    let same : Refused b.0.0 ≡ reply = first_same (Refused b.0.0) reply b.0.1 rest b.2 in
    subst ReplyFits same held

reply_by : (b : Bool) (bytes rest : List ℕ) (reply : Reply) → cond b (◌>>=◌ {A = Refusal × List ℕ} {B = Reply × List ℕ} (front_at Journal refusal_rows (behind (skip bytes))) (λ refusal. Ok (Refused refusal.0, refusal.1))) (front_at Journal reply_rows bytes) ≡ Ok (reply, rest) → ReplyFits reply
reply_by true bytes rest reply e = refused_fits (behind (skip bytes)) rest reply e
reply_by false bytes rest reply e = front_made ReplyFits reply_rows bytes reply rest each_reply e

pub reply_fits : (bytes rest : List ℕ) (reply : Reply) → reply_at bytes ≡ Ok (reply, rest) → ReplyFits reply
unfolding reply_at
reply_fits bytes rest reply e = reply_by (bytes_eq (word (skip bytes)) (codes "refused")) bytes rest reply e

-- ---- events

abbrev Unit0 : Type 0
Unit0 = Unit {0}

pub event_fits : (line rest : List ℕ) (event : Event) → event_at line ≡ Ok (event, rest) → IsHeld event
unfolding event_at
event_fits line rest event e =
    let a = bind_ok {A = ℕ × List ℕ} {B = Event × List ℕ} (number_at Journal Short line) (λ (seat : ℕ × List ℕ). ◌>>=◌ {A = Request × List ℕ} {B = Event × List ℕ} (request_at seat.1) (λ request. ◌>>=◌ {A = Unit0 × List ℕ} {B = Event × List ℕ} (equals_at request.1) (λ equals. ◌>>=◌ {A = Reply × List ℕ} {B = Event × List ℕ} (reply_at equals.1) (λ reply. Ok (record { seat = seat.0; request = request.0; reply = reply.0 }, reply.1))))) (event, rest) e in
    let b = bind_ok {A = Request × List ℕ} {B = Event × List ℕ} (request_at a.0.1) (λ (request : Request × List ℕ). ◌>>=◌ {A = Unit0 × List ℕ} {B = Event × List ℕ} (equals_at request.1) (λ equals. ◌>>=◌ {A = Reply × List ℕ} {B = Event × List ℕ} (reply_at equals.1) (λ reply. Ok (record { seat = a.0.0; request = request.0; reply = reply.0 }, reply.1)))) (event, rest) a.2 in
    let c = bind_ok {A = Unit0 × List ℕ} {B = Event × List ℕ} (equals_at b.0.1) (λ (equals : Unit0 × List ℕ). ◌>>=◌ {A = Reply × List ℕ} {B = Event × List ℕ} (reply_at equals.1) (λ reply. Ok (record { seat = a.0.0; request = b.0.0; reply = reply.0 }, reply.1))) (event, rest) b.2 in
    let d = bind_ok {A = Reply × List ℕ} {B = Event × List ℕ} (reply_at c.0.1) (λ (reply : Reply × List ℕ). Ok (record { seat = a.0.0; request = b.0.0; reply = reply.0 }, reply.1)) (event, rest) c.2 in
    let made : Event = record { seat = a.0.0; request = b.0.0; reply = d.0.0 } in
    let held : IsHeld made = record {
      seat = seat_fits line a.0.1 a.0.0 a.1;
      request = request_fits a.0.1 b.0.1 b.0.0 b.1;
      reply = reply_fits c.0.1 d.0.1 d.0.0 d.1;
    } in
    subst IsHeld {x = made} (first_same made event d.0.1 rest d.2) held
