-- Answered and legal events are so in one way only, so a ghost field of a struct may hold it.
use Rattle.std.proofs.Common.{◌≡◌, ℕ, List, [], ◌∷◌, Option, Some, None}
use denote.Struct.Props as logic
use Rattle.kte_text.specs.declared.primitive.Primitive.{Primitive}
use Rattle.kte_doc.specs.Trail.{text_at}
use Rattle.kte_find.specs.Rule.{HasWord}
use Rattle.kte_find.specs.declared.rule.Rule.{Rule}
use Rattle.kte_find.specs.declared.rule.Rule.TheVariants.{Word, Blanks, Long, Pairs, Repeat}
use Rattle.kte_command.specs.Commands.{InRange}
use Rattle.kte_command.specs.declared.command.Command.{Command}
use Rattle.kte_command.specs.declared.command.Command.TheVariants as command
use Rattle.kte_core.specs.State.{State}
use Rattle.kte_core.specs.React.{react, cut_at, CutsBetween}
use Rattle.kte_core.specs.Requests.{IsAllowed}
use Rattle.kte_core.specs.Replay.{came_of, after_event, EachIn, IsAnswered, Answered, Finds, IsLegal, Legal}
use Rattle.kte_core.specs.JobsInWords.{IsFree, WorksOn}
use Rattle.kte_core.specs.declared.event.Event.{Event}
use Rattle.kte_core.specs.declared.request.Request.{Request}
use Rattle.kte_core.specs.declared.request.Request.TheVariants.{Cmd, Close, Take, Deliver, GiveBack, Outcome}
use Rattle.kte_core.proofs.FindingPropLemmas.{findings-prop}

word-prop : (rule : Rule) → IsProp (HasWord rule)
word-prop (Word word) = hlevel (logic.props)
word-prop Blanks = hlevel
word-prop (Long limit) = hlevel
word-prop Pairs = hlevel
word-prop Repeat = hlevel

range-prop : (command : Command) → IsProp (InRange command)
range-prop (command.Edit change) = hlevel
range-prop command.Begin = hlevel
range-prop command.End = hlevel
range-prop command.Undo = hlevel
range-prop command.Redo = hlevel
range-prop (command.MakeRange span expand empty) = hlevel (logic.props)
range-prop (command.SetRange id span) = hlevel (logic.props)
range-prop (command.DropRange id) = hlevel
range-prop (command.ShowRange id) = hlevel
range-prop command.Lock = hlevel
range-prop (command.Unlock revision) = hlevel
range-prop (command.Land revision span expand empty) = hlevel (logic.props)
range-prop (command.Fold span) = hlevel (logic.props)
range-prop (command.Unfold id) = hlevel
range-prop (command.Find from query) = hlevel (logic.props)
range-prop (command.FindBack before query) = hlevel (logic.props)
range-prop (command.All query) = hlevel (logic.props)
range-prop (command.Check rule) = word-prop rule
range-prop command.Sync = hlevel
range-prop command.Save = hlevel

allowed-prop : (seat : ℕ) (request : Request) → IsProp (IsAllowed seat request)
allowed-prop seat (Cmd command) = let p = range-prop command in hlevel (logic.props, p)
allowed-prop seat Close = hlevel (logic.props)
allowed-prop seat Take = hlevel
allowed-prop seat (Deliver job findings) = hlevel (logic.props)
allowed-prop seat (GiveBack job) = hlevel
allowed-prop seat (Outcome call ok) = hlevel (logic.props)

cuts-prop : (primitives : List Primitive) (o : Option ℕ) → IsProp (CutsBetween primitives o)
cuts-prop primitives None = hlevel
cuts-prop primitives (Some n) = hlevel (logic.props)

answered_event-prop : (state : State) (event : Event) → IsProp (IsAnswered state event)
answered_event-prop state event =
    let allowed = allowed-prop event.seat event.request in
    let reply : IsProp (event.reply ≡ (came_of state event).reply) = hlevel (logic.props) in
    let cut = cuts-prop (react state event.seat event.request).made (cut_at event.reply) in
    hlevel (allowed, reply, cut)

finds-prop : (state : State) (seat : ℕ) (request : Request) → IsProp (Finds state seat request)
finds-prop state seat (Deliver job findings) = λ p q.
    λ i rule revision has taken. findings-prop rule (text_at state.editing.loaded.text state.editing.trail revision) findings
    (p rule revision has taken) (q rule revision has taken) i
finds-prop state seat _ = hlevel

legal_event-prop : (state : State) (event : Event) → IsProp (IsLegal state event)
legal_event-prop state event =
    let answered = answered_event-prop state event in
    let finds = finds-prop state event.seat event.request in
    hlevel (answered, finds)

-- what holds of each event in one way only holds so of all
EachIn-prop : (P : State → Event → Type 0) → ((state : State) (event : Event) → IsProp (P state event))
    → (state : State) (events : List Event) → IsProp (EachIn P state events)
EachIn-prop P prop state [] = hlevel
EachIn-prop P prop state (event ∷ events) =
    let first = prop state event in
    let rest = EachIn-prop P prop (after_event state event) events in
    hlevel (first, rest)

pub Answered-prop : (state : State) (events : List Event) → IsProp (Answered state events)
Answered-prop = EachIn-prop IsAnswered answered_event-prop

pub Legal-prop : (state : State) (events : List Event) → IsProp (Legal state events)
Legal-prop = EachIn-prop IsLegal legal_event-prop

-- ---- what a seat works on

pub free-prop : (state : State) (seat : ℕ) → IsProp (IsFree state seat)
free-prop state seat = hlevel (logic.props)

pub works_on-prop : (state : State) (seat job revision : ℕ) → IsProp (WorksOn state seat job revision)
works_on-prop state seat job revision = hlevel (logic.props)
