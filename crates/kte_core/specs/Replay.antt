-- A session as what it began from and its events; its state is their replay. This project's own
-- rules.
use Rattle.std.specs.Prelude.{◌≡◌, ℕ, false, List, [], ◌∷◌, ◌++◌, Some}
use Rattle.std.specs.List.{flat_map}
use Rattle.std.specs.Option.{option_to_list}
use Rattle.std.specs.FinMap.{empty}
use Rattle.kte_text.specs.declared.primitive.Primitive.{Primitive}
use Rattle.kte_text.specs.declared.loading.Loaded.{Loaded}
use Rattle.kte_place.specs.Ends.{Ends}
use Rattle.kte_doc.specs.Trail.{text_at}
use Rattle.kte_find.specs.declared.rule.Rule.{Rule}
use Rattle.kte_find.specs.Findings.{AreFindings}
use Rattle.kte_jobs.specs.Jobs.{rule_of}
use Rattle.kte_core.specs.Editing.{Editing, unchanged}
use Rattle.kte_core.specs.State.{State, Reaction}
use Rattle.kte_core.specs.Jobs.{taken_at}
use Rattle.kte_core.specs.React.{react, react_by, cut_at, CutsBetween}
use Rattle.kte_core.specs.Requests.{IsAllowed}
use Rattle.kte_core.specs.declared.event.Event.{Event}
use Rattle.kte_core.specs.declared.request.Request.{Request}
use Rattle.kte_core.specs.declared.request.Request.TheVariants.{Deliver}

-- What a core is seen as: what it began from, and what has happened since, in order
pub record Session : Type 0 where
  pub loaded : Loaded
  pub limit : ℕ
  pub events : List Event

-- the state at first: what was loaded, no ranges, no locks and no jobs
abbrev pub beginning : Loaded → ℕ → State
beginning loaded limit = record {
  editing = unchanged loaded limit;
  ranges = empty;
  next_id = 1;
  locks = [];
  jobs = [];
  closed = false;
}

-- what came of an event: its reply tells where memory ran out, if it did
abbrev pub came_of : State → Event → Reaction
came_of state event = react_by state event.seat event.request (cut_at event.reply)

-- the state after one event
abbrev pub after_event : State → Event → State
after_event state event = (came_of state event).after

-- An event is answered in a state: the request was allowed, the reply is the one that it calls for,
-- and memory ran out between two primitives, if it did
pub record IsAnswered (state : State) (event : Event) : Type 0 where
  pub allowed : IsAllowed event.seat event.request
  pub reply : event.reply ≡ (came_of state event).reply
  pub cut : CutsBetween (react state event.seat event.request).made (cut_at event.reply)

-- these are what a rule finds in the text at a revision
abbrev pub FindsAt : Editing → Rule → ℕ → List Ends → Type 0
FindsAt editing rule revision findings =
    AreFindings rule (text_at editing.loaded.text editing.trail revision) findings

-- what a seat delivers of a job that it has taken is what the job's rule finds in the text at the
-- revision at which it was taken
abbrev pub Finds : State → ℕ → Request → Type 0
Finds state seat (Deliver job findings) =
    (rule : Rule) (revision : ℕ) → rule_of state.jobs job ≡ Some rule
    → taken_at state.jobs seat job ≡ Some revision → FindsAt state.editing rule revision findings
Finds state seat _ = Unit {0}

-- an event that may come in a state: it is answered, and delivers what is to be found
pub record IsLegal (state : State) (event : Event) : Type 0 where
  pub answered : IsAnswered state event
  pub finds : Finds state event.seat event.request

-- the state after these events, one after another
abbrev pub replay : State → List Event → State
replay state [] = state
replay state (event ∷ events) = replay (after_event state event) events

-- the transactions that these events finish, each the list of its primitives
abbrev pub transactions : State → List Event → List (List Primitive)
transactions state [] = []
transactions state (event ∷ events) =
    option_to_list (came_of state event).finished ++ transactions (after_event state event) events

-- the primitives of these transactions, one after another
abbrev pub primitives_in : List (List Primitive) → List Primitive
primitives_in transactions = flat_map (λ transaction. transaction) transactions

-- this holds of each event, in the state after those before it
abbrev pub EachIn : (State → Event → Type 0) → State → List Event → Type 0
EachIn P state [] = Unit {0}
EachIn P state (event ∷ events) = P state event × EachIn P (after_event state event) events

-- each event is answered
abbrev pub Answered : State → List Event → Type 0
Answered = EachIn IsAnswered

-- each event may come
abbrev pub Legal : State → List Event → Type 0
Legal = EachIn IsLegal

-- the state now
abbrev pub present : Session → State
present session = replay (beginning session.loaded session.limit) session.events
