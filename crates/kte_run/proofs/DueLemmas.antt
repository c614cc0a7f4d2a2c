-- What the editor's last event calls for, after some events and one more.
use Rattle.std.proofs.Common.{◌≡◌, Bool, List, [], ◌∷◌, ◌++◌, refl}
use Rattle.kte_core.specs.State.{State}
use Rattle.kte_core.specs.Replay.{after_event, replay}
use Rattle.kte_core.specs.declared.event.Event.{Event}
use Rattle.kte_desk.specs.Schedule.{Due, InTurn, IsDue, due_after, lost_after, lost_by}
use Rattle.kte_run.specs.Alone.{EachDue, due_left}

pub due_left-last : (state : State) (due : Due) (events : List Event) (event : Event)
    → due_left state due (events ++ event ∷ []) ≡ due_after (replay state events) (due_left state due events) event
due_left-last state due [] event = refl
due_left-last state due (first ∷ events) event = due_left-last (after_event state first) (due_after state due first) events event

pub lost_after-last : (lost : Bool) (events : List Event) (event : Event)
    → lost_after lost (events ++ event ∷ []) ≡ lost_by (lost_after lost events) event.request
lost_after-last lost [] event = refl
lost_after-last lost (first ∷ events) event = lost_after-last (lost_by lost first.request) events event

-- a request more that is called for
pub EachDue-last : (state : State) (lost : Bool) (due : Due) (events : List Event) (event : Event) → EachDue state lost due events
    → (event.seat ≡ 0 → IsDue (due_left state due events) (lost_after lost events) event.request)
    → EachDue state lost due (events ++ event ∷ [])
EachDue-last state lost due [] event each is = (is, tt)
EachDue-last state lost due (first ∷ events) event each is =
    (each.0, EachDue-last (after_event state first) (lost_by lost first.request) (due_after state due first) events event each.1 is)

-- others that are in turn, in the end with nothing left
pub InTurn-after : (state : State) (lost : Bool) (due : Due) (events more : List Event) → EachDue state lost due events
    → InTurn (replay state events) (lost_after lost events) (due_left state due events) more → InTurn state lost due (events ++ more)
InTurn-after state lost due [] more each turn = turn
InTurn-after state lost due (first ∷ events) more each turn =
    (each.0, InTurn-after (after_event state first) (lost_by lost first.request) (due_after state due first) events more each.1 turn)
