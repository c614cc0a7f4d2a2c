-- A run of the editor: what it adds to a session, and what it tells of the disk. This project's own
-- rules.
use Rattle.std.specs.Prelude.{◌≡◌, ℕ, ◌≤◌, Bool, true, false, List, [], ◌∷◌, ◌++◌, length, All, IfSome, IsSome}
use Rattle.kte_swap.specs.Swap.{SwapView}
use Rattle.kte_swap.specs.declared.causes.SwapState.TheVariants.{Guarded}
use Rattle.kte_command.specs.Commands.{InRange}
use Rattle.kte_command.specs.declared.command.Command.{Command}
use Rattle.kte_script.specs.declared.TheConstants.{MAX_COMMANDS}
use Rattle.kte_core.specs.State.{State}
use Rattle.kte_core.specs.Replay.{Session, Legal, after_event, beginning, present, replay}
use Rattle.kte_core.specs.declared.event.Event.{Event}
use Rattle.kte_desk.specs.Schedule.{Due, IsDue, AllFit, Schedule, asked_for, asked_in, due_after, lost_after, lost_by, nothing}
use Rattle.kte_desk.specs.Serving.{CanDrain, IsIdle}
use Rattle.kte_run.specs.declared.status.Status.{Status}
use Rattle.kte_run.specs.Editor.{IsAt, Part, left}
use Rattle.kte_run.specs.Outcomes.{Begins, Counted, Ended, IsEnding, Keeps, ReadsStay, failed_appends, failed_calls}
use Rattle.kte_run.specs.Run.{Outer}

-- what the editor's last event calls for, after some events more
abbrev pub due_left : State → Due → List Event → Due
due_left state due [] = due
due_left state due (event ∷ events) =
    due_left (after_event state event) (due_after state due event) events

-- each request of the editor is what its last event calls for; in the end something may be left
abbrev pub EachDue : State → Bool → Due → List Event → Type 0
EachDue state lost due [] = Unit {0}
EachDue state lost due (event ∷ events) =
    (event.seat ≡ 0 → IsDue due lost event.request)
    × EachDue (after_event state event) (lost_by lost event.request)
    (due_after state due event) events

-- The requests of a script so far, in the state after the events of a run, and the part with those
-- that are left: each was due, and the part knows the state and owes what is due. Once it is closed,
-- nothing is called for
pub record Asking (commands : List Command) (first now : State) (events : List Event) (part : Part)
    : Type 0 where
  pub now_is : now ≡ replay first events
  pub each_due : EachDue first false nothing events
  pub ordered : asked_in events ++ left part ≡ asked_for commands
  pub at : IsAt now (lost_after false events) (due_left first nothing events) part
  pub shut : part.closed ≡ true → due_left first nothing events ≡ nothing

-- the requests of a script with these commands were made, in order, each outcome was told, and the
-- jobs can be done
pub record Asks (commands : List Command) (before after : Session) : Type 0 where
  pub added : List Event
  pub events : after ≡ record before { events = before.events ++ added }
  pub legal : Legal (present before) added
  pub fit : AllFit 0 (present before) added
  pub each_due : EachDue (present before) false nothing added
  pub settled : due_left (present before) nothing added ≡ nothing
  pub ordered : asked_in added ≡ asked_for commands
  pub can : CanDrain (present after)
  pub idle : IsIdle (present after)

-- the commands of a script, in range, and the writer of an empty swap file
pub record CanBegin (commands : List Command) (swap : SwapView) : Type 0 where
  pub in_range : All InRange commands
  pub few : length commands ≤ MAX_COMMANDS
  pub guarded : swap.state ≡ Guarded

-- What the events of a run tell of the disk, where it began in a state with this swap and ends so:
-- how many calls failed, why it ends so, and what the disk holds, if the run began with its file
pub record TellsDisk (ending : Status) (first : State) (events : List Event) (swap : SwapView)
    (before after : Outer) : Type 0 where
  pub counted : Counted (failed_appends events) (failed_calls false events) before.faults after.faults
  pub ends : IsEnding ending events before.faults after.faults
  pub ended : Ended ending before.faults after.faults
  pub keeps : (file : List ℕ) → Begins file first.editing.loaded swap before.moments
      → Keeps file first events after.moments

-- The commands of a script were carried out in a session without events, with so many checkers: what
-- was added to it, and what this tells of the disk, where the run ends so
pub record CarriesOut (workers : ℕ) (commands : List Command) (swap : SwapView) (ending : Status)
    (before after : Session) (disk later_disk : Outer) : Type 0 where
  pub schedule : Schedule commands workers (beginning before.loaded before.limit) after.events
  pub begun : after ≡ record before { events = after.events }
  pub tells : TellsDisk ending (beginning before.loaded before.limit) after.events swap
      disk later_disk

-- no length was asked for, and nothing was read, with a fault, and a disk that tells what it holds
-- goes on telling
pub record GoesOn (before after : Outer) : Type 0 where
  pub reads : ReadsStay before.faults after.faults
  pub told : IfSome before.moments (λ _. IsSome after.moments)
