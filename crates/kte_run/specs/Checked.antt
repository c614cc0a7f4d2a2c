-- A run with checkers beside the editor: what each of them has seen and made once it is done. From
-- this it follows that the history is one that such a run may have. This project's own rules.
use Rattle.std.specs.Prelude.{◌≡◌, ℕ, ◌+◌, true, false, List, ◌++◌, All, Some, None}
use Rattle.std.specs.List.{flat_map, slice_get}
use mathlib.Core.List.{IsPrefix}
use Rattle.kte_turn.specs.Known.{events_of}
use Rattle.kte_command.specs.declared.command.Command.{Command}
use Rattle.kte_core.specs.State.{State}
use Rattle.kte_core.specs.JobsInWords.{IsFree, NoneWaits}
use Rattle.kte_core.specs.React.{cut_at}
use Rattle.kte_core.specs.Replay.{replay}
use Rattle.kte_core.specs.declared.event.Event.{Event}
use Rattle.kte_core.specs.declared.reply.Reply.{Reply}
use Rattle.kte_core.specs.declared.reply.Reply.TheVariants.{Took, Delivered}
use Rattle.kte_core.specs.declared.request.Request.{Request}
use Rattle.kte_core.specs.declared.request.Request.TheVariants.{Take, Deliver}
use Rattle.kte_desk.specs.Seen.{seat_of}
use Rattle.kte_desk.specs.Schedule.{IsSettled, asked_for, asked_in, nothing}
use Rattle.kte_run.specs.Editor.{IsOwn}
use Rattle.kte_run.specs.Alone.{EachDue, due_left}

-- a command, the close or the outcome of a call outside, and memory did not run out
abbrev pub IsEditorEvent : Event → Type 0
IsEditorEvent event = IsOwn event.request × (cut_at event.reply ≡ None)

-- a job was taken, or delivered
abbrev pub TakesOrDelivers : Request → Reply → Type 0
TakesOrDelivers Take (Took job revision) = Unit {0}
TakesOrDelivers (Deliver job findings) (Delivered number first count) = Unit {0}
TakesOrDelivers _ _ = ⊥

abbrev pub IsCheckerEvent : Event → Type 0
IsCheckerEvent event = TakesOrDelivers event.request event.reply

-- What the editor has seen and made once it is done. It left the jobs to others, and asked for the
-- commands in order, an end for each level that they leave open, and the close. Each of its
-- requests was what its last event called for, and nothing is left to be told
pub record EditorDid (commands : List Command) (first : State) (seen own : List Event)
    : Type 0 where
  pub mine : events_of seat_of 0 seen ≡ own
  pub calls : All IsEditorEvent own
  pub ordered : asked_in own ≡ asked_for commands
  pub each_due : EachDue first false nothing seen
  pub settled : IsSettled (due_left first nothing seen)

-- What a checker has seen and made once it is done. It took jobs and delivered them, and nothing
-- else. In what it has seen the session is closed, no job waits, and its seat works on none
pub record CheckerDid (first : State) (seat : ℕ) (seen own : List Event) : Type 0 where
  pub mine : events_of seat_of seat seen ≡ own
  pub calls : All IsCheckerEvent own
  pub closed : (replay first seen).closed ≡ true
  pub none_waits : NoneWaits (replay first seen)
  pub free : IsFree (replay first seen) seat

-- what a checker's pass has seen, and the events that it made
module _ {P : Type 0} (seen own : P → List Event) where
  -- each checker is done; they have the seats from 1 on, in order
  abbrev pub CheckersDid : State → List P → Type 0
  CheckersDid first checkers =
      (n : ℕ) (pass : P) → slice_get checkers n ≡ Some pass
      → CheckerDid first (n + 1) (seen pass) (own pass)

  -- The history of an editor and of checkers: it begins with what each of them has seen, and its
  -- events of each seat are those that they made
  pub record IsHistoryOf (events editor_seen editor_own : List Event) (checkers : List P)
      : Type 0 where
    pub editor_saw : IsPrefix editor_seen events
    pub checkers_saw : All (λ pass. IsPrefix (seen pass) events) checkers
    pub made : (seat : ℕ) → events_of seat_of seat events
        ≡ events_of seat_of seat (editor_own ++ flat_map own checkers)
