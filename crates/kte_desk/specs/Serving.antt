-- Jobs that the editor does by itself once the session is closed: what it adds to a session, and
-- what it must have for that. This project's own rules.
use Rattle.std.specs.Prelude.{◌≡◌, ℕ, ◌+◌, ◌-◌, ◌*◌, ◌<◌, ◌≤◌, ◌^◌, Bool, true, List, [], ◌∷◌, ◌++◌, length, All}
use Rattle.kte_place.specs.Ends.{Ends}
use Rattle.kte_find.specs.declared.found.TheConstants.{MAX_FINDINGS}
use Rattle.kte_jobs.specs.declared.job.JobState.TheVariants.{Done}
use Rattle.kte_core.specs.State.{State}
use Rattle.kte_core.specs.JobsInWords.{IsFree, count_waiting}
use Rattle.kte_core.specs.Replay.{Session, Legal, IsLegal, present}
use Rattle.kte_core.specs.declared.event.Event.{Event}
use Rattle.kte_core.specs.declared.reply.Reply.{Reply}
use Rattle.kte_core.specs.declared.request.Request.{Request}
use Rattle.kte_core.specs.declared.request.Request.TheVariants.{Deliver}
use Rattle.kte_desk.specs.Schedule.{AllFit, InTurn, NoneFailed, asked_in, nothing}

-- an event of the editor
abbrev pub own : Request → Reply → Event
own request answer = record { seat = 0; request = request; reply = answer }

-- nobody works on a job
abbrev pub NoneTaken : State → Type 0
NoneTaken state = (seat : ℕ) → IsFree state seat

-- Events that the editor alone may add to a state, whether the swap file is lost or not: each of
-- its requests is called for, in the end nothing is left to be told or delivered, and no call
-- outside is told to have failed
pub record Alone (state : State) (events : List Event) : Type 0 where
  pub legal : Legal state events
  pub fit : AllFit 0 state events
  pub in_turn : (lost : Bool) → InTurn state lost nothing events
  pub went_well : NoneFailed events

-- There are numbers left for a job, for a transaction, and for so many ranges more
pub record HasRoom (state : State) (more : ℕ) : Type 0 where
  pub depth : state.editing.edits.depth < 2 ^ 32 - 1
  pub jobs : length state.jobs < 2 ^ 32 - 1
  pub ranges : state.next_id + more ≤ 2 ^ 63

-- there are numbers for what the jobs that wait find
abbrev pub CanDrain : State → Type 0
CanDrain state = HasRoom state (MAX_FINDINGS * count_waiting state)

-- the session is closed, and nobody works on a job
pub record IsIdle (state : State) : Type 0 where
  pub closed : state.closed ≡ true
  pub none_taken : NoneTaken state

-- jobs are taken and delivered at once by the editor, and nothing else is added
pub record Serves (before after : Session) : Type 0 where
  pub added : List Event
  pub events : after ≡ record before { events = before.events ++ added }
  pub alone : Alone (present before) added
  pub ordered : asked_in added ≡ []

-- .. until all are done
pub record Drains (before after : Session) : Type 0 where
  pub serves : Serves before after
  pub done : All (λ job. job.state ≡ Done) (present after).jobs

-- what the rule of a job finds is delivered, and nothing else is added
pub record DeliversFound (job : ℕ) (before after : Session) : Type 0 where
  pub findings : List Ends
  pub reply : Reply
  pub events : after ≡ record before {
    events = before.events ++ own (Deliver job findings) reply ∷ [];
  }
  pub legal : IsLegal (present before) (own (Deliver job findings) reply)
  pub few : length findings ≤ MAX_FINDINGS
