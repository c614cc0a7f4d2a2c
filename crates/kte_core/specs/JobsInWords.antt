-- What comes of a request as regards the jobs, the close and the trail, in words.
use Rattle.std.specs.Prelude.{◌≡◌, ◌≢◌, ℕ, ◌+◌, ◌≤◌, Bool, false, List, ◌++◌, count_by, All, Some, None}
use Rattle.kte_text.specs.declared.primitive.Primitive.{Primitive}
use Rattle.kte_place.specs.Ends.{Ends}
use Rattle.kte_history.specs.declared.lock.Owner.TheVariants as owner
use Rattle.kte_history.specs.Locks.{has_lock}
use Rattle.kte_find.specs.declared.rule.Rule.{Rule}
use Rattle.kte_jobs.specs.declared.job.JobState.TheVariants.{Waiting, Taken, Done}
use Rattle.kte_jobs.specs.Job.{Job, is_waiting}
use Rattle.kte_jobs.specs.Jobs.{state_of, least_waiting}
use Rattle.kte_command.specs.declared.command.Command.TheVariants.{Check}
use Rattle.kte_core.specs.Editing.{Editing, revision_of}
use Rattle.kte_core.specs.State.{State, Reaction}
use Rattle.kte_core.specs.Jobs.{taken_at, post, take_job, deliver, give_back}
use Rattle.kte_core.specs.React.{close}
use Rattle.kte_core.specs.Requests.{ranges_of}
use Rattle.kte_core.specs.declared.request.Request.{Request}
use Rattle.kte_core.specs.declared.request.Request.TheVariants.{Cmd, Close, Take, Deliver, GiveBack, Outcome}

-- the jobs, their locks and the close are as before
pub record Leaves (state : State) (came : Reaction) : Type 0 where
  pub jobs : came.after.jobs ≡ state.jobs
  pub closed : came.after.closed ≡ state.closed
  pub locks : (job revision : ℕ) → has_lock came.after.locks (owner.Job job) revision
      ≡ has_lock state.locks (owner.Job job) revision

-- What comes of a seat's request: the jobs and the close are as before; or the session, which was
-- open, is closed; or it was open, and a job is posted; or the least job that waits is taken; or a
-- job that the seat has taken is done, or given back
pub data JobChange (state : State) (seat : ℕ) (request : Request) (came : Reaction) : Type 0 where
  stays : Leaves state came → JobChange state seat request came
  closes : request ≡ Close → state.closed ≡ false → came ≡ close state
      → JobChange state seat request came
  posts : (rule : Rule) → request ≡ Cmd (Check rule) → state.closed ≡ false
      → came ≡ post state rule → JobChange state seat request came
  takes : (job : ℕ) → request ≡ Take → least_waiting state.jobs ≡ Some job
      → came ≡ take_job state seat (Some job) → JobChange state seat request came
  finishes : (job revision : ℕ) (findings : List Ends) → request ≡ Deliver job findings
      → taken_at state.jobs seat job ≡ Some revision
      → came ≡ deliver state job findings (Some revision) → JobChange state seat request came
  returns : (job revision : ℕ) → request ≡ GiveBack job
      → taken_at state.jobs seat job ≡ Some revision → came ≡ give_back state job (Some revision)
      → JobChange state seat request came

-- What is loaded and the limit stay, the primitives that were made are added to the trail, and the
-- depth and the next number of a range rise by no more than they may
pub record Grows (state : State) (request : Request) (came : Reaction) : Type 0 where
  pub loaded : came.after.editing.loaded ≡ state.editing.loaded
  pub limit : came.after.editing.limit ≡ state.editing.limit
  pub trail : came.after.editing.trail ≡ state.editing.trail ++ came.made
  pub depth : came.after.editing.edits.depth ≤ state.editing.edits.depth + 1
  pub next_id : came.after.next_id ≤ state.next_id + ranges_of request

-- what is edited came further from what was edited: the trail is longer, and what was loaded and
-- the limit are the same
pub record Follows (before after : Editing) : Type 0 where
  pub more : List Primitive
  pub trail : after.trail ≡ before.trail ++ more
  pub loaded : after.loaded ≡ before.loaded
  pub limit : after.limit ≡ before.limit

-- what a request may make of a job has this property: of one that it posts in an open session, and
-- of one that had the property before
abbrev pub Allows : (Job → Type 0) → State → ℕ → Request → Type 0
Allows P state seat (Cmd command) =
    (rule : Rule) → command ≡ Check rule → state.closed ≡ false
    → P (record { rule = rule; state = Waiting })
Allows P state seat Close = Unit {0}
Allows P state seat Take =
    (job : Job) → P job → P (record job { state = Taken seat (revision_of state.editing) })
Allows P state seat (Deliver number findings) =
    (job : Job) → P job → P (record job { state = Done })
Allows P state seat (GiveBack number) =
    (job : Job) → P job → P (record job { state = Waiting })
Allows P state seat (Outcome call ok) = Unit {0}

-- no job waits
abbrev pub NoneWaits : State → Type 0
NoneWaits state = All (λ job. is_waiting job.state ≡ false) state.jobs

-- how many jobs wait
abbrev pub count_waiting : State → ℕ
count_waiting state = count_by (λ job. is_waiting job.state) state.jobs

-- the seat works on no job
abbrev pub IsFree : State → ℕ → Type 0
IsFree state seat = (job : ℕ) → taken_at state.jobs seat job ≡ None

-- the seat works on this job alone, which it took at a revision of the trail
pub record WorksOn (state : State) (seat job revision : ℕ) : Type 0 where
  pub taken : taken_at state.jobs seat job ≡ Some revision
  pub alone : (other : ℕ) → other ≢ job → taken_at state.jobs seat other ≡ None
  pub within : revision ≤ revision_of state.editing

-- the request neither delivers this job nor gives it back
abbrev pub IsNotOf : ℕ → Request → Type 0
IsNotOf job (Deliver other findings) = other ≢ job
IsNotOf job (GiveBack other) = other ≢ job
IsNotOf job _ = Unit {0}

-- the seat has taken the job, which was the least that waited, at the present revision
pub record HasTaken (before : State) (seat job revision : ℕ) (after : State) : Type 0 where
  pub least : least_waiting before.jobs ≡ Some job
  pub present : revision ≡ revision_of before.editing
  pub taken : taken_at after.jobs seat job ≡ Some revision
  pub editing : after.editing ≡ before.editing

-- the seat, which had taken the job, has delivered it
pub record HasDelivered (before : State) (seat job : ℕ) (after : State) : Type 0 where
  pub revision : ℕ
  pub taken : taken_at before.jobs seat job ≡ Some revision
  pub done : state_of after.jobs job ≡ Some Done
  pub editing : after.editing ≡ before.editing

-- the seat, which had taken the job, has given it back
pub record HasReturned (before : State) (seat job : ℕ) (after : State) : Type 0 where
  pub revision : ℕ
  pub taken : taken_at before.jobs seat job ≡ Some revision
  pub waits : state_of after.jobs job ≡ Some Waiting
  pub editing : after.editing ≡ before.editing

-- no job waits, which was replied together with whether the session is closed
pub record HasNone (before : State) (told : Bool) (after : State) : Type 0 where
  pub closed : told ≡ before.closed
  pub none : NoneWaits before
  pub same : after ≡ before
