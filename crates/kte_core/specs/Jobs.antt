-- Jobs: a rule is posted, a seat takes it at a revision, and delivers what it found there or gives
-- the job back. This project's own rules.
use Rattle.std.specs.Prelude.{◌≡◌, ℕ, ◌+◌, ◌≤◌, true, false, List, [], ◌∷◌, ◌++◌, length, map, Option, Some, None, nat_eq, if◌then◌else◌}
use Rattle.std.specs.Ordering.{nat_cmp}
use Rattle.std.specs.FinMap.{FinMap, insert}
use Rattle.kte_place.specs.Ends.{Ends}
use Rattle.kte_place.specs.declared.span.Empty.TheVariants.{Void}
use Rattle.kte_ranges.specs.declared.info.RangeKind.TheVariants as kind
use Rattle.kte_history.specs.declared.lock.Owner.TheVariants as owner
use Rattle.kte_history.specs.declared.lock.Lock.{Lock}
use Rattle.kte_history.specs.Locks.{has_lock, unlocked}
use Rattle.kte_find.specs.declared.rule.Rule.{Rule}
use Rattle.kte_jobs.specs.declared.job.JobState.{JobState}
use Rattle.kte_jobs.specs.declared.job.JobState.TheVariants.{Waiting, Taken, Done}
use Rattle.kte_jobs.specs.Job.{Job}
use Rattle.kte_jobs.specs.Jobs.{state_of, with_state}
use Rattle.kte_core.specs.Editing.{revision_of}
use Rattle.kte_core.specs.State.{Range, State, Reaction, refused}
use Rattle.kte_core.specs.declared.reply.Reply.TheVariants as reply
use Rattle.kte_core.specs.declared.reply.Refusal.TheVariants.{NoJob, NotTaken}

-- the revision at which this seat has taken a job, if it works on it
abbrev pub taken_in : ℕ → Option JobState → Option ℕ
taken_in seat None = None
taken_in seat (Some Waiting) = None
taken_in seat (Some (Taken holder revision)) = if nat_eq holder seat then Some revision else None
taken_in seat (Some Done) = None

abbrev pub taken_at : List Job → ℕ → ℕ → Option ℕ
taken_at jobs seat job = taken_in seat (state_of jobs job)

-- a job is posted: it gets the next number, and waits
abbrev pub post : State → Rule → Reaction
post state rule = record {
  reply = reply.Posted (length state.jobs + 1);
  made = [];
  finished = None;
  after = record state { jobs = state.jobs ++ record { rule = rule; state = Waiting } ∷ [] };
}

-- The seat takes the least job that waits, if one does. Its lock keeps the present revision until
-- the job is delivered or given back
abbrev pub take_job : State → ℕ → Option ℕ → Reaction
take_job state seat None = refused state (NoJob state.closed)
take_job state seat (Some job) = record {
  reply = reply.Took job (revision_of state.editing);
  made = [];
  finished = None;
  after = record state {
    jobs = with_state state.jobs job (Taken seat (revision_of state.editing));
    locks = state.locks
        ++ record { owner = owner.Job job; revision = revision_of state.editing } ∷ [];
  };
}

-- the range of a finding: its origin is the revision at which the job was taken
abbrev pub found_at : ℕ → ℕ → Ends → Range
found_at job revision span = record {
  expand = record { left = false; right = false };
  empty = Void;
  kind = kind.Job job;
  origin = record { revision = revision; span = span };
}

-- these ranges too, under rising numbers from this one on
abbrev pub with_ranges : FinMap nat_cmp Range → ℕ → List Range → FinMap nat_cmp Range
with_ranges ranges id [] = ranges
with_ranges ranges id (range ∷ others) = with_ranges (insert ranges id range) (id + 1) others

-- The job is done, each finding is a range, and the job's lock is removed, if this seat has taken
-- the job
abbrev pub deliver : State → ℕ → List Ends → Option ℕ → Reaction
deliver state job findings None = refused state (NotTaken job)
deliver state job findings (Some revision) = record {
  reply = reply.Delivered job state.next_id (length findings);
  made = [];
  finished = None;
  after = record state {
    ranges = with_ranges state.ranges state.next_id (map (found_at job revision) findings);
    next_id = state.next_id + length findings;
    locks = unlocked state.locks (owner.Job job) revision;
    jobs = with_state state.jobs job Done;
  };
}

-- the job waits again, and its lock is removed, if this seat has taken it
abbrev pub give_back : State → ℕ → Option ℕ → Reaction
give_back state job None = refused state (NotTaken job)
give_back state job (Some revision) = record {
  reply = reply.Returned job;
  made = [];
  finished = None;
  after = record state {
    locks = unlocked state.locks (owner.Job job) revision;
    jobs = with_state state.jobs job Waiting;
  };
}

-- each job that is taken has a lock on a revision of the trail
pub record IsKept (state : State) (job revision : ℕ) : Type 0 where
  pub within : revision ≤ revision_of state.editing
  pub locked : has_lock state.locks (owner.Job job) revision ≡ true

abbrev pub KeepsRevisions : State → Type 0
KeepsRevisions state =
    (job seat revision : ℕ) → taken_at state.jobs seat job ≡ Some revision
    → IsKept state job revision

-- .. that is, in these jobs and locks alone
abbrev pub AreLocked : List Job → List Lock → Type 0
AreLocked jobs locks =
    (job seat revision : ℕ) → taken_at jobs seat job ≡ Some revision
    → has_lock locks (owner.Job job) revision ≡ true
