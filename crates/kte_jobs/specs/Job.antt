-- A job: a rule, and how far it is. This project's own rule
use Rattle.std.specs.Prelude.{Bool, true, false}
use Rattle.kte_find.specs.declared.rule.Rule.{Rule}
use Rattle.kte_jobs.specs.declared.job.JobState.{JobState}
use Rattle.kte_jobs.specs.declared.job.JobState.TheVariants.{Waiting, Taken, Done}

-- a job
pub record Job : Type 0 where
  pub rule : Rule
  pub state : JobState

-- nobody has taken the job
abbrev pub is_waiting : JobState → Bool
is_waiting Waiting = true
is_waiting (Taken seat revision) = false
is_waiting Done = false

-- a seat works on the job
abbrev pub is_taken : JobState → Bool
is_taken Waiting = false
is_taken (Taken seat revision) = true
is_taken Done = false
