-- All jobs, by their numbers, which rise from 1. This project's own rule
use Rattle.std.specs.Prelude.{◌≡◌, ℕ, ◌+◌, ◌-◌, ◌≤◌, true, List, slice_get, slice_set, position, nat_eq, Option, Some, None, if◌then◌else◌}
use Rattle.std.specs.Option.{option_map, option_map_or}
use Rattle.kte_find.specs.declared.rule.Rule.{Rule}
use Rattle.kte_jobs.specs.declared.job.JobState.{JobState}
use Rattle.kte_jobs.specs.Job.{Job, is_waiting, is_taken}

-- the job of this number, the first of which is 1
abbrev pub job_at : List Job → ℕ → Option Job
job_at jobs number = if nat_eq number 0 then None else slice_get jobs (number - 1)

-- its state and its rule
abbrev pub state_of : List Job → ℕ → Option JobState
state_of jobs number = option_map (λ job. job.state) (job_at jobs number)

abbrev pub rule_of : List Job → ℕ → Option Rule
rule_of jobs number = option_map (λ job. job.rule) (job_at jobs number)

-- there is a job of this number, and it waits
pub record Waits (jobs : List Job) (number : ℕ) : Type 0 where
  pub state : JobState
  pub there : state_of jobs number ≡ Some state
  pub waits : is_waiting state ≡ true

-- there is a job of this number, and a seat works on it
pub record IsTaken (jobs : List Job) (number : ℕ) : Type 0 where
  pub state : JobState
  pub there : state_of jobs number ≡ Some state
  pub taken : is_taken state ≡ true

-- the least number of a job that waits
pub record IsLeastWaiting (jobs : List Job) (number : ℕ) : Type 0 where
  pub waits : Waits jobs number
  pub least : (other : ℕ) → Waits jobs other → number ≤ other

-- the same as a function
abbrev pub least_waiting : List Job → Option ℕ
least_waiting jobs = option_map (λ n. n + 1) (position (λ job. is_waiting job.state) jobs)

-- the jobs after the one of this number has another state
abbrev pub with_state : List Job → ℕ → JobState → List Job
with_state jobs number state =
    option_map_or (λ job. slice_set jobs (number - 1) (record job { state = state }))
    (job_at jobs number) jobs
