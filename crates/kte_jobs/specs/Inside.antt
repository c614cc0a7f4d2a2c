-- What is known of the jobs and of the first that waits.
use Rattle.std.specs.Prelude.{◌≡◌, ℕ, ◌<◌, ◌≤◌, ◌^◌, true, false, List, length, slice_get, Some}
use Rattle.kte_find.specs.Rule.{HasWord}
use Rattle.kte_jobs.specs.Job.{Job, is_waiting}

-- no job from one index up to another waits
abbrev pub NoneWaits : List Job → ℕ → ℕ → Type 0
NoneWaits jobs from to =
    (n : ℕ) (job : Job) → from ≤ n → n < to → slice_get jobs n ≡ Some job
    → is_waiting job.state ≡ false

-- the job at this index waits, or it is past the last one
abbrev pub WaitsOrEnds : List Job → ℕ → Type 0
WaitsOrEnds jobs n = (job : Job) → slice_get jobs n ≡ Some job → is_waiting job.state ≡ true

-- the first job that waits, or the end
pub record IsFirst (jobs : List Job) (first : ℕ) : Type 0 where
  pub within : first ≤ length jobs
  pub none : NoneWaits jobs 0 first
  pub some : WaitsOrEnds jobs first

-- the jobs, and the index of the first that waits
pub record Holds (jobs : List Job) (first : ℕ) : Type 0 where
  pub numbers : length jobs < 2 ^ 32
  pub words : (n : ℕ) (job : Job) → slice_get jobs n ≡ Some job → HasWord job.rule
  pub is_first : IsFirst jobs first
