-- How many jobs are in a state that passes a test, after one of them has another state, and after one
-- more is posted.
use Rattle.std.proofs.Common.{◌≡◌, ℕ, ◌+◌, ◌-◌, ◌≤◌, Bool, List, length, set, Some, if◌then◌else◌, ap, sym, ◌∙◌, arith}
use Rattle.std.specs.Prelude.{count_by}
use Rattle.std.proofs.lemmas.Option.{get_or_from_slice_get, slice_get_within}
use Rattle.std.proofs.lemmas.List.Sums.{sum_by-set, length-filter, count_by-le-length}
use Rattle.kte_jobs.specs.declared.job.JobState.{JobState}
use Rattle.kte_jobs.specs.Job.{Job, is_taken}
use Rattle.kte_jobs.specs.Jobs.{state_of, with_state}
use Rattle.kte_jobs.proofs.JobLemmas.{stands, changed}
use Rattle.kte_core.specs.Kept.{count_taken}

abbrev pub count_in : (JobState → Bool) → List Job → ℕ
count_in test jobs = count_by (λ job. test job.state) jobs

abbrev pub one_if : (JobState → Bool) → JobState → ℕ
one_if test state = if test state then 1 else 0

-- one job's new state
pub count-set : (test : JobState → Bool) (jobs : List Job) (number : ℕ) (old new : JobState) → state_of jobs number ≡ Some old
    → count_in test (with_state jobs number new) + one_if test old ≡ count_in test jobs + one_if test new
count-set test jobs number old new there =
    let at = stands jobs number old there in
    let value : Job → ℕ = λ job. if test job.state then 1 else 0 in
    let is = get_or_from_slice_get jobs (number - 1) at.0 at.0 at.2 in
    let summed = sum_by-set value jobs (number - 1) (record at.0 { state = new }) at.0 (slice_get_within jobs (number - 1) at.0 at.2) in
    ap (λ js. count_in test js + one_if test old) (changed jobs number new at.0 at.1 at.2)
    ∙ (ap (λ n. count_in test (set jobs (number - 1) (record at.0 { state = new })) + n) (sym (ap value is ∙ ap (one_if test) at.3)) ∙ summed)

-- those that are taken
pub taken_in_all : (jobs : List Job) → count_taken jobs ≡ count_in is_taken jobs
taken_in_all jobs = length-filter (λ (job : Job). is_taken job.state) jobs

pub count_within : (jobs : List Job) → count_taken jobs ≤ length jobs
count_within jobs = omega (arith, taken_in_all jobs, count_by-le-length (λ (job : Job). is_taken job.state) jobs)
