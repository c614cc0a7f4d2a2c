-- Worked examples of the definitions.
use Rattle.std.proofs.Common.{◌≡◌, List, [], ◌∷◌, Some, None, refl}
use Rattle.kte_find.specs.declared.rule.Rule.TheVariants.{Blanks, Pairs}
use Rattle.kte_jobs.specs.declared.job.JobState.TheVariants.{Waiting, Taken, Done}
use Rattle.kte_jobs.specs.Job.{Job}
use Rattle.kte_jobs.specs.Jobs.{state_of, rule_of, least_waiting, with_state}

-- a job that is done, and one that waits
abbrev two : List Job
two = (record { rule = Blanks; state = Done }) ∷ (record { rule = Pairs; state = Waiting }) ∷ []

-- numbers begin at 1
first_state : state_of two 1 ≡ Some Done
first_state = refl

second_rule : rule_of two 2 ≡ Some Pairs
second_rule = refl

no_job_zero : state_of two 0 ≡ None
no_job_zero = refl

no_third_job : state_of two 3 ≡ None
no_third_job = refl

second_waits : least_waiting two ≡ Some 2
second_waits = refl

-- the second job is taken by seat 5 at revision 9; then none waits
taken : state_of (with_state two 2 (Taken 5 9)) 2 ≡ Some (Taken 5 9)
taken = refl

other_kept : state_of (with_state two 2 (Taken 5 9)) 1 ≡ Some Done
other_kept = refl

rule_kept : rule_of (with_state two 2 (Taken 5 9)) 2 ≡ Some Pairs
rule_kept = refl

none_waits : least_waiting (with_state two 2 (Taken 5 9)) ≡ None
none_waits = refl

-- a change of a job that is not there changes nothing
no_such_job : with_state two 3 Done ≡ two
no_such_job = refl
