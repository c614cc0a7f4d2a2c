-- One job among the others, after a change of its state and after a job is posted.
use Rattle.std.proofs.Common.{◌≡◌, ◌≢◌, ℕ, zero, suc, ◌+◌, ◌-◌, All, Bool, true, false, List, [], ◌∷◌, ◌++◌, length, get_or, ◌⊎◌, Option, Some, None, inl, inr, refl, ap, sym, ◌∙◌, arith}
use Rattle.std.specs.Prelude.{slice_get, slice_set, position, nat_eq, nat_lt, not}
use Rattle.std.specs.List.{position_or_len}
use Rattle.std.specs.Option.{option_map, option_map_or}
use Rattle.std.proofs.lemmas.Bool.{cases_lt, lt-ltb, cond-true, not-true, eqb-true, true≢false}
use Rattle.std.proofs.lemmas.Option.{slice_get-get_or, slice_get_within, cond_some, none-some, same_Some}
use Rattle.std.proofs.lemmas.List.Sums.{prefix_len_passes}
use Rattle.std.proofs.lemmas.List.Quantifiers.{position-Some}
use Rattle.kte_find.specs.declared.rule.Rule.{Rule}
use Rattle.kte_find.specs.declared.rule.Rule.TheVariants.{Blanks}
use Rattle.kte_jobs.specs.declared.job.JobState.{JobState}
use Rattle.kte_jobs.specs.declared.job.JobState.TheVariants.{Waiting, Taken, Done}
use Rattle.kte_jobs.specs.Job.{Job, is_waiting}
use Rattle.kte_jobs.specs.Jobs.{job_at, state_of, least_waiting, with_state}
use Rattle.kte_jobs.proofs.ItemLemmas.{get_set_same, get_set_other}
use Rattle.kte_jobs.proofs.JobLemmas.{job_at_number, changed as changed_job}
use Rattle.kte_core.specs.Jobs.{taken_in, taken_at}

-- a job that is not there changes nothing
pub at_none : (jobs : List Job) (number : ℕ) (new : JobState) → job_at jobs number ≡ None → with_state jobs number new ≡ jobs
at_none jobs number new none =
    ap (λ o. option_map_or (λ job. slice_set jobs (number - 1) (record job { state = new })) o jobs) none

-- after the state of one job has changed, another job is as before
pub job_at-other : (jobs : List Job) (number : ℕ) (new : JobState) (other : ℕ) → number ≢ other
    → job_at (with_state jobs number new) other ≡ job_at jobs other
job_at-other jobs number new zero apart = refl
job_at-other jobs zero new (suc k) apart = refl
job_at-other jobs (suc n) new (suc k) apart = by_job (job_at jobs (suc n)) where
  by_job : (o : Option Job)
      → job_at (option_map_or (λ job. slice_set jobs (suc n - 1) (record job { state = new })) o jobs) (suc k) ≡ job_at jobs (suc k)
  by_job None = refl
  by_job (Some job) =
      job_at_number _ (suc k) (omega arith)
      ∙ (get_set_other jobs (suc n - 1) (suc k - 1) (record job { state = new }) (λ e. apart (omega arith))
      ∙ sym (job_at_number jobs (suc k) (omega arith)))

-- .. and this one has its rule and the new state
pub job_at-same : (jobs : List Job) (number : ℕ) (new : JobState) (job : Job) → job_at jobs number ≡ Some job
    → job_at (with_state jobs number new) number ≡ Some (record job { state = new })
job_at-same jobs zero new job is = cc
job_at-same jobs (suc n) new job is =
    let at = sym (job_at_number jobs (suc n) (omega arith)) ∙ is in
    job_at_number _ (suc n) (omega arith)
    ∙ (ap (λ (js : List Job). slice_get js (suc n - 1)) (changed_job jobs (suc n) new job (omega arith) at)
    ∙ get_set_same jobs (suc n - 1) (record job { state = new }) (slice_get_within jobs (suc n - 1) job at))

-- a job that has a state is there
pub job_of_state : (jobs : List Job) (number : ℕ) (state : JobState) → state_of jobs number ≡ Some state
    → (job : Job) × (job_at jobs number ≡ Some job) × (job.state ≡ state)
job_of_state jobs number state is = by_job (job_at jobs number) refl is where
  by_job : (o : Option Job) → job_at jobs number ≡ o → option_map (λ job. job.state) o ≡ Some state
      → (job : Job) × (job_at jobs number ≡ Some job) × (job.state ≡ state)
  by_job None e is = cc
  by_job (Some job) e is = (job, e, same_Some job.state state is)

pub state_of-other : (jobs : List Job) (number : ℕ) (new : JobState) (other : ℕ) → number ≢ other
    → state_of (with_state jobs number new) other ≡ state_of jobs other
state_of-other jobs number new other apart = ap (option_map (λ (job : Job). job.state)) (job_at-other jobs number new other apart)

pub state_of-same : (jobs : List Job) (number : ℕ) (new old : JobState) → state_of jobs number ≡ Some old
    → state_of (with_state jobs number new) number ≡ Some new
state_of-same jobs number new old is =
    let job = job_of_state jobs number old is in
    ap (option_map (λ (job : Job). job.state)) (job_at-same jobs number new job.0 job.1)

-- a job that a seat has taken is taken by it
pub taken_state : (jobs : List Job) (seat job revision : ℕ) → taken_at jobs seat job ≡ Some revision
    → state_of jobs job ≡ Some (Taken seat revision)
taken_state jobs seat job revision is = by_state (state_of jobs job) refl is where
  by_state : (o : Option JobState) → state_of jobs job ≡ o → taken_in seat o ≡ Some revision → state_of jobs job ≡ Some (Taken seat revision)
  by_state None e is = absurd (none-some revision is)
  by_state (Some Waiting) e is = absurd (none-some revision is)
  by_state (Some (Taken holder at)) e is =
      let both = cond_some (nat_eq holder seat) at revision is in
      e ∙ ap Some (ap (λ n. Taken n at) (eqb-true holder seat both.0) ∙ ap (Taken seat) both.1)
  by_state (Some Done) e is = absurd (none-some revision is)

-- .. and the least job that waits does wait
pub waiting_state : (jobs : List Job) (job : ℕ) → least_waiting jobs ≡ Some job → state_of jobs job ≡ Some Waiting
waiting_state jobs job is = by_index (position (λ (j : Job). is_waiting j.state) jobs) refl is where
  waits : (j : Job) → is_waiting j.state ≡ true → j.state ≡ Waiting
  waits j w = by_state j.state w where
    by_state : (s : JobState) → is_waiting s ≡ true → s ≡ Waiting
    by_state Waiting w = refl
    by_state (Taken seat revision) w = absurd (true≢false (sym w))
    by_state Done w = absurd (true≢false (sym w))

  by_index : (o : Option ℕ) → position (λ (j : Job). is_waiting j.state) jobs ≡ o → option_map (λ n. n + 1) o ≡ Some job
      → state_of jobs job ≡ Some Waiting
  by_index None e is = absurd (none-some job is)
  by_index (Some n) e is =
      let d : Job = record { rule = Blanks; state = Waiting } in
      let found = position-Some (λ (j : Job). is_waiting j.state) jobs n d e in
      let number : n + 1 ≡ job = same_Some (n + 1) job is in
      let here : job - 1 ≡ n = omega arith in
      let at : job_at jobs job ≡ Some (get_or jobs n d) =
      job_at_number jobs job (omega arith) ∙ ap (slice_get jobs) here ∙ slice_get-get_or jobs n d found.0 in
      ap (option_map (λ (j : Job). j.state)) at ∙ ap Some (waits (get_or jobs n d) found.1)

-- where there is no such job, none waits
pub least_none : (jobs : List Job) → least_waiting jobs ≡ None → All (λ job. is_waiting job.state ≡ false) jobs
least_none jobs is k d within =
    let test : Job → Bool = λ job. is_waiting job.state in
    elim (cases_lt (position_or_len test jobs) (length jobs)) [
      | inl found ↦ absurd (none-some _ (sym is
          ∙ ap (option_map (λ n. n + 1)) (cond-true (nat_lt (position_or_len test jobs) (length jobs)) (Some (position_or_len test jobs)) None (lt-ltb _ _ found))))
      | inr past ↦ not-true _ (prefix_len_passes (λ job. not (test job)) jobs k d (omega arith))
    ]

-- a job that is posted stands after the others
pub job_at-posted : (jobs : List Job) (new : Job) (number : ℕ) (job : Job) → job_at (jobs ++ new ∷ []) number ≡ Some job
    → (job_at jobs number ≡ Some job) ⊎ ((number ≡ length jobs + 1) × (job ≡ new))
job_at-posted jobs new zero job is = absurd (none-some job is)
job_at-posted jobs new (suc n) job is =
    let get = sym (job_at_number (jobs ++ new ∷ []) (suc n) (omega arith)) ∙ is in
    elim (slice_get-posted jobs (suc n - 1) get) [
      | inl old ↦ inl (job_at_number jobs (suc n) (omega arith) ∙ old)
      | inr last ↦ inr (omega (arith, last.0), last.1)
    ] where
      slice_get-posted : (js : List Job) (k : ℕ) → slice_get (js ++ new ∷ []) k ≡ Some job
          → (slice_get js k ≡ Some job) ⊎ ((k ≡ length js) × (job ≡ new))
      slice_get-posted [] zero is = inr (refl, sym (same_Some new job is))
      slice_get-posted [] (suc k) is = absurd (none-some job is)
      slice_get-posted (j ∷ js) zero is = inl is
      slice_get-posted (j ∷ js) (suc k) is = elim (slice_get-posted js k is) [
        | inl old ↦ inl old
        | inr last ↦ inr (omega (arith, last.0), last.1)
      ]

-- .. and those before it are as before
pub job_at-before : (jobs : List Job) (new : Job) (number : ℕ) (job : Job) → job_at jobs number ≡ Some job
    → job_at (jobs ++ new ∷ []) number ≡ Some job
job_at-before jobs new zero job is = absurd (none-some job is)
job_at-before jobs new (suc n) job is =
    job_at_number (jobs ++ new ∷ []) (suc n) (omega arith)
    ∙ before jobs (suc n - 1) (sym (job_at_number jobs (suc n) (omega arith)) ∙ is) where
      before : (js : List Job) (k : ℕ) → slice_get js k ≡ Some job → slice_get (js ++ new ∷ []) k ≡ Some job
      before [] k is = absurd (none-some job is)
      before (j ∷ js) zero is = is
      before (j ∷ js) (suc k) is = before js k is

-- who has taken another job stays, after the state of one job has changed
pub taken-other : (jobs : List Job) (number : ℕ) (new : JobState) (other seat : ℕ) → number ≢ other
    → taken_at (with_state jobs number new) seat other ≡ taken_at jobs seat other
taken-other jobs number new other seat apart = ap (taken_in seat) (state_of-other jobs number new other apart)

-- .. and so after a job is posted
pub taken-posted : (jobs : List Job) (rule : Rule) (number seat revision : ℕ)
    → taken_at (jobs ++ record { rule = rule; state = Waiting } ∷ []) seat number ≡ Some revision → taken_at jobs seat number ≡ Some revision
taken-posted jobs rule number seat revision is =
    let new : Job = record { rule = rule; state = Waiting } in
    let job = job_of_state (jobs ++ new ∷ []) number _ (taken_state (jobs ++ new ∷ []) seat number revision is) in
    elim (job_at-posted jobs new number job.0 job.1) [
      | inl old ↦ ap (λ o. taken_in seat (option_map (λ (j : Job). j.state) o)) (old ∙ sym job.1) ∙ is
      | inr last ↦ let same : new.state ≡ Taken seat revision = ap (λ (j : Job). j.state) (sym last.1) ∙ job.2 in absurd (cc)
    ]
