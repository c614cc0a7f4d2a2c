-- The first job that waits, and what becomes of it.
use Rattle.std.proofs.Common.{◌≡◌, ◌∙◌, ℕ, zero, suc, ◌+◌, ◌-◌, ◌<◌, ◌≤◌, true, false, not, List, [], ◌∷◌, length, get_or, slice_get, slice_set, nat_eq, nat_lt, Option, Some, None, inl, inr, refl, sym, ap, subst, arith}
use Rattle.std.proofs.lemmas.Bool.{both_ways, cases_lt, cases_eq, ne_eqb, lt-ltb, le-ltb, cond-true, cond-false}
use Rattle.std.proofs.lemmas.Option.{slice_get_within, get_or_from_slice_get}
use Rattle.std.proofs.lemmas.List.{length-set}
use Rattle.std.specs.List.{prefix_len}
use Rattle.std.specs.Option.{option_map, option_map_or}
use Rattle.kte_find.specs.Rule.{HasWord}
use Rattle.kte_jobs.specs.declared.job.JobState.{JobState}
use Rattle.kte_jobs.specs.declared.job.JobState.TheVariants.{Waiting, Taken, Done}
use Rattle.kte_jobs.specs.Job.{Job, is_waiting, is_taken}
use Rattle.kte_jobs.specs.Jobs.{job_at, state_of, Waits, IsTaken, IsLeastWaiting, least_waiting, with_state}
use Rattle.kte_jobs.specs.Inside.{IsFirst, Holds}
use Rattle.kte_jobs.proofs.ItemLemmas.{get_set_same, get_set_other, there}

some_job : (x y : Job) → Some x ≡ Some y → x ≡ y
some_job x y h = cc

-- the first job that waits stands where a search finds it
pub first_is : (jobs : List Job) (first : ℕ) → IsFirst jobs first → prefix_len (λ job. not (is_waiting job.state)) jobs ≡ first
first_is [] first h = let w = h.within in omega arith
first_is (j ∷ jobs) zero h =
    let w = h.some j refl in
    cond-false (not (is_waiting j.state)) (1 + prefix_len (λ job. not (is_waiting job.state)) jobs) 0 (ap not w)
first_is (j ∷ jobs) (suc n) h =
    let w = h.none 0 j (omega arith) (omega arith) refl in
    let within = h.within in
    let rest = first_is jobs n (record {
      within = omega arith;
      none = λ k job from to e. h.none (suc k) job (omega arith) (omega arith) e;
      some = h.some;
    }) in
    cond-true (not (is_waiting j.state)) (1 + prefix_len (λ job. not (is_waiting job.state)) jobs) 0 (ap not w) ∙ (omega arith)

pub job_at_number : (jobs : List Job) (number : ℕ) → 1 ≤ number → job_at jobs number ≡ slice_get jobs (number - 1)
job_at_number jobs number h =
    cond-false (nat_eq number 0) None (slice_get jobs (number - 1)) (ne_eqb number 0 (λ e. omega arith))

-- a job that has a state has a number, and stands there
pub stands : (jobs : List Job) (number : ℕ) (state : JobState) → state_of jobs number ≡ Some state
    → (job : Job) × (1 ≤ number) × (slice_get jobs (number - 1) ≡ Some job) × (job.state ≡ state)
stands jobs zero state h = cc
stands jobs (suc n) state h = by_job (job_at jobs (suc n)) refl h where
  by_job : (o : Option Job) → job_at jobs (suc n) ≡ o → option_map (λ job. job.state) o ≡ Some state
      → (job : Job) × (1 ≤ suc n) × (slice_get jobs (suc n - 1) ≡ Some job) × (job.state ≡ state)
  by_job None e h = cc
  by_job (Some job) e h = (job, omega arith, sym (job_at_number jobs (suc n) (omega arith)) ∙ e, (let f : job.state ≡ state = cc in f))

pub changed : (jobs : List Job) (number : ℕ) (state : JobState) (job : Job) → 1 ≤ number → slice_get jobs (number - 1) ≡ Some job
    → with_state jobs number state ≡ slice_set jobs (number - 1) (record job { state = state })
changed jobs number state job h e =
    ap (λ o. option_map_or (λ job. slice_set jobs (number - 1) (record job { state = state })) o jobs) (job_at_number jobs number h ∙ e)

-- after the job at an index got a state in which it does not wait
pub first_kept : (jobs : List Job) (first i : ℕ) (job : Job) → is_waiting job.state ≡ false → (i ≡ first → ⊥)
    → IsFirst jobs first → IsFirst (slice_set jobs i job) first
first_kept jobs first i job w apart h = record {
  within = let a = h.within in simp length-set (omega arith);
  none = λ k j from to e. elim (cases_eq i k) [
    | inl t ↦ elim (cases_lt i (length jobs)) [
      | inl there ↦
          let same : job ≡ j = some_job job j (sym (get_set_same jobs i job there) ∙ ap (slice_get (slice_set jobs i job)) t ∙ e) in
          subst (λ x. is_waiting x.state ≡ false) same w
      | inr past ↦ absurd (let a = h.within in omega arith)
    ]
    | inr t ↦ h.none k j from to (sym (get_set_other jobs i k job t) ∙ e)
  ];
  some = λ j e. h.some j (sym (get_set_other jobs i first job apart) ∙ e);
}

taken_waits_not : (state : JobState) → is_taken state ≡ true → is_waiting state ≡ false
taken_waits_not Waiting h = cc
taken_waits_not (Taken seat revision) h = refl
taken_waits_not Done h = refl

-- the least job that waits
pub least_is : (jobs : List Job) (first : ℕ) → IsFirst jobs first → first < length jobs → IsLeastWaiting jobs (first + 1)
least_is jobs first h less =
    let job = there jobs first less in
    let here : (first + 1) - 1 ≡ first = omega arith in
    let at : job_at jobs (first + 1) ≡ Some job.0 =
    job_at_number jobs (first + 1) (omega arith) ∙ ap (slice_get jobs) here ∙ job.1 in
    record {
      waits = record { state = (job.0).state; there = ap (option_map (λ (j : Job). j.state)) at; waits = h.some job.0 job.1 };
      least = λ other w. elim (cases_lt first other) [
        | inl t ↦ omega arith
        | inr t ↦
            let s = stands jobs other w.state w.there in
            let number = s.1 in
            absurd (both_ways _ (h.none (other - 1) s.0 (omega arith) (omega arith) s.2) (ap is_waiting s.3 ∙ w.waits))
      ];
    }

pub none_is : (jobs : List Job) (first : ℕ) → IsFirst jobs first → length jobs ≤ first → (number : ℕ) → Waits jobs number → ⊥
none_is jobs first h past number w =
    let s = stands jobs number w.state w.there in
    let inside = slice_get_within jobs (number - 1) s.0 s.2 in
    both_ways _ (h.none (number - 1) s.0 (omega arith) (omega arith) s.2) (ap is_waiting s.3 ∙ w.waits)

pub least_value : (jobs : List Job) (first : ℕ) → IsFirst jobs first → first < length jobs → Some (first + 1) ≡ least_waiting jobs
least_value jobs first h less =
    let n = prefix_len (λ (job : Job). not (is_waiting job.state)) jobs in
    let e : n ≡ first = first_is jobs first h in
    sym (ap (option_map (λ n. n + 1)) (cond-true (nat_lt n (length jobs)) (Some n) None (lt-ltb n (length jobs) (omega arith)))
    ∙ ap (λ k. Some (k + 1)) e)

pub none_value : (jobs : List Job) (first : ℕ) → IsFirst jobs first → length jobs ≤ first → None ≡ least_waiting jobs
none_value jobs first h past =
    let n = prefix_len (λ (job : Job). not (is_waiting job.state)) jobs in
    let e : n ≡ first = first_is jobs first h in
    sym (ap (option_map (λ n. n + 1)) (cond-false (nat_lt n (length jobs)) (Some n) None (le-ltb n (length jobs) (omega arith))))

-- a job that a seat has, its entry in the list, and the entry with another state
module _ (jobs : List Job) (first number : ℕ) (entry d : Job) (h : Holds jobs first) (t : IsTaken jobs number)
    (is : entry ≡ get_or jobs (number - 1) d) where
  old : (job : Job) × (1 ≤ number) × (slice_get jobs (number - 1) ≡ Some job) × (job.state ≡ t.state)
  old = stands jobs number t.state t.there

  entry_is : entry ≡ old.0
  entry_is = is ∙ get_or_from_slice_get jobs (number - 1) old.0 d old.2

  pub taken_changed : (state : JobState) → slice_set jobs (number - 1) (record entry { state = state }) ≡ with_state jobs number state
  taken_changed state =
      ap (λ (e : Job). slice_set jobs (number - 1) (record e { state = state })) entry_is
      ∙ sym (changed jobs number state old.0 old.1 old.2)

  words_kept : (state : JobState) (n : ℕ) (job : Job) → slice_get (slice_set jobs (number - 1) (record entry { state = state })) n ≡ Some job
      → HasWord job.rule
  words_kept state n job e = elim (cases_eq (number - 1) n) [
    | inl same ↦
        let inside = slice_get_within jobs (number - 1) old.0 old.2 in
        let new : (record entry { state = state }) ≡ job = some_job _ _
        (sym (get_set_same jobs (number - 1) (record entry { state = state }) inside)
        ∙ ap (slice_get (slice_set jobs (number - 1) (record entry { state = state }))) same ∙ e) in
        subst (λ (j : Job). HasWord j.rule) new (subst (λ (j : Job). HasWord j.rule) (sym entry_is) (h.words (number - 1) old.0 old.2))
    | inr other ↦ h.words n job (sym (get_set_other jobs (number - 1) n (record entry { state = state }) other) ∙ e)
  ]

  pub finished_holds : (state : JobState) → is_waiting state ≡ false → Holds (slice_set jobs (number - 1) (record entry { state = state })) first
  finished_holds state w = record {
    numbers = let a = h.numbers in simp length-set (omega arith);
    words = words_kept state;
    is_first = first_kept jobs first (number - 1) (record entry { state = state }) w
        (λ e. both_ways _ (taken_waits_not t.state t.taken)
        (ap is_waiting (sym old.3) ∙ h.is_first.some old.0 (ap (slice_get jobs) (sym e) ∙ old.2)))
        h.is_first;
  }
