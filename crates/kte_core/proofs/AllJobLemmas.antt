-- What an event leaves of all jobs: their number, their rules, and those that are done.
use Rattle.std.proofs.Common.{◌≡◌, ◌≢◌, ℕ, zero, suc, ◌+◌, ◌-◌, ◌≤◌, All, List, [], ◌∷◌, ◌++◌, length, length-append, Option, Some, None, inl, inr, refl, ap, sym, subst, ◌∙◌, arith}
use Rattle.std.specs.Prelude.{slice_set}
use Rattle.std.specs.Option.{option_map, option_map_or}
use Rattle.std.proofs.lemmas.Bool.{cases_eq}
use Rattle.std.proofs.lemmas.Option.{slice_get_within, none-some, same_Some, get_or_from_slice_get}
use Rattle.std.proofs.lemmas.List.{length-set}
use Rattle.std.proofs.lemmas.List.Elements.{All-set, All-push}
use Rattle.kte_find.specs.declared.rule.Rule.{Rule}
use Rattle.kte_jobs.specs.declared.job.JobState.{JobState}
use Rattle.kte_jobs.specs.declared.job.JobState.TheVariants.{Waiting, Taken, Done}
use Rattle.kte_jobs.specs.Job.{Job}
use Rattle.kte_jobs.specs.Jobs.{job_at, state_of, rule_of, with_state}
use Rattle.kte_jobs.proofs.JobLemmas.{job_at_number}
use Rattle.kte_core.specs.Editing.{revision_of}
use Rattle.kte_core.specs.State.{State, Reaction}
use Rattle.kte_core.specs.Replay.{came_of, after_event, replay}
use Rattle.kte_core.specs.JobsInWords.{JobChange, Allows}
use Rattle.kte_core.specs.JobsInWords.JobChange.{stays, closes, posts, takes, finishes, returns}
use Rattle.kte_core.specs.declared.event.Event.{Event}
use Rattle.kte_core.specs.declared.request.Request.{Request}
use Rattle.kte_core.specs.declared.request.Request.TheVariants.{Cmd, Close, Take, Deliver, GiveBack, Outcome}
use Rattle.kte_core.proofs.CaseLemmas.{event_changes}
use Rattle.kte_core.proofs.OneJobLemmas.{at_none, job_at-other, job_at-same, state_of-other, taken_state, waiting_state, job_at-before}

-- ---- what holds of all jobs

All-with_state : (P : Job → Type 0) (jobs : List Job) (number : ℕ) (new : JobState) → ((job : Job) → P job → P (record job { state = new }))
    → All P jobs → All P (with_state jobs number new)
All-with_state P jobs number new keeps all = by_job (job_at jobs number) refl where
  by_job : (o : Option Job) → job_at jobs number ≡ o
      → All P (option_map_or (λ job. slice_set jobs (number - 1) (record job { state = new })) o jobs)
  by_job None e = all
  by_job (Some job) e =
      All-set P jobs (number - 1) (record job { state = new }) (keeps job (there number e)) all where
        there : (n : ℕ) → job_at jobs n ≡ Some job → P job
        there zero is = absurd (none-some job is)
        there (suc n) is =
            let at = sym (job_at_number jobs (suc n) (omega arith)) ∙ is in
            subst P (get_or_from_slice_get jobs (suc n - 1) job job at) (all (suc n - 1) job (slice_get_within jobs (suc n - 1) job at))

module _ (P : Job → Type 0) where
  keep-by : (state : State) (seat : ℕ) (request : Request) (came : Reaction) → Allows P state seat request → All P state.jobs
      → JobChange state seat request came → All P came.after.jobs
  keep-by state seat request came allows all (stays leaves) = subst (All P) (sym leaves.jobs) all
  keep-by state seat request came allows all (closes asked open_now so) = subst (λ (c : Reaction). All P c.after.jobs) (sym so) all
  keep-by state seat request came allows all (posts rule asked open_now so) =
      subst (λ (c : Reaction). All P c.after.jobs) (sym so)
      (All-push P state.jobs (record { rule = rule; state = Waiting }) all (subst (Allows P state seat) asked allows rule refl open_now))
  keep-by state seat request came allows all (takes job asked least so) =
      subst (λ (c : Reaction). All P c.after.jobs) (sym so)
      (All-with_state P state.jobs job (Taken seat (revision_of state.editing)) (subst (Allows P state seat) asked allows) all)
  keep-by state seat request came allows all (finishes job at findings asked taken so) =
      subst (λ (c : Reaction). All P c.after.jobs) (sym so)
      (All-with_state P state.jobs job Done (subst (Allows P state seat) asked allows) all)
  keep-by state seat request came allows all (returns job at asked taken so) =
      subst (λ (c : Reaction). All P c.after.jobs) (sym so)
      (All-with_state P state.jobs job Waiting (subst (Allows P state seat) asked allows) all)

  -- what holds of all jobs, and of those that the request may make, holds of all after the event
  pub event_keeps : (state : State) (event : Event) → Allows P state event.seat event.request → All P state.jobs
      → All P (after_event state event).jobs
  event_keeps state event allows all =
      keep-by state event.seat event.request (came_of state event) allows all (event_changes state event)

  -- a property that each new job has and each change of state keeps is allowed by every request
  pub allows_all : ((rule : Rule) → P (record { rule = rule; state = Waiting }))
      → ((job : Job) (new : JobState) → P job → P (record job { state = new }))
      → (state : State) (seat : ℕ) (request : Request) → Allows P state seat request
  allows_all fresh keeps state seat (Cmd command) = λ rule is open_now. fresh rule
  allows_all fresh keeps state seat Close = tt
  allows_all fresh keeps state seat Take = λ job. keeps job (Taken seat (revision_of state.editing))
  allows_all fresh keeps state seat (Deliver number findings) = λ job. keeps job Done
  allows_all fresh keeps state seat (GiveBack number) = λ job. keeps job Waiting
  allows_all fresh keeps state seat (Outcome call ok) = tt

  -- .. so what each new job has, and each change of state keeps, is kept by events
  pub all_keep : ((rule : Rule) → P (record { rule = rule; state = Waiting }))
      → ((job : Job) (new : JobState) → P job → P (record job { state = new }))
      → (state : State) (events : List Event) → All P state.jobs → All P (replay state events).jobs
  all_keep fresh keeps state [] all = all
  all_keep fresh keeps state (event ∷ events) all =
      all_keep fresh keeps (after_event state event) events
      (event_keeps state event (allows_all fresh keeps state event.seat event.request) all)

-- ---- the number of jobs, their rules, and those that are done

pub length-with_state : (jobs : List Job) (number : ℕ) (new : JobState) → length (with_state jobs number new) ≡ length jobs
length-with_state jobs number new = by_job (job_at jobs number) where
  by_job : (o : Option Job)
      → length (option_map_or (λ job. slice_set jobs (number - 1) (record job { state = new })) o jobs) ≡ length jobs
  by_job None = refl
  by_job (Some job) = length-set jobs (number - 1) (record job { state = new })

-- how the number of jobs and one job change
record Goes (old new : List Job) (number : ℕ) : Type 0 where
  more : length old ≤ length new
  one : length new ≤ length old + 1
  rule : (rule : Rule) → rule_of old number ≡ Some rule → rule_of new number ≡ Some rule
  done : state_of old number ≡ Some Done → state_of new number ≡ Some Done

goes_same : (jobs : List Job) (number : ℕ) → Goes jobs jobs number
goes_same jobs number = record { more = omega arith; one = omega arith; rule = λ rule is. is; done = λ is. is }

goes_posted : (jobs : List Job) (new : Job) (number : ℕ) → Goes jobs (jobs ++ new ∷ []) number
goes_posted jobs new number = record {
  more = simp length-append (omega arith);
  one = simp length-append (omega arith);
  rule = λ rule is. by_job _ refl (λ (job : Job). job.rule) is;
  done = λ is. by_job _ refl (λ (job : Job). job.state) is;
} where
  by_job : {A : Type 0} {a : A} (o : Option Job) → job_at jobs number ≡ o → (part : Job → A) → option_map part (job_at jobs number) ≡ Some a
      → option_map part (job_at (jobs ++ new ∷ []) number) ≡ Some a
  by_job None e part is = absurd (none-some _ (ap (option_map part) (sym e) ∙ is))
  by_job (Some job) e part is =
      ap (option_map part) (job_at-before jobs new number job e) ∙ (ap (option_map part) (sym e) ∙ is)

rule-with_state : (jobs : List Job) (number : ℕ) (new : JobState) (other : ℕ) → rule_of (with_state jobs number new) other ≡ rule_of jobs other
rule-with_state jobs number new other = elim (cases_eq number other) [
  | inl same ↦ subst (λ n. rule_of (with_state jobs number new) n ≡ rule_of jobs n) same (by_job (job_at jobs number) refl)
  | inr apart ↦ ap (option_map (λ (job : Job). job.rule)) (job_at-other jobs number new other apart)
] where
  by_job : (o : Option Job) → job_at jobs number ≡ o → rule_of (with_state jobs number new) number ≡ rule_of jobs number
  by_job None e = ap (λ (js : List Job). rule_of js number) (at_none jobs number new e)
  by_job (Some job) e =
      ap (option_map (λ (j : Job). j.rule)) (job_at-same jobs number new job e) ∙ ap (option_map (λ (j : Job). j.rule)) (sym e)

goes_set : (jobs : List Job) (number : ℕ) (old new : JobState) (other : ℕ) → state_of jobs number ≡ Some old → Done ≢ old
    → Goes jobs (with_state jobs number new) other
goes_set jobs number old new other there fresh = record {
  more = simp length-with_state (omega arith);
  one = simp length-with_state (omega arith);
  rule = λ rule is. rule-with_state jobs number new other ∙ is;
  done = λ is. elim (cases_eq number other) [
    | inl same ↦ absurd (fresh (same_Some Done old (sym is ∙ (ap (state_of jobs) (sym same) ∙ there))))
    | inr apart ↦ state_of-other jobs number new other apart ∙ is
  ];
}

goes-by : (state : State) (seat : ℕ) (request : Request) (came : Reaction) (number : ℕ) → JobChange state seat request came
    → Goes state.jobs came.after.jobs number
goes-by state seat request came number (stays leaves) = subst (λ js. Goes state.jobs js number) (sym leaves.jobs) (goes_same state.jobs number)
goes-by state seat request came number (closes asked open_now so) =
    subst (λ (c : Reaction). Goes state.jobs c.after.jobs number) (sym so) (goes_same state.jobs number)
goes-by state seat request came number (posts rule asked open_now so) =
    subst (λ (c : Reaction). Goes state.jobs c.after.jobs number) (sym so) (goes_posted state.jobs (record { rule = rule; state = Waiting }) number)
goes-by state seat request came number (takes job asked least so) =
    subst (λ (c : Reaction). Goes state.jobs c.after.jobs number) (sym so)
    (goes_set state.jobs job Waiting (Taken seat (revision_of state.editing)) number (waiting_state state.jobs job least) (λ e. cc))
goes-by state seat request came number (finishes job at findings asked taken so) =
    subst (λ (c : Reaction). Goes state.jobs c.after.jobs number) (sym so)
    (goes_set state.jobs job (Taken seat at) Done number (taken_state state.jobs seat job at taken) (λ e. cc))
goes-by state seat request came number (returns job at asked taken so) =
    subst (λ (c : Reaction). Goes state.jobs c.after.jobs number) (sym so)
    (goes_set state.jobs job (Taken seat at) Waiting number (taken_state state.jobs seat job at taken) (λ e. cc))

event_goes : (state : State) (event : Event) (number : ℕ) → Goes state.jobs (after_event state event).jobs number
event_goes state event number = goes-by state event.seat event.request (came_of state event) number (event_changes state event)

-- the number of jobs never falls
pub jobs_stay : (state : State) (event : Event) → length state.jobs ≤ length (after_event state event).jobs
jobs_stay state event = (event_goes state event 0).more

-- .. and rises by one at most
pub jobs_rise : (state : State) (event : Event) → length (after_event state event).jobs ≤ length state.jobs + 1
jobs_rise state event = (event_goes state event 0).one

pub jobs_rise-replay : (state : State) (events : List Event) → length (replay state events).jobs ≤ length state.jobs + length events
jobs_rise-replay state [] = omega arith
jobs_rise-replay state (event ∷ events) = omega (arith, jobs_rise state event, jobs_rise-replay (after_event state event) events)

-- a job's rule stays
pub rule_stays : (state : State) (event : Event) (job : ℕ) (rule : Rule) → rule_of state.jobs job ≡ Some rule
    → rule_of (after_event state event).jobs job ≡ Some rule
rule_stays state event job = (event_goes state event job).rule

pub rule_stays-replay : (state : State) (events : List Event) (job : ℕ) (rule : Rule) → rule_of state.jobs job ≡ Some rule
    → rule_of (replay state events).jobs job ≡ Some rule
rule_stays-replay state [] job rule is = is
rule_stays-replay state (event ∷ events) job rule is = rule_stays-replay (after_event state event) events job rule (rule_stays state event job rule is)

-- a job that is done stays done
pub done_stays : (state : State) (event : Event) (job : ℕ) → state_of state.jobs job ≡ Some Done
    → state_of (after_event state event).jobs job ≡ Some Done
done_stays state event job = (event_goes state event job).done

pub done_stays-replay : (state : State) (events : List Event) (job : ℕ) → state_of state.jobs job ≡ Some Done
    → state_of (replay state events).jobs job ≡ Some Done
done_stays-replay state [] job is = is
done_stays-replay state (event ∷ events) job is = done_stays-replay (after_event state event) events job (done_stays state event job is)
