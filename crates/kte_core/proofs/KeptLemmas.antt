-- Each job that is taken has a lock on its revision, after every event.
use Rattle.std.proofs.Common.{◌≡◌, ◌≢◌, ℕ, zero, suc, Bool, true, false, List, [], ◌∷◌, ◌++◌, length, length-append, Option, Some, None, inl, inr, refl, ap, sym, subst, ◌∙◌, arith, if◌then◌else◌}
use Rattle.std.specs.Prelude.{nat_eq}
use Rattle.std.specs.Option.{option_map}
use Rattle.std.proofs.lemmas.Bool.{cases_eq, eq-eqb, or_left, or_right, and_from}
use Rattle.std.proofs.lemmas.Option.{cond_some, none-some}
use Rattle.std.proofs.lemmas.List.Folds.{list_any-append}
use Rattle.kte_text.specs.declared.loading.Loaded.{Loaded}
use Rattle.kte_history.specs.declared.lock.Lock.{Lock}
use Rattle.kte_history.specs.declared.lock.Owner.{Owner}
use Rattle.kte_history.specs.declared.lock.Owner.TheVariants as owner
use Rattle.kte_history.specs.Locks.{has_lock, is_lock_of}
use Rattle.kte_jobs.specs.declared.job.JobState.{JobState}
use Rattle.kte_jobs.specs.declared.job.JobState.TheVariants.{Waiting, Taken, Done}
use Rattle.kte_jobs.specs.Job.{Job}
use Rattle.kte_jobs.specs.Jobs.{state_of, with_state}
use Rattle.kte_core.specs.Editing.{revision_of}
use Rattle.kte_core.specs.State.{State, Reaction}
use Rattle.kte_core.specs.Jobs.{taken_in, taken_at, take_job, deliver, give_back, IsKept, KeepsRevisions}
use Rattle.kte_core.specs.React.{react_by, cut_at}
use Rattle.kte_core.specs.Replay.{beginning, after_event, replay}
use Rattle.kte_core.specs.JobsInWords.{JobChange, Grows}
use Rattle.kte_core.specs.JobsInWords.JobChange.{stays, closes, posts, takes, finishes, returns}
use Rattle.kte_core.specs.declared.event.Event.{Event}
use Rattle.kte_core.specs.declared.request.Request.{Request}
use Rattle.kte_core.proofs.CaseLemmas.{changes, grows}
use Rattle.kte_core.proofs.LockLemmas.{unlocked_job}
use Rattle.kte_core.proofs.OneJobLemmas.{state_of-same, taken_state, waiting_state, taken-other, taken-posted}

pub keeps-beginning : (loaded : Loaded) (limit : ℕ) → KeepsRevisions (beginning loaded limit)
keeps-beginning loaded limit zero seat revision is = absurd (none-some revision is)
keeps-beginning loaded limit (suc n) seat revision is = by_number (nat_eq (suc n) 0) is where
  by_number : (b : Bool) → taken_in seat (option_map (λ (job : Job). job.state) (if b then None else None)) ≡ Some revision
      → IsKept (beginning loaded limit) (suc n) revision
  by_number true is = absurd (none-some revision is)
  by_number false is = absurd (none-some revision is)

-- after one job has got a new state: its own revision must be locked, and the locks of the others must stay
keeps-set : (before after : State) (job : ℕ) (old new : JobState) → state_of before.jobs job ≡ Some old
    → after.jobs ≡ with_state before.jobs job new → after.editing ≡ before.editing
    → ((holder revision : ℕ) → taken_in holder (Some new) ≡ Some revision → IsKept after job revision)
    → ((other revision : ℕ) → job ≢ other → has_lock before.locks (owner.Job other) revision ≡ true
    → has_lock after.locks (owner.Job other) revision ≡ true)
    → KeepsRevisions before → KeepsRevisions after
keeps-set before after job old new there jobs editing own others keeps other holder revision is =
    let at = ap (λ (js : List Job). taken_at js holder other) (sym jobs) ∙ is in
    elim (cases_eq job other) [
      | inl same ↦ subst (λ n. IsKept after n revision) same (own holder revision
          (ap (taken_in holder) (sym (state_of-same before.jobs job new old there)) ∙ (ap (taken_at (with_state before.jobs job new) holder) same ∙ at)))
      | inr apart ↦
          let kept = keeps other holder revision (sym (taken-other before.jobs job new other holder apart) ∙ at) in
          record { within = omega (arith, kept.within, ap revision_of editing); locked = others other revision apart kept.locked }
    ]

-- the new lock of a job that is taken
new_lock : (locks : List Lock) (job revision : ℕ)
    → has_lock (locks ++ record { owner = owner.Job job; revision = revision } ∷ []) (owner.Job job) revision ≡ true
new_lock locks job revision =
    let mine : Lock = record { owner = owner.Job job; revision = revision } in
    let is : is_lock_of (owner.Job job) revision mine ≡ true = and_from _ _ (eq-eqb job job refl) (eq-eqb revision revision refl) in
    list_any-append (is_lock_of (owner.Job job) revision) locks (mine ∷ [])
    ∙ or_right (has_lock locks (owner.Job job) revision) _ (or_left _ false is)

old_lock : (locks : List Lock) (lock : Lock) (holder : Owner) (revision : ℕ) → has_lock locks holder revision ≡ true
    → has_lock (locks ++ lock ∷ []) holder revision ≡ true
old_lock locks lock holder revision is =
    list_any-append (is_lock_of holder revision) locks (lock ∷ []) ∙ or_left (has_lock locks holder revision) _ is

keeps-by : (state : State) (seat : ℕ) (request : Request) (came : Reaction) → Grows state request came → KeepsRevisions state
    → JobChange state seat request came → KeepsRevisions came.after
keeps-by state seat request came grown keeps (stays leaves) = λ job holder revision is.
    let old = keeps job holder revision (ap (λ (js : List Job). taken_at js holder job) (sym leaves.jobs) ∙ is) in
    record { within = omega (arith, old.within, simp length-append at (ap length grown.trail)); locked = leaves.locks job revision ∙ old.locked }
keeps-by state seat request came grown keeps (closes asked open_now so) =
    subst (λ (c : Reaction). KeepsRevisions c.after) (sym so)
    (λ job holder revision is. let old = keeps job holder revision is in record { within = old.within; locked = old.locked })
keeps-by state seat request came grown keeps (posts rule asked open_now so) =
    subst (λ (c : Reaction). KeepsRevisions c.after) (sym so)
    (λ job holder revision is. let old = keeps job holder revision (taken-posted state.jobs rule job holder revision is) in
    record { within = old.within; locked = old.locked })
keeps-by state seat request came grown keeps (takes job asked least so) =
    subst (λ (c : Reaction). KeepsRevisions c.after) (sym so)
    (keeps-set state (take_job state seat (Some job)).after job Waiting (Taken seat (revision_of state.editing)) (waiting_state state.jobs job least) refl refl
    (λ holder revision is.
    let same : revision_of state.editing ≡ revision = (cond_some (nat_eq seat holder) (revision_of state.editing) revision is).1 in
    record { within = omega arith; locked = subst (λ n. has_lock (take_job state seat (Some job)).after.locks (owner.Job job) n ≡ true) same (new_lock state.locks job (revision_of state.editing)) })
    (λ other revision apart is. old_lock state.locks _ (owner.Job other) revision is) keeps)
keeps-by state seat request came grown keeps (finishes job at findings asked taken so) =
    subst (λ (c : Reaction). KeepsRevisions c.after) (sym so)
    (keeps-set state (deliver state job findings (Some at)).after job (Taken seat at) Done (taken_state state.jobs seat job at taken) refl refl
    (λ holder revision is. absurd (none-some revision is))
    (λ other revision apart is. unlocked_job state.locks job at other revision apart ∙ is) keeps)
keeps-by state seat request came grown keeps (returns job at asked taken so) =
    subst (λ (c : Reaction). KeepsRevisions c.after) (sym so)
    (keeps-set state (give_back state job (Some at)).after job (Taken seat at) Waiting (taken_state state.jobs seat job at taken) refl refl
    (λ holder revision is. absurd (none-some revision is))
    (λ other revision apart is. unlocked_job state.locks job at other revision apart ∙ is) keeps)

-- each job that is taken has its lock after any request
pub keeps-react : (state : State) (seat : ℕ) (request : Request) (o : Option ℕ) → KeepsRevisions state
    → KeepsRevisions (react_by state seat request o).after
keeps-react state seat request o keeps =
    keeps-by state seat request (react_by state seat request o) (grows state seat request o) keeps (changes state seat request o)

-- .. after any event
pub keeps-event : (state : State) (event : Event) → KeepsRevisions state → KeepsRevisions (after_event state event)
keeps-event state event keeps = keeps-react state event.seat event.request (cut_at event.reply) keeps

-- .. and after events
pub keeps-replay : (state : State) (events : List Event) → KeepsRevisions state → KeepsRevisions (replay state events)
keeps-replay state [] keeps = keeps
keeps-replay state (event ∷ events) keeps = keeps-replay (after_event state event) events (keeps-event state event keeps)
