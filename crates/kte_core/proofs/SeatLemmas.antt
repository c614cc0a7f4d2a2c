-- The close, the jobs that wait, and those that a seat has taken, over events.
use Rattle.std.proofs.Common.{◌≡◌, ◌≢◌, ℕ, All, Bool, true, false, List, [], ◌∷◌, ◌⊎◌, Option, Some, None, inl, inr, refl, ap, sym, subst, ◌∙◌, arith, if◌then◌else◌}
use Rattle.std.specs.Option.{option_map}
use Rattle.std.proofs.lemmas.Bool.{cases_eq, ne_eqb, true≢false}
use Rattle.std.proofs.lemmas.Option.{none-some, same_Some}
use Rattle.std.proofs.lemmas.List.Elements.{All-head, All-tail}
use Rattle.kte_jobs.specs.declared.job.JobState.{JobState}
use Rattle.kte_jobs.specs.declared.job.JobState.TheVariants.{Waiting, Taken, Done}
use Rattle.kte_jobs.specs.Job.{Job, is_waiting}
use Rattle.kte_jobs.specs.Jobs.{state_of, least_waiting, with_state}
use Rattle.kte_core.specs.Editing.{revision_of}
use Rattle.kte_core.specs.State.{State, Reaction, refused}
use Rattle.kte_core.specs.Jobs.{taken_in, taken_at}
use Rattle.kte_core.specs.React.{react, react_by, cut_at, CutsBetween, close}
use Rattle.kte_core.specs.Replay.{came_of, after_event, replay, IsAnswered}
use Rattle.kte_core.specs.JobsInWords.{JobChange, Allows, NoneWaits, IsFree, IsNotOf}
use Rattle.kte_core.specs.JobsInWords.JobChange.{stays, closes, posts, takes, finishes, returns}
use Rattle.kte_core.specs.declared.event.Event.{Event}
use Rattle.kte_core.specs.declared.reply.Refusal.TheVariants.{Closed}
use Rattle.kte_core.specs.declared.request.Request.{Request}
use Rattle.kte_core.specs.declared.request.Request.TheVariants.{Cmd, Close, Take, Deliver, GiveBack, Outcome}
use Rattle.kte_core.proofs.CaseLemmas.{event_changes}
use Rattle.kte_core.proofs.OneJobLemmas.{state_of-same, taken_state, waiting_state, taken-other, taken-posted, job_at-before, job_of_state}
use Rattle.kte_core.proofs.AllJobLemmas.{event_keeps}

-- ---- the close

-- only a close changes whether the session is closed, and a closed session stays closed
closed-by : (state : State) (seat : ℕ) (request : Request) (came : Reaction) → JobChange state seat request came
    → (came.after.closed ≡ state.closed) ⊎ ((request ≡ Close) × (came.after.closed ≡ true))
closed-by state seat request came (stays leaves) = inl leaves.closed
closed-by state seat request came (closes asked open_now so) = inr (asked, ap (λ (c : Reaction). c.after.closed) so)
closed-by state seat request came (posts rule asked open_now so) = inl (ap (λ (c : Reaction). c.after.closed) so)
closed-by state seat request came (takes job asked least so) = inl (ap (λ (c : Reaction). c.after.closed) so)
closed-by state seat request came (finishes job at findings asked taken so) = inl (ap (λ (c : Reaction). c.after.closed) so)
closed-by state seat request came (returns job at asked taken so) = inl (ap (λ (c : Reaction). c.after.closed) so)

-- a closed session stays closed
pub closed_stays : (state : State) (event : Event) → state.closed ≡ true → (after_event state event).closed ≡ true
closed_stays state event shut =
    elim (closed-by state event.seat event.request (came_of state event) (event_changes state event)) [
      | inl same ↦ same ∙ shut
      | inr new ↦ new.1
    ]

pub closed_stays-replay : (state : State) (events : List Event) → state.closed ≡ true → (replay state events).closed ≡ true
closed_stays-replay state [] shut = shut
closed_stays-replay state (event ∷ events) shut = closed_stays-replay (after_event state event) events (closed_stays state event shut)

-- only Close closes an open session
pub only_close : (state : State) (event : Event) → state.closed ≡ false → (after_event state event).closed ≡ true → event.request ≡ Close
only_close state event open_now shut =
    elim (closed-by state event.seat event.request (came_of state event) (event_changes state event)) [
      | inl same ↦ absurd (true≢false (sym shut ∙ (same ∙ open_now)))
      | inr new ↦ new.0
    ]

-- a request that makes no primitives is not cut
uncut : (o : Option ℕ) → CutsBetween [] o → o ≡ None
uncut None cut = refl
uncut (Some n) cut = absurd (let a = cut.0 in let b = cut.1 in omega arith)

-- .. so its reaction is the whole one
pub whole_came : (state : State) (event : Event) (request : Request) → IsAnswered state event → event.request ≡ request
    → (react state event.seat request).made ≡ [] → came_of state event ≡ react state event.seat request
whole_came state event request answered asked none_made =
    ap (λ r. react_by state event.seat r (cut_at event.reply)) asked
    ∙ ap (react_by state event.seat request) (uncut (cut_at event.reply)
    (subst (λ ps. CutsBetween ps (cut_at event.reply)) none_made
    (subst (λ r. CutsBetween (react state event.seat r).made (cut_at event.reply)) asked answered.cut)))

-- after Close the session is closed
pub close_closes : (state : State) (event : Event) → IsAnswered state event → event.request ≡ Close → (after_event state event).closed ≡ true
close_closes state event answered asked =
    ap (λ (c : Reaction). c.after.closed) (whole_came state event Close answered asked (by_close state.closed)) ∙ by_open state.closed refl where
      by_close : (b : Bool) → (if b then refused state Closed else close state).made ≡ []
      by_close true = refl
      by_close false = refl

      by_open : (b : Bool) → state.closed ≡ b → (if b then refused state Closed else close state).after.closed ≡ true
      by_open true e = e
      by_open false e = refl

-- ---- none waits after the close

-- no job is posted after the close, so none waits unless one is given back
still : (state : State) (seat : ℕ) (request : Request) → state.closed ≡ true → ((job : ℕ) → request ≢ GiveBack job)
    → Allows (λ job. is_waiting job.state ≡ false) state seat request
still state seat (Cmd command) shut kept = λ rule is open_now. absurd (true≢false (sym shut ∙ open_now))
still state seat Close shut kept = tt
still state seat Take shut kept = λ job w. refl
still state seat (Deliver job findings) shut kept = λ job w. refl
still state seat (GiveBack job) shut kept = absurd (kept job refl)
still state seat (Outcome call ok) shut kept = tt

-- .. by an event that gives none back
pub none_waits : (state : State) (event : Event) → state.closed ≡ true → ((job : ℕ) → event.request ≢ GiveBack job)
    → NoneWaits state → NoneWaits (after_event state event)
none_waits state event shut kept none =
    event_keeps (λ job. is_waiting job.state ≡ false) state event (still state event.seat event.request shut kept) none

-- .. or only in vain
pub none_waits-unless : (state : State) (event : Event) → state.closed ≡ true
    → ((job : ℕ) → event.request ≡ GiveBack job → taken_at state.jobs event.seat job ≡ None)
    → NoneWaits state → NoneWaits (after_event state event)
none_waits-unless state event shut vain none = by_change (event_changes state event) where
  by_change : JobChange state event.seat event.request (came_of state event) → NoneWaits (after_event state event)
  by_change (returns job at asked taken so) = absurd (none-some at (sym (vain job asked) ∙ taken))
  by_change (stays leaves) = subst (All (λ (job : Job). is_waiting job.state ≡ false)) (sym leaves.jobs) none
  by_change (closes asked open_now so) = absurd (true≢false (sym shut ∙ open_now))
  by_change (posts rule asked open_now so) = absurd (true≢false (sym shut ∙ open_now))
  by_change (takes job asked least so) = none_waits state event shut (λ other is. cc) none
  by_change (finishes job at findings asked taken so) = none_waits state event shut (λ other is. cc) none

pub none_waits-replay : (state : State) (events : List Event) → state.closed ≡ true
    → All (λ event. (job : ℕ) → event.request ≢ GiveBack job) events → NoneWaits state → NoneWaits (replay state events)
none_waits-replay state [] shut kept none = none
none_waits-replay state (event ∷ events) shut kept none =
    let P : Event → Type 0 = λ event. (job : ℕ) → event.request ≢ GiveBack job in
    none_waits-replay (after_event state event) events (closed_stays state event shut) (All-tail P event events kept)
    (none_waits state event shut (All-head P event events kept) none)

-- ---- what a seat has taken

two_states : (jobs : List Job) (job : ℕ) (one two : JobState) → state_of jobs job ≡ Some one → state_of jobs job ≡ Some two → one ≡ two
two_states jobs job one two first second = same_Some one two (sym first ∙ second)

taken-by : (state : State) (seat : ℕ) (request : Request) (came : Reaction) (holder job revision : ℕ)
    → taken_at state.jobs holder job ≡ Some revision → (seat ≡ holder → IsNotOf job request)
    → JobChange state seat request came → taken_at came.after.jobs holder job ≡ Some revision
taken-by state seat request came holder job revision has apart (stays leaves) = ap (λ (js : List Job). taken_at js holder job) leaves.jobs ∙ has
taken-by state seat request came holder job revision has apart (closes asked open_now so) =
    ap (λ (c : Reaction). taken_at c.after.jobs holder job) so ∙ has
taken-by state seat request came holder job revision has apart (posts rule asked open_now so) =
    let new : Job = record { rule = rule; state = Waiting } in
    let old = job_of_state state.jobs job (Taken holder revision) (taken_state state.jobs holder job revision has) in
    ap (λ (c : Reaction). taken_at c.after.jobs holder job) so
    ∙ (ap (λ o. taken_in holder (option_map (λ (j : Job). j.state) o)) (job_at-before state.jobs new job old.0 old.1 ∙ sym old.1) ∙ has)
taken-by state seat request came holder job revision has apart (takes other asked least so) =
    ap (λ (c : Reaction). taken_at c.after.jobs holder job) so
    ∙ (taken-other state.jobs other (Taken seat (revision_of state.editing)) job holder
    (λ same. let w = two_states state.jobs job Waiting (Taken holder revision) (ap (state_of state.jobs) (sym same) ∙ waiting_state state.jobs other least)
    (taken_state state.jobs holder job revision has) in cc) ∙ has)
taken-by state seat request came holder job revision has apart (finishes other at findings asked taken so) =
    ap (λ (c : Reaction). taken_at c.after.jobs holder job) so
    ∙ (taken-other state.jobs other Done job holder
    (λ same. let w = two_states state.jobs job (Taken seat at) (Taken holder revision) (ap (state_of state.jobs) (sym same) ∙ taken_state state.jobs seat other at taken)
    (taken_state state.jobs holder job revision has) in
    let mine : seat ≡ holder = cc in subst (IsNotOf job) asked (apart mine) same) ∙ has)
taken-by state seat request came holder job revision has apart (returns other at asked taken so) =
    ap (λ (c : Reaction). taken_at c.after.jobs holder job) so
    ∙ (taken-other state.jobs other Waiting job holder
    (λ same. let w = two_states state.jobs job (Taken seat at) (Taken holder revision) (ap (state_of state.jobs) (sym same) ∙ taken_state state.jobs seat other at taken)
    (taken_state state.jobs holder job revision has) in
    let mine : seat ≡ holder = cc in subst (IsNotOf job) asked (apart mine) same) ∙ has)

-- a job that a seat has taken stays so over an event of another seat
pub taken_stays : (state : State) (event : Event) (seat job revision : ℕ) → taken_at state.jobs seat job ≡ Some revision
    → event.seat ≢ seat → taken_at (after_event state event).jobs seat job ≡ Some revision
taken_stays state event seat job revision has other =
    taken-by state event.seat event.request (came_of state event) seat job revision has (λ same. absurd (other same)) (event_changes state event)

-- .. and over any event that neither delivers it nor gives it back
pub taken_stays-own : (state : State) (event : Event) (seat job revision : ℕ) → taken_at state.jobs seat job ≡ Some revision
    → IsNotOf job event.request → taken_at (after_event state event).jobs seat job ≡ Some revision
taken_stays-own state event seat job revision has apart =
    taken-by state event.seat event.request (came_of state event) seat job revision has (λ same. apart) (event_changes state event)

pub taken_stays-replay : (state : State) (events : List Event) (seat job revision : ℕ) → taken_at state.jobs seat job ≡ Some revision
    → All (λ event. event.seat ≢ seat) events → taken_at (replay state events).jobs seat job ≡ Some revision
taken_stays-replay state [] seat job revision has others = has
taken_stays-replay state (event ∷ events) seat job revision has others =
    let P : Event → Type 0 = λ event. event.seat ≢ seat in
    taken_stays-replay (after_event state event) events seat job revision
    (taken_stays state event seat job revision has (All-head P event events others)) (All-tail P event events others)

-- nothing where each value is impossible
pub none_unless : (o : Option ℕ) → ((n : ℕ) → o ≡ Some n → ⊥) → o ≡ None
none_unless None never = refl
none_unless (Some n) never = absurd (never n refl)

untaken_set : (jobs : List Job) (number job holder : ℕ) (old new : JobState) → state_of jobs number ≡ Some old → taken_in holder (Some new) ≡ None
    → taken_at jobs holder job ≡ None → taken_at (with_state jobs number new) holder job ≡ None
untaken_set jobs number job holder old new there out has = elim (cases_eq number job) [
  | inl same ↦ ap (taken_in holder) (ap (state_of (with_state jobs number new)) (sym same) ∙ state_of-same jobs number new old there) ∙ out
  | inr apart ↦ taken-other jobs number new job holder apart ∙ has
]

untaken-by : (state : State) (seat : ℕ) (request : Request) (came : Reaction) (holder job : ℕ)
    → taken_at state.jobs holder job ≡ None → (seat ≡ holder → request ≡ Take → least_waiting state.jobs ≡ Some job → ⊥)
    → JobChange state seat request came → taken_at came.after.jobs holder job ≡ None
untaken-by state seat request came holder job has never (stays leaves) = ap (λ (js : List Job). taken_at js holder job) leaves.jobs ∙ has
untaken-by state seat request came holder job has never (closes asked open_now so) =
    ap (λ (c : Reaction). taken_at c.after.jobs holder job) so ∙ has
untaken-by state seat request came holder job has never (posts rule asked open_now so) =
    ap (λ (c : Reaction). taken_at c.after.jobs holder job) so
    ∙ none_unless _ (λ revision is. none-some revision (sym has ∙ taken-posted state.jobs rule job holder revision is))
untaken-by state seat request came holder job has never (takes other asked least so) =
    let new = Taken seat (revision_of state.editing) in
    ap (λ (c : Reaction). taken_at c.after.jobs holder job) so
    ∙ elim (cases_eq other job) [
      | inl same ↦
          ap (taken_in holder) (ap (state_of (with_state state.jobs other new)) (sym same)
          ∙ state_of-same state.jobs other new Waiting (waiting_state state.jobs other least))
          ∙ ap (λ b. if b then Some (revision_of state.editing) else None)
          (ne_eqb seat holder (λ mine. never mine asked (least ∙ ap Some same)))
      | inr apart ↦ taken-other state.jobs other new job holder apart ∙ has
    ]
untaken-by state seat request came holder job has never (finishes other at findings asked taken so) =
    ap (λ (c : Reaction). taken_at c.after.jobs holder job) so ∙ untaken_set state.jobs other job holder (Taken seat at) Done (taken_state state.jobs seat other at taken) refl has
untaken-by state seat request came holder job has never (returns other at asked taken so) =
    ap (λ (c : Reaction). taken_at c.after.jobs holder job) so ∙ untaken_set state.jobs other job holder (Taken seat at) Waiting (taken_state state.jobs seat other at taken) refl has

-- a job that a seat has not taken it gets only by a Take, and only as the least that waits
pub untaken_stays : (state : State) (event : Event) (seat job : ℕ) → taken_at state.jobs seat job ≡ None
    → (event.seat ≡ seat → event.request ≡ Take → least_waiting state.jobs ≡ Some job → ⊥)
    → taken_at (after_event state event).jobs seat job ≡ None
untaken_stays state event seat job has never =
    untaken-by state event.seat event.request (came_of state event) seat job has never (event_changes state event)

-- a seat that works on no job works on none after an event of another seat, or one of its own that is no Take
pub free_stays : (state : State) (event : Event) (seat : ℕ) → IsFree state seat → (event.seat ≡ seat → event.request ≢ Take)
    → IsFree (after_event state event) seat
free_stays state event seat free never job = untaken_stays state event seat job (free job) (λ mine asked least. never mine asked)

pub free_stays-replay : (state : State) (events : List Event) (seat : ℕ) → IsFree state seat
    → All (λ event. event.seat ≡ seat → event.request ≢ Take) events → IsFree (replay state events) seat
free_stays-replay state [] seat free never = free
free_stays-replay state (event ∷ events) seat free never =
    let P : Event → Type 0 = λ event. event.seat ≡ seat → event.request ≢ Take in
    free_stays-replay (after_event state event) events seat
    (free_stays state event seat free (All-head P event events never)) (All-tail P event events never)
