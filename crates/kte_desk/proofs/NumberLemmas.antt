-- How far the numbers of a session rise: the events of other seats than the editor's claim none.
use Rattle.std.proofs.Common.{◌≡◌, ℕ, ◌+◌, ◌*◌, ◌==◌, ◌≤◌, ◌^◌, Bool, true, false, List, [], ◌∷◌, length, Option, Some, None, if◌then◌else◌, cond, refl, ap, sym, subst, arith, eq-eqb}
use Rattle.std.specs.Option.{option_map}
use Rattle.std.proofs.lemmas.List.Sums.{sum_by_push}
use Rattle.kte_place.specs.Ends.{Ends}
use Rattle.kte_find.specs.declared.found.TheConstants.{MAX_FINDINGS}
use Rattle.kte_find.specs.declared.rule.Rule.{Rule}
use Rattle.kte_jobs.specs.declared.job.JobState.{JobState}
use Rattle.kte_jobs.specs.declared.job.JobState.TheVariants.{Waiting, Taken, Done}
use Rattle.kte_jobs.specs.Job.{Job}
use Rattle.kte_jobs.specs.Jobs.{least_waiting}
use Rattle.kte_turn.specs.Known.{events_of}
use Rattle.kte_core.specs.Editing.{revision_of}
use Rattle.kte_core.specs.State.{State, Reaction}
use Rattle.kte_core.specs.Jobs.{taken_at, take_job, deliver, give_back}
use Rattle.kte_core.specs.Requests.{ranges_of, HasNumbers, IsAllowed}
use Rattle.kte_core.specs.Replay.{Session, IsLegal, Finds, Legal, after_event, came_of, beginning, present, replay}
use Rattle.kte_core.specs.JobsInWords.{JobChange}
use Rattle.kte_core.specs.JobsInWords.JobChange.{stays, closes, posts, takes, finishes, returns}
use Rattle.kte_core.specs.declared.event.Event.{Event}
use Rattle.kte_core.specs.declared.request.Request.{Request}
use Rattle.kte_core.specs.declared.request.Request.TheVariants.{Cmd, Close, Take, Deliver, GiveBack, Outcome}
use Rattle.kte_core.proofs.AllJobLemmas.{jobs_rise, length-with_state}
use Rattle.kte_core.proofs.CaseLemmas.{event_changes, event_grows}
use Rattle.kte_core.proofs.JobLemmas.{count_in, count-set}
use Rattle.kte_core.proofs.ReachLemmas.{few_found}
use Rattle.kte_core.proofs.OneJobLemmas.{job_of_state, taken_state, waiting_state}
use Rattle.kte_core.proofs.TakeLemmas.{take_came, deliver_came, return_came}
use Rattle.kte_desk.specs.Seen.{seat_of}

-- the job may still be delivered
abbrev is_open : JobState → Bool
is_open Waiting = true
is_open (Taken seat revision) = true
is_open Done = false

abbrev open_in : List Job → ℕ
open_in jobs = count_in is_open jobs

-- the numbers of ranges that are used, or that the open jobs may use
abbrev claimed : State → ℕ
claimed state = state.next_id + MAX_FINDINGS * open_in state.jobs

-- the numbers rise by what so many events of the editor may claim
record Claims (events : ℕ) (before after : State) : Type 0 where
  depth : after.editing.edits.depth ≤ before.editing.edits.depth + events
  jobs : length after.jobs ≤ length before.jobs + events
  ranges : claimed after ≤ claimed before + (MAX_FINDINGS + 1) * events

claims_none : (state : State) → Claims 0 state state
claims_none state = record { depth = omega arith; jobs = omega arith; ranges = omega arith }

claims_then : (m n : ℕ) (first second third : State) → Claims m first second → Claims n second third → Claims (m + n) first third
claims_then m n first second third one two =
    let d1 = one.depth in let d2 = two.depth in let j1 = one.jobs in let j2 = two.jobs in let r1 = one.ranges in let r2 = two.ranges in
    record { depth = omega arith; jobs = omega arith; ranges = omega arith }

-- ---- one event

-- the open jobs are more by one at most
open-by : (state : State) (seat : ℕ) (request : Request) (came : Reaction) → JobChange state seat request came
    → open_in came.after.jobs ≤ open_in state.jobs + 1
open-by state seat request came (stays leaves) = omega (arith, ap open_in leaves.jobs)
open-by state seat request came (closes asked open_now so) = omega (arith, ap (λ (c : Reaction). open_in c.after.jobs) so)
open-by state seat request came (posts rule asked open_now so) =
    omega (
      arith,
      ap (λ (c : Reaction). open_in c.after.jobs) so,
      sum_by_push (λ (job : Job). if is_open job.state then 1 else 0) state.jobs (record { rule = rule; state = Waiting }),
    )
open-by state seat request came (takes job asked least so) =
    let set = count-set is_open state.jobs job Waiting (Taken seat (revision_of state.editing)) (waiting_state state.jobs job least) in
    omega (arith, ap (λ (c : Reaction). open_in c.after.jobs) so, set)
open-by state seat request came (finishes job at findings asked taken so) =
    let set = count-set is_open state.jobs job (Taken seat at) Done (taken_state state.jobs seat job at taken) in
    omega (arith, ap (λ (c : Reaction). open_in c.after.jobs) so, set)
open-by state seat request came (returns job at asked taken so) =
    let set = count-set is_open state.jobs job (Taken seat at) Waiting (taken_state state.jobs seat job at taken) in
    omega (arith, ap (λ (c : Reaction). open_in c.after.jobs) so, set)

-- a command, the close or an outcome claims what one event may
claims_one : (state : State) (event : Event) → ranges_of event.request ≡ 1 → Claims 1 state (after_event state event)
claims_one state event one =
    let grown = event_grows state event in
    let depth = grown.depth in
    let next = grown.next_id in
    let more = open-by state event.seat event.request (came_of state event) (event_changes state event) in
    record { depth = depth; jobs = jobs_rise state event; ranges = omega (arith, one) }

-- a Take claims nothing
claims_take : (state : State) (seat : ℕ) (o : Option ℕ) → least_waiting state.jobs ≡ o → Claims 0 state (take_job state seat o).after
claims_take state seat None least = claims_none state
claims_take state seat (Some job) least =
    let new = Taken seat (revision_of state.editing) in
    let set = count-set is_open state.jobs job Waiting new (waiting_state state.jobs job least) in
    record { depth = omega arith; jobs = omega (arith, length-with_state state.jobs job new); ranges = omega (arith, set) }

-- .. nor does giving a job back
claims_return : (state : State) (seat job : ℕ) (o : Option ℕ) → taken_at state.jobs seat job ≡ o → Claims 0 state (give_back state job o).after
claims_return state seat job None taken = claims_none state
claims_return state seat job (Some revision) taken =
    let set = count-set is_open state.jobs job (Taken seat revision) Waiting (taken_state state.jobs seat job revision taken) in
    record { depth = omega arith; jobs = omega (arith, length-with_state state.jobs job Waiting); ranges = omega (arith, set) }

-- .. and a delivery uses what its job had claimed
claims_delivery : (state : State) (seat job : ℕ) (findings : List Ends) (o : Option ℕ) → taken_at state.jobs seat job ≡ o
    → Finds state seat (Deliver job findings) → Claims 0 state (deliver state job findings o).after
claims_delivery state seat job findings None taken finds = claims_none state
claims_delivery state seat job findings (Some revision) taken finds =
    let there = taken_state state.jobs seat job revision taken in
    let set = count-set is_open state.jobs job (Taken seat revision) Done there in
    let found = job_of_state state.jobs job (Taken seat revision) there in
    let rule : Rule = found.0.rule in
    let few = few_found rule _ findings (finds rule revision (ap (option_map (λ (j : Job). j.rule)) found.1) taken) in
    record { depth = omega arith; jobs = omega (arith, length-with_state state.jobs job Done); ranges = omega (arith, set, few) }

-- how many of these events are the editor's
abbrev by_editor : List Event → ℕ
by_editor events = length (events_of seat_of 0 events)

abbrev one_by : Event → ℕ
one_by event = by_editor (event ∷ [])

at_editor : (event : Event) → event.seat ≡ 0 → one_by event ≡ 1
at_editor event is = ap (λ b. length (cond b (event ∷ []) [])) (eq-eqb event.seat 0 is)

-- an event that claims nothing claims no more than it may
claims_less : (event : Event) (before after : State) → Claims 0 before after → Claims (one_by event) before after
claims_less event before after claims =
    let depth = claims.depth in let jobs = claims.jobs in let ranges = claims.ranges in
    record { depth = omega arith; jobs = omega arith; ranges = omega arith }

claims_editor : (state : State) (event : Event) → event.seat ≡ 0 → ranges_of event.request ≡ 1 → Claims (one_by event) state (after_event state event)
claims_editor state event is one = subst (λ n. Claims n state (after_event state event)) (sym (at_editor event is)) (claims_one state event one)

claims_event : (state : State) (event : Event) → IsLegal state event → Claims (one_by event) state (after_event state event)
claims_event state event legal = by_request event.request refl where
  by_request : (request : Request) → event.request ≡ request → Claims (one_by event) state (after_event state event)
  by_request (Cmd command) is =
      claims_editor state event (subst (λ r. IsAllowed event.seat r) is legal.answered.allowed).0 (ap ranges_of is)
  by_request Close is = claims_editor state event (subst (λ r. IsAllowed event.seat r) is legal.answered.allowed) (ap ranges_of is)
  by_request (Outcome call ok) is = claims_editor state event (subst (λ r. IsAllowed event.seat r) is legal.answered.allowed) (ap ranges_of is)
  by_request Take is =
      claims_less event state (after_event state event)
      (subst (λ (c : Reaction). Claims 0 state c.after) (sym (take_came state event legal.answered is))
      (claims_take state event.seat (least_waiting state.jobs) refl))
  by_request (Deliver job findings) is =
      claims_less event state (after_event state event)
      (subst (λ (c : Reaction). Claims 0 state c.after) (sym (deliver_came state event job findings legal.answered is))
      (claims_delivery state event.seat job findings (taken_at state.jobs event.seat job) refl (subst (Finds state event.seat) is legal.finds)))
  by_request (GiveBack job) is =
      claims_less event state (after_event state event)
      (subst (λ (c : Reaction). Claims 0 state c.after) (sym (return_came state event job legal.answered is))
      (claims_return state event.seat job (taken_at state.jobs event.seat job) refl))

-- ---- all events

by_editor-cons : (event : Event) (events : List Event) → by_editor (event ∷ events) ≡ one_by event + by_editor events
by_editor-cons event events = by_seat (seat_of event == 0) refl where
  by_seat : (b : Bool) → (seat_of event == 0) ≡ b → by_editor (event ∷ events) ≡ one_by event + by_editor events
  by_seat true is =
      omega (
        arith,
        ap (λ c. length (cond c (event ∷ events_of seat_of 0 events) (events_of seat_of 0 events))) is,
        ap (λ c. length (cond c (event ∷ []) [])) is,
      )
  by_seat false is =
      omega (
        arith,
        ap (λ c. length (cond c (event ∷ events_of seat_of 0 events) (events_of seat_of 0 events))) is,
        ap (λ c. length (cond c (event ∷ []) [])) is,
      )

claims_all : (state : State) (events : List Event) → Legal state events → Claims (by_editor events) state (replay state events)
claims_all state [] legal = claims_none state
claims_all state (event ∷ events) legal =
    subst (λ n. Claims n state (replay state (event ∷ events))) (sym (by_editor-cons event events))
    (claims_then (one_by event) (by_editor events) state (after_event state event) (replay state (event ∷ events))
    (claims_event state event legal.0) (claims_all (after_event state event) events legal.1))

-- while the editor has made few events, there are numbers for each request
pub has_numbers : (session : Session) (request : Request) → Legal (beginning session.loaded session.limit) session.events
    → by_editor session.events ≤ 2 ^ 31 → ranges_of request ≤ MAX_FINDINGS → HasNumbers (present session) request
has_numbers session request legal few ranges =
    let claims = claims_all (beginning session.loaded session.limit) session.events legal in
    let depth = claims.depth in let jobs = claims.jobs in let claimed_all = claims.ranges in
    record { depth = omega arith; jobs = omega arith; ranges = omega arith }
