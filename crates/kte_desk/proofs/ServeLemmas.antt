-- A job that the editor takes and delivers once the session is closed.
use Rattle.std.proofs.lemmas.List.Elements.{All-nil, All-cons}
use Rattle.std.proofs.Common.{◌≡◌, ◌≢◌, ◌∙◌, ℕ, suc, ◌+◌, ◌-◌, ◌*◌, ◌≤◌, Bool, true, false, List, [], ◌∷◌, ◌++◌, length, get_or, slice_get, All, Some, None, Result, Ok, Err, IfOk, IsOk, if◌then◌else◌, inl, inr, refl, ap, sym, subst, append_assoc, arith}
use Rattle.std.specs.List.{count_by}
use Rattle.std.specs.Option.{option_map}
use Rattle.std.specs.declared.alloc.AllocError.{AllocError}
use Rattle.std.proofs.lemmas.Bool.{cases_eq, eq-eqb, true≢false}
use Rattle.std.proofs.lemmas.List.Sums.{get_or-le-sum_by}
use Rattle.std.proofs.lemmas.Option.{slice_get_within, slice_get-get_or, get_or_from_slice_get, none-some}
use Rattle.kte_place.specs.Ends.{Ends}
use Rattle.kte_find.specs.declared.found.TheConstants.{MAX_FINDINGS}
use Rattle.kte_jobs.specs.declared.job.JobState.{JobState}
use Rattle.kte_jobs.specs.declared.job.JobState.TheVariants.{Waiting, Taken, Done}
use Rattle.kte_jobs.specs.Job.{Job, is_waiting}
use Rattle.kte_jobs.specs.Jobs.{state_of, least_waiting}
use Rattle.kte_jobs.proofs.JobLemmas.{stands, job_at_number}
use Rattle.kte_core.specs.Editing.{Editing, revision_of, text_of}
use Rattle.kte_core.specs.State.{State, Reaction}
use Rattle.kte_core.specs.Jobs.{taken_in, taken_at, take_job, deliver}
use Rattle.kte_core.specs.JobsInWords.{count_waiting}
use Rattle.kte_core.specs.Requests.{IsAllowed, HasNumbers}
use Rattle.kte_core.specs.Shown.{Reacts}
use Rattle.kte_core.specs.Replay.{Session, IsAnswered, IsLegal, after_event, came_of, present}
use Rattle.kte_core.specs.declared.event.Event.{Event}
use Rattle.kte_core.specs.declared.event.Step.{Step}
use Rattle.kte_core.specs.declared.reply.Reply.{Reply}
use Rattle.kte_core.specs.declared.reply.Reply.TheVariants as reply
use Rattle.kte_core.specs.declared.request.Request.{Request}
use Rattle.kte_core.specs.declared.request.Request.TheVariants.{Take, Deliver, GiveBack}
use Rattle.kte_core.proofs.AllJobLemmas.{length-with_state}
use Rattle.kte_core.proofs.OneJobLemmas.{waiting_state}
use Rattle.kte_core.proofs.SeatLemmas.{closed_stays, untaken_stays}
use Rattle.kte_core.proofs.TakeLemmas.{take_came, took, deliver_came, delivered_done, returned, returned_waits}
use Rattle.kte_core.proofs.CountLemmas.{waiting_took, waiting_same}
use Rattle.kte_desk.specs.Schedule.{WentWell}
use Rattle.kte_desk.specs.Serving.{Alone, CanDrain, DeliversFound, HasRoom, IsIdle, NoneTaken, Serves, own}
use Rattle.kte_desk.proofs.HistoryLemmas.{present-more, append-settled}

-- what comes of a request of the editor is an event that is answered
pub answered_of : (state : State) (request : Request) (step : Step) (after : State) → IsAllowed 0 request → Reacts state 0 request step after
    → IsAnswered state (own request step.reply)
answered_of state request step after allowed reacts = record { allowed = allowed; reply = reacts.reply; cut = reacts.cut }

-- a job that waits is counted
count_some : (jobs : List Job) (job : ℕ) → least_waiting jobs ≡ Some job → 1 ≤ count_by (λ job. is_waiting job.state) jobs
count_some jobs job least =
    let stand = stands jobs job Waiting (waiting_state jobs job least) in
    let found : Job = stand.0 in
    let at = get_or_from_slice_get jobs (job - 1) found found stand.2 in
    let waits : is_waiting (get_or jobs (job - 1) found).state ≡ true = ap (λ (j : Job). is_waiting j.state) at ∙ ap is_waiting stand.3 in
    let number : Bool → ℕ = λ b. if b then 1 else 0 in
    let one : number (is_waiting (get_or jobs (job - 1) found).state) ≡ number true = ap number waits in
    omega (arith, one, get_or-le-sum_by (λ (j : Job). if is_waiting j.state then 1 else 0) jobs (job - 1) found (slice_get_within jobs (job - 1) found stand.2))

-- there are numbers for what the editor asks for
pub numbers-take : (state : State) (job : ℕ) → CanDrain state → least_waiting state.jobs ≡ Some job → HasNumbers state Take
numbers-take state job can least =
    let some = count_some state.jobs job least in
    let room = can.ranges in
    record { depth = can.depth; jobs = can.jobs; ranges = omega arith }

-- what a Take of the editor makes of the state
pub record Takes (state : State) (job : ℕ) (answer : Reply) (after : State) : Type 0 where
  pub reply : answer ≡ reply.Took job (revision_of state.editing)
  pub taken : taken_at after.jobs 0 job ≡ Some (revision_of after.editing)
  pub others : NoneTaken state → (seat other : ℕ) → other ≢ job → taken_at after.jobs seat other ≡ None
  pub closed : state.closed ≡ true → after.closed ≡ true
  pub room : HasRoom after (MAX_FINDINGS * (count_waiting after + 1))
  pub fewer : count_waiting after + 1 ≡ count_waiting state
  pub text : text_of after.editing ≡ text_of state.editing

pub takes : (state : State) (job : ℕ) (answer : Reply) → CanDrain state → least_waiting state.jobs ≡ Some job
    → IsAnswered state (own Take answer) → Takes state job answer (after_event state (own Take answer))
takes state job answer can least answered =
    let event : Event = own Take answer in
    let revision : ℕ = revision_of state.editing in
    let came : came_of state event ≡ take_job state 0 (Some job) = take_came state event answered refl ∙ ap (take_job state 0) least in
    let told : answer ≡ reply.Took job revision = answered.reply ∙ ap (λ (c : Reaction). c.reply) came in
    let has = took state event job revision answered refl told in
    let fewer = waiting_took state event job revision answered refl told in
    let next : (after_event state event).next_id ≡ state.next_id = ap (λ (c : Reaction). c.after.next_id) came in
    let long : length (after_event state event).jobs ≡ length state.jobs =
    ap (λ (c : Reaction). length c.after.jobs) came ∙ length-with_state state.jobs job (Taken 0 revision) in
    let depth = ap (λ (e : Editing). e.edits.depth) has.editing in
    let room = can.ranges in
    let depth_room = can.depth in
    let jobs_room = can.jobs in
    record {
      reply = told;
      taken = has.taken ∙ ap (λ (e : Editing). Some (revision_of e)) (sym has.editing);
      others = λ none seat other apart. untaken_stays state event seat other (none seat other)
          (λ mine asked found. apart (let both : Some job ≡ Some other = sym least ∙ found in cc));
      closed = closed_stays state event;
      room = record { depth = omega arith; jobs = omega arith; ranges = omega arith };
      fewer = fewer;
      text = ap text_of has.editing;
    }

pub takes_by : (state after : State) (job : ℕ) (step : Step) → CanDrain state → least_waiting state.jobs ≡ Some job → Reacts state 0 Take step after
    → Takes state job step.reply after
takes_by state after job step can least reacts =
    subst (Takes state job step.reply) (sym reacts.leads) (takes state job step.reply can least (answered_of state Take step after tt reacts))

-- .. and a delivery that failed has changed nothing
pub takes_still : (state : State) (between after : Session) (job : ℕ) (step : Step) → CanDrain state → least_waiting state.jobs ≡ Some job
    → Reacts state 0 Take step (present between) → after ≡ between → Takes state job step.reply (present after)
takes_still state between after job step can least reacts is =
    subst (λ (session : Session). Takes state job step.reply (present session)) (sym is)
    (takes_by state (present between) job step can least reacts)

-- .. there are numbers for what the job finds, and for giving it back
pub room-one : (state : State) (n : ℕ) → HasRoom state (MAX_FINDINGS * (n + 1)) → HasRoom state MAX_FINDINGS
room-one state n room = let ranges = room.ranges in record { depth = room.depth; jobs = room.jobs; ranges = omega arith }

pub numbers-back : (state : State) (n job : ℕ) → HasRoom state (MAX_FINDINGS * (n + 1)) → HasNumbers state (GiveBack job)
numbers-back state n job room = let ranges = room.ranges in record { depth = room.depth; jobs = room.jobs; ranges = omega arith }

-- nobody works on a job that has another state
untaken-waiting : (jobs : List Job) (seat job : ℕ) → state_of jobs job ≡ Some Waiting → taken_at jobs seat job ≡ None
untaken-waiting jobs seat job is = ap (taken_in seat) is

untaken-done : (jobs : List Job) (seat job : ℕ) → state_of jobs job ≡ Some Done → taken_at jobs seat job ≡ None
untaken-done jobs seat job is = ap (taken_in seat) is

-- after the job was given back nobody works on one
none-returned : (state : State) (job revision : ℕ) (answer : Reply) → taken_at state.jobs 0 job ≡ Some revision
    → ((seat other : ℕ) → other ≢ job → taken_at state.jobs seat other ≡ None) → IsAnswered state (own (GiveBack job) answer)
    → NoneTaken (after_event state (own (GiveBack job) answer))
none-returned state job revision answer taken others answered seat other =
    let event : Event = own (GiveBack job) answer in
    let told = returned state event job revision answered refl taken in
    let has = returned_waits state event job job answered refl told in
    elim (cases_eq other job) [
      | inl same ↦ subst (λ (n : ℕ). taken_at (after_event state event).jobs seat n ≡ None) (sym same)
          (untaken-waiting (after_event state event).jobs seat job has.waits)
      | inr apart ↦ untaken_stays state event seat other (others seat other apart) (λ mine asked found. cc)
    ]

pub given_back : (state after : State) (job revision : ℕ) (result : Result Step AllocError) → IsOk result
    → IfOk result (λ step. Reacts state 0 (GiveBack job) step after) → taken_at state.jobs 0 job ≡ Some revision
    → ((seat other : ℕ) → other ≢ job → taken_at state.jobs seat other ≡ None) → NoneTaken after
given_back state after job revision (Err error) is reacts taken others = absurd (true≢false (sym is))
given_back state after job revision (Ok step) is reacts taken others =
    subst NoneTaken (sym reacts.leads)
    (none-returned state job revision step.reply taken others (answered_of state (GiveBack job) step after tt reacts))

-- what a delivery of the editor makes of the state
pub record Finishes (state : State) (job : ℕ) (findings : List Ends) (answer : Reply) : Type 0 where
  pub reply : answer ≡ reply.Delivered job state.next_id (length findings)
  pub can : CanDrain (after_event state (own (Deliver job findings) answer))
  pub none : ((seat other : ℕ) → other ≢ job → taken_at state.jobs seat other ≡ None)
      → NoneTaken (after_event state (own (Deliver job findings) answer))
  pub closed : state.closed ≡ true → (after_event state (own (Deliver job findings) answer)).closed ≡ true
  pub same : count_waiting (after_event state (own (Deliver job findings) answer)) ≡ count_waiting state
  pub text : text_of (after_event state (own (Deliver job findings) answer)).editing ≡ text_of state.editing

pub finishes : (state : State) (job revision : ℕ) (findings : List Ends) (answer : Reply) → taken_at state.jobs 0 job ≡ Some revision
    → HasRoom state (MAX_FINDINGS * (count_waiting state + 1)) → length findings ≤ MAX_FINDINGS
    → IsAnswered state (own (Deliver job findings) answer) → Finishes state job findings answer
finishes state job revision findings answer taken has_room few answered =
    let event : Event = own (Deliver job findings) answer in
    let came : came_of state event ≡ deliver state job findings (Some revision) =
    deliver_came state event job findings answered refl ∙ ap (deliver state job findings) taken in
    let told : answer ≡ reply.Delivered job state.next_id (length findings) = answered.reply ∙ ap (λ (c : Reaction). c.reply) came in
    let has = delivered_done state event job job state.next_id (length findings) findings answered refl told in
    let same = waiting_same state event (λ rule is. cc) (λ is. cc) (λ other is. cc) in
    let next : (after_event state event).next_id ≡ state.next_id + length findings = ap (λ (c : Reaction). c.after.next_id) came in
    let long : length (after_event state event).jobs ≡ length state.jobs =
    ap (λ (c : Reaction). length c.after.jobs) came ∙ length-with_state state.jobs job Done in
    let depth = ap (λ (e : Editing). e.edits.depth) has.editing in
    let room = has_room.ranges in
    let depth_room = has_room.depth in
    let jobs_room = has_room.jobs in
    record {
      reply = told;
      can = record { depth = omega arith; jobs = omega arith; ranges = omega arith };
      none = λ others seat other. elim (cases_eq other job) [
        | inl same ↦ subst (λ (n : ℕ). taken_at (after_event state event).jobs seat n ≡ None) (sym same)
            (untaken-done (after_event state event).jobs seat job has.done)
        | inr apart ↦ untaken_stays state event seat other (others seat other apart) (λ mine asked found. cc)
      ];
      closed = closed_stays state event;
      same = same;
      text = ap text_of has.editing;
    }

-- a Take and its delivery, once the session is closed
pair-alone : (state : State) (job revision number count : ℕ) (findings : List Ends) → IsLegal state (own Take (reply.Took job revision))
    → IsLegal (after_event state (own Take (reply.Took job revision))) (own (Deliver job findings) (reply.Delivered job number count))
    → state.closed ≡ true
    → Alone state (own Take (reply.Took job revision) ∷ own (Deliver job findings) (reply.Delivered job number count) ∷ [])
pair-alone state job revision number count findings first second shut = record {
  legal = (first, (second, tt));
  fit = (
    record { seat = omega arith; whole = refl; served = (shut, refl) },
    (record { seat = omega arith; whole = refl; served = refl }, tt),
  );
  in_turn = λ lost. (
    λ mine. tt,
    (
      λ mine. refl,
      append-settled (came_of (after_event state (own Take (reply.Took job revision)))
          (own (Deliver job findings) (reply.Delivered job number count))).finished,
    ),
  );
  went_well = All-cons (λ event. WentWell event.request) (own Take (reply.Took job revision)) (own (Deliver job findings) (reply.Delivered job number count) ∷ []) tt
      (All-cons (λ event. WentWell event.request) (own (Deliver job findings) (reply.Delivered job number count)) [] tt (All-nil (λ event. WentWell event.request)));
}

pair-served : (state : State) (job revision number count : ℕ) (findings : List Ends) (took_by given_by : Reply)
    → took_by ≡ reply.Took job revision → given_by ≡ reply.Delivered job number count → IsLegal state (own Take took_by)
    → IsLegal (after_event state (own Take took_by)) (own (Deliver job findings) given_by) → state.closed ≡ true
    → Alone state (own Take took_by ∷ own (Deliver job findings) given_by ∷ [])
pair-served state job revision number count findings took_by given_by took_is given_is first second shut =
    let one : IsLegal state (own Take (reply.Took job revision)) = subst (λ (r : Reply). IsLegal state (own Take r)) took_is first in
    let two : IsLegal (after_event state (own Take (reply.Took job revision))) (own (Deliver job findings) (reply.Delivered job number count)) =
    subst (λ (r : Reply). IsLegal (after_event state (own Take r)) (own (Deliver job findings) (reply.Delivered job number count))) took_is
    (subst (λ (r : Reply). IsLegal (after_event state (own Take took_by)) (own (Deliver job findings) r)) given_is second) in
    subst (λ (r : Reply). Alone state (own Take r ∷ own (Deliver job findings) given_by ∷ [])) (sym took_is)
    (subst (λ (r : Reply). Alone state (own Take (reply.Took job revision) ∷ own (Deliver job findings) r ∷ [])) (sym given_is)
    (pair-alone state job revision number count findings one two shut))

-- what a Take and a delivery of the editor make of a session
pub record Served (before after : Session) : Type 0 where
  pub serves : IsIdle (present before) → Serves before after
  pub can : CanDrain (present after)
  pub none : NoneTaken (present before) → NoneTaken (present after)
  pub closed : (present before).closed ≡ true → (present after).closed ≡ true
  pub fewer : count_waiting (present after) + 1 ≡ count_waiting (present before)
  pub text : text_of (present after).editing ≡ text_of (present before).editing

pub served : (before between after : Session) (job : ℕ) (answer : Reply) → CanDrain (present before) → least_waiting (present before).jobs ≡ Some job
    → between ≡ record before { events = before.events ++ own Take answer ∷ [] } → IsAnswered (present before) (own Take answer)
    → DeliversFound job between after → Served before after
served before between after job answer can least is answered delivers =
    let first : Event = own Take answer in
    let second : Event = own (Deliver job delivers.findings) delivers.reply in
    let state : State = present before in
    let between_is : present between ≡ after_event state first = present-more before between (first ∷ []) is in
    let after_is : present after ≡ after_event (present between) second = present-more between after (second ∷ []) delivers.events in
    let took = takes state job answer can least answered in
    let legal : IsLegal (after_event state first) second = subst (λ (s : State). IsLegal s second) between_is delivers.legal in
    let done = finishes (after_event state first) job (revision_of (after_event state first).editing) delivers.findings delivers.reply
    took.taken took.room delivers.few legal.answered in
    let at_end : present after ≡ after_event (after_event state first) second = after_is ∙ ap (λ (s : State). after_event s second) between_is in
    record {
      serves = λ idle. record {
        added = first ∷ second ∷ [];
        events = delivers.events
            ∙ ap (λ (session : Session). record session { events = session.events ++ second ∷ [] }) is
            ∙ ap (λ (events : List Event). record before { events = events }) (append_assoc before.events (first ∷ []) (second ∷ []));
        alone = pair-served state job (revision_of state.editing) (after_event state first).next_id (length delivers.findings) delivers.findings
            answer delivers.reply took.reply done.reply (record { answered = answered; finds = tt }) legal idle.closed;
        ordered = refl;
      };
      can = subst CanDrain (sym at_end) done.can;
      none = λ none. subst NoneTaken (sym at_end) (done.none (took.others none));
      closed = λ shut. ap (λ (s : State). s.closed) at_end ∙ done.closed (took.closed shut);
      fewer = ap (λ (s : State). count_waiting s + 1) at_end ∙ ap (λ n. n + 1) done.same ∙ took.fewer;
      text = ap (λ (s : State). text_of s.editing) at_end ∙ done.text ∙ took.text;
    }

-- where none waits and nobody works on one, all are done
pub all_done : (jobs : List Job) → All (λ job. is_waiting job.state ≡ false) jobs → ((seat job : ℕ) → taken_at jobs seat job ≡ None)
    → All (λ job. job.state ≡ Done) jobs
all_done jobs none free k d within = by_state (get_or jobs k d).state refl where
  at : state_of jobs (suc k) ≡ Some (get_or jobs k d).state
  at = ap (option_map (λ (j : Job). j.state))
      (job_at_number jobs (suc k) (omega arith) ∙ (let here : suc k - 1 ≡ k = omega arith in ap (slice_get jobs) here) ∙ slice_get-get_or jobs k d within)

  by_state : (s : JobState) → (get_or jobs k d).state ≡ s → (get_or jobs k d).state ≡ Done
  by_state Waiting is = absurd (true≢false (ap is_waiting (sym is) ∙ none k d within))
  by_state (Taken seat revision) is =
      let itself : taken_in seat (Some (Taken seat revision)) ≡ Some revision =
      ap (λ (b : Bool). if b then Some revision else None) (eq-eqb seat seat refl) in
      let never = sym itself ∙ ap (taken_in seat) (sym (at ∙ ap Some is)) ∙ free seat (suc k) in
      absurd (none-some revision (sym never))
  by_state Done is = is
