-- What a seat takes, delivers and gives back.
use Rattle.std.proofs.Common.{◌≡◌, ◌≢◌, ℕ, suc, ◌-◌, get_or, All, Bool, true, false, List, [], ◌∷◌, length, Option, Some, None, inl, inr, refl, ap, sym, subst, ◌∙◌, arith, if◌then◌else◌}
use Rattle.std.specs.Prelude.{slice_get}
use Rattle.std.specs.Option.{option_map}
use Rattle.kte_jobs.proofs.JobLemmas.{job_at_number}
use Rattle.std.proofs.lemmas.Bool.{cases_eq, eq-eqb, true≢false}
use Rattle.std.proofs.lemmas.Option.{none-some, same_Some, slice_get-get_or}
use Rattle.std.proofs.lemmas.List.Elements.{All-head, All-tail}
use Rattle.kte_place.specs.Ends.{Ends}
use Rattle.kte_jobs.specs.declared.job.JobState.{JobState}
use Rattle.kte_jobs.specs.declared.job.JobState.TheVariants.{Waiting, Taken, Done}
use Rattle.kte_jobs.specs.Job.{Job, is_waiting}
use Rattle.kte_jobs.specs.Jobs.{job_at, state_of, least_waiting, with_state}
use Rattle.kte_core.specs.Editing.{revision_of}
use Rattle.kte_core.specs.State.{State, Reaction}
use Rattle.kte_core.specs.Jobs.{taken_in, taken_at, take_job, deliver, give_back}
use Rattle.kte_core.specs.Replay.{came_of, after_event, replay, IsAnswered, Answered}
use Rattle.kte_core.specs.JobsInWords.{NoneWaits, IsFree, WorksOn, HasTaken, HasDelivered, HasReturned, HasNone}
use Rattle.kte_core.specs.declared.event.Event.{Event}
use Rattle.kte_core.specs.declared.reply.Reply.TheVariants as reply
use Rattle.kte_core.specs.declared.reply.Refusal.TheVariants.{NoJob}
use Rattle.kte_core.specs.declared.request.Request.TheVariants.{Take, Deliver, GiveBack}
use Rattle.kte_core.proofs.CaseLemmas.{revision_grows}
use Rattle.kte_core.proofs.OneJobLemmas.{state_of-same, taken_state, waiting_state, least_none}
use Rattle.kte_core.proofs.SeatLemmas.{whole_came, closed_stays, none_waits-unless, none_unless, taken_stays, untaken_stays}

took_made : (state : State) (seat : ℕ) (o : Option ℕ) → (take_job state seat o).made ≡ []
took_made state seat None = refl
took_made state seat (Some job) = refl

delivered_made : (state : State) (job : ℕ) (findings : List Ends) (o : Option ℕ) → (deliver state job findings o).made ≡ []
delivered_made state job findings None = refl
delivered_made state job findings (Some revision) = refl

returned_made : (state : State) (job : ℕ) (o : Option ℕ) → (give_back state job o).made ≡ []
returned_made state job None = refl
returned_made state job (Some revision) = refl

-- the reaction to a Take, a Deliver and a GiveBack
pub take_came : (state : State) (event : Event) → IsAnswered state event → event.request ≡ Take
    → came_of state event ≡ take_job state event.seat (least_waiting state.jobs)
take_came state event answered asked = whole_came state event Take answered asked (took_made state event.seat (least_waiting state.jobs))

pub deliver_came : (state : State) (event : Event) (job : ℕ) (findings : List Ends) → IsAnswered state event → event.request ≡ Deliver job findings
    → came_of state event ≡ deliver state job findings (taken_at state.jobs event.seat job)
deliver_came state event job findings answered asked =
    whole_came state event (Deliver job findings) answered asked (delivered_made state job findings (taken_at state.jobs event.seat job))

pub return_came : (state : State) (event : Event) (job : ℕ) → IsAnswered state event → event.request ≡ GiveBack job
    → came_of state event ≡ give_back state job (taken_at state.jobs event.seat job)
return_came state event job answered asked =
    whole_came state event (GiveBack job) answered asked (returned_made state job (taken_at state.jobs event.seat job))

taken_itself : (seat revision : ℕ) → taken_in seat (Some (Taken seat revision)) ≡ Some revision
taken_itself seat revision = ap (λ b. if b then Some revision else None) (eq-eqb seat seat refl)

-- a Take that is replied Took has taken the least job that waited, at the present revision
pub took : (state : State) (event : Event) (job revision : ℕ) → IsAnswered state event → event.request ≡ Take
    → event.reply ≡ reply.Took job revision → HasTaken state event.seat job revision (after_event state event)
took state event job revision answered asked told =
    let came = take_came state event answered asked in
    subst (λ (c : Reaction). HasTaken state event.seat job revision c.after) (sym came)
    (by_least (least_waiting state.jobs) refl (sym told ∙ (answered.reply ∙ ap (λ (c : Reaction). c.reply) came))) where
      by_least : (o : Option ℕ) → least_waiting state.jobs ≡ o → reply.Took job revision ≡ (take_job state event.seat o).reply
          → HasTaken state event.seat job revision (take_job state event.seat o).after
      by_least None least is = absurd (cc)
      by_least (Some other) least is =
          let same : job ≡ other = cc in
          let now : revision ≡ revision_of state.editing = cc in
          record {
            least = least ∙ ap Some (sym same);
            present = now;
            taken = ap (taken_in event.seat) (ap (state_of (with_state state.jobs other (Taken event.seat (revision_of state.editing)))) same
                ∙ state_of-same state.jobs other (Taken event.seat (revision_of state.editing)) Waiting (waiting_state state.jobs other least))
                ∙ (taken_itself event.seat (revision_of state.editing) ∙ ap Some (sym now));
            editing = refl;
          }

-- a Take that is replied NoJob has found none that waits
pub no_job : (state : State) (event : Event) (closed : Bool) → IsAnswered state event → event.request ≡ Take
    → event.reply ≡ reply.Refused (NoJob closed) → HasNone state closed (after_event state event)
no_job state event closed answered asked told =
    let came = take_came state event answered asked in
    subst (λ (c : Reaction). HasNone state closed c.after) (sym came)
    (by_least (least_waiting state.jobs) refl (sym told ∙ (answered.reply ∙ ap (λ (c : Reaction). c.reply) came))) where
      by_least : (o : Option ℕ) → least_waiting state.jobs ≡ o → reply.Refused (NoJob closed) ≡ (take_job state event.seat o).reply
          → HasNone state closed (take_job state event.seat o).after
      by_least None least is = record { closed = cc; none = least_none state.jobs least; same = refl }
      by_least (Some other) least is = absurd (cc)

-- the delivery of a job by the seat that has taken it is never refused
pub delivered : (state : State) (event : Event) (job revision : ℕ) (findings : List Ends) → IsAnswered state event
    → event.request ≡ Deliver job findings → taken_at state.jobs event.seat job ≡ Some revision
    → event.reply ≡ reply.Delivered job state.next_id (length findings)
delivered state event job revision findings answered asked taken =
    answered.reply ∙ (ap (λ (c : Reaction). c.reply) (deliver_came state event job findings answered asked)
    ∙ ap (λ o. (deliver state job findings o).reply) taken)

-- .. and a Deliver that is replied Delivered has made the job done
pub delivered_done : (state : State) (event : Event) (job number first count : ℕ) (findings : List Ends) → IsAnswered state event
    → event.request ≡ Deliver job findings → event.reply ≡ reply.Delivered number first count
    → HasDelivered state event.seat job (after_event state event)
delivered_done state event job number first count findings answered asked told =
    let came = deliver_came state event job findings answered asked in
    subst (λ (c : Reaction). HasDelivered state event.seat job c.after) (sym came)
    (by_taken (taken_at state.jobs event.seat job) refl (sym told ∙ (answered.reply ∙ ap (λ (c : Reaction). c.reply) came))) where
      by_taken : (o : Option ℕ) → taken_at state.jobs event.seat job ≡ o → reply.Delivered number first count ≡ (deliver state job findings o).reply
          → HasDelivered state event.seat job (deliver state job findings o).after
      by_taken None taken is = absurd (cc)
      by_taken (Some revision) taken is = record {
        revision = revision;
        taken = taken;
        done = state_of-same state.jobs job Done (Taken event.seat revision) (taken_state state.jobs event.seat job revision taken);
        editing = refl;
      }

-- the return of a job by the seat that has taken it is never refused
pub returned : (state : State) (event : Event) (job revision : ℕ) → IsAnswered state event
    → event.request ≡ GiveBack job → taken_at state.jobs event.seat job ≡ Some revision → event.reply ≡ reply.Returned job
returned state event job revision answered asked taken =
    answered.reply ∙ (ap (λ (c : Reaction). c.reply) (return_came state event job answered asked) ∙ ap (λ o. (give_back state job o).reply) taken)

-- .. and after a GiveBack that is replied Returned the job waits
pub returned_waits : (state : State) (event : Event) (job number : ℕ) → IsAnswered state event → event.request ≡ GiveBack job
    → event.reply ≡ reply.Returned number → HasReturned state event.seat job (after_event state event)
returned_waits state event job number answered asked told =
    let came = return_came state event job answered asked in
    subst (λ (c : Reaction). HasReturned state event.seat job c.after) (sym came)
    (by_taken (taken_at state.jobs event.seat job) refl (sym told ∙ (answered.reply ∙ ap (λ (c : Reaction). c.reply) came))) where
      by_taken : (o : Option ℕ) → taken_at state.jobs event.seat job ≡ o → reply.Returned number ≡ (give_back state job o).reply
          → HasReturned state event.seat job (give_back state job o).after
      by_taken None taken is = absurd (cc)
      by_taken (Some revision) taken is = record {
        revision = revision;
        taken = taken;
        waits = state_of-same state.jobs job Waiting (Taken event.seat revision) (taken_state state.jobs event.seat job revision taken);
        editing = refl;
      }

-- ---- all jobs done

-- after the close, where each GiveBack is refused, none waits
pub none_waits-told : (state : State) (event : Event) → IsAnswered state event → state.closed ≡ true
    → ((job : ℕ) → event.reply ≢ reply.Returned job) → NoneWaits state → NoneWaits (after_event state event)
none_waits-told state event answered shut kept none =
    none_waits-unless state event shut (λ job asked. none_unless _ (λ revision taken. kept job (returned state event job revision answered asked taken))) none

pub none_waits-answered : (state : State) (events : List Event) → Answered state events → state.closed ≡ true
    → All (λ event. (job : ℕ) → event.reply ≢ reply.Returned job) events → NoneWaits state → NoneWaits (replay state events)
none_waits-answered state [] answered shut kept none = none
none_waits-answered state (event ∷ events) answered shut kept none =
    let P : Event → Type 0 = λ event. (job : ℕ) → event.reply ≢ reply.Returned job in
    none_waits-answered (after_event state event) events answered.1 (closed_stays state event shut) (All-tail P event events kept)
    (none_waits-told state event answered.0 shut (All-head P event events kept) none)

state_done : (state : JobState) → is_waiting state ≡ false → ((seat : ℕ) → taken_in seat (Some state) ≡ None) → state ≡ Done
state_done Waiting waits free = absurd (true≢false waits)
state_done (Taken seat revision) waits free = absurd (none-some revision (sym (free seat) ∙ taken_itself seat revision))
state_done Done waits free = refl

-- where no job waits, and no seat works on one, all are done
pub all_done : (state : State) → NoneWaits state → ((seat : ℕ) → IsFree state seat) → All (λ job. job.state ≡ Done) state.jobs
all_done state none free k d within =
    let at : job_at state.jobs (suc k) ≡ Some (get_or state.jobs k d) =
    job_at_number state.jobs (suc k) (omega arith)
    ∙ (ap (slice_get state.jobs) (let here : suc k - 1 ≡ k = omega arith in here) ∙ slice_get-get_or state.jobs k d within) in
    state_done (get_or state.jobs k d).state (none k d within)
    (λ seat. sym (ap (λ o. taken_in seat (option_map (λ (j : Job). j.state) o)) at) ∙ free seat (suc k))

-- ---- a seat that works on one job alone

-- a seat that worked on no job works on the one that it has taken, and on no other
pub works_on : (state : State) (event : Event) (job revision : ℕ) → IsAnswered state event → event.request ≡ Take
    → event.reply ≡ reply.Took job revision → IsFree state event.seat → WorksOn (after_event state event) event.seat job revision
works_on state event job revision answered asked told free =
    let has = took state event job revision answered asked told in
    record {
      taken = has.taken;
      alone = λ other apart. untaken_stays state event event.seat other (free other)
          (λ mine again least. apart (same_Some other job (sym least ∙ has.least)));
      within = omega (arith, has.present, ap revision_of has.editing);
    }

-- .. also after events of other seats
pub works_on-event : (state : State) (event : Event) (seat job revision : ℕ) → WorksOn state seat job revision → event.seat ≢ seat
    → WorksOn (after_event state event) seat job revision
works_on-event state event seat job revision works other = record {
  taken = taken_stays state event seat job revision works.taken other;
  alone = λ another apart. untaken_stays state event seat another (works.alone another apart) (λ mine asked least. other mine);
  within = omega (arith, works.within, revision_grows state event);
}

pub works_on-replay : (state : State) (events : List Event) (seat job revision : ℕ) → WorksOn state seat job revision
    → All (λ event. event.seat ≢ seat) events → WorksOn (replay state events) seat job revision
works_on-replay state [] seat job revision works others = works
works_on-replay state (event ∷ events) seat job revision works others =
    let P : Event → Type 0 = λ event. event.seat ≢ seat in
    works_on-replay (after_event state event) events seat job revision
    (works_on-event state event seat job revision works (All-head P event events others)) (All-tail P event events others)

ended : (state : State) (event : Event) (job revision : ℕ) (new : JobState) → WorksOn state event.seat job revision → event.request ≢ Take
    → state_of (after_event state event).jobs job ≡ Some new → taken_in event.seat (Some new) ≡ None → IsFree (after_event state event) event.seat
ended state event job revision new works asked there out other = elim (cases_eq other job) [
  | inl same ↦ ap (taken_in event.seat) (ap (state_of (after_event state event).jobs) same ∙ there) ∙ out
  | inr apart ↦ untaken_stays state event event.seat other (works.alone other apart) (λ mine again least. asked again)
]

-- a seat that has delivered its job works on none
pub delivered_free : (state : State) (event : Event) (job revision : ℕ) (findings : List Ends) → IsAnswered state event
    → event.request ≡ Deliver job findings → WorksOn state event.seat job revision → IsFree (after_event state event) event.seat
delivered_free state event job revision findings answered asked works =
    let told = delivered state event job revision findings answered asked works.taken in
    ended state event job revision Done works (λ again. cc)
    (delivered_done state event job job state.next_id (length findings) findings answered asked told).done refl

-- .. and so does one that has given it back
pub returned_free : (state : State) (event : Event) (job revision : ℕ) → IsAnswered state event
    → event.request ≡ GiveBack job → WorksOn state event.seat job revision → IsFree (after_event state event) event.seat
returned_free state event job revision answered asked works =
    let told = returned state event job revision answered asked works.taken in
    ended state event job revision Waiting works (λ again. cc) (returned_waits state event job job answered asked told).waits refl
