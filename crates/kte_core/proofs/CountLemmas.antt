-- How many jobs wait, after an event.
use Rattle.std.proofs.Common.{◌≡◌, ◌≢◌, ℕ, ◌+◌, ◌≤◌, true, false, List, ap, sym, ◌∙◌, arith, if◌then◌else◌}
use Rattle.std.proofs.lemmas.Bool.{true≢false}
use Rattle.std.proofs.lemmas.List.Sums.{sum_by_push}
use Rattle.kte_find.specs.declared.rule.Rule.{Rule}
use Rattle.kte_jobs.specs.declared.job.JobState.TheVariants.{Waiting, Taken, Done}
use Rattle.kte_jobs.specs.Job.{Job, is_waiting}
use Rattle.kte_command.specs.declared.command.Command.TheVariants.{Check}
use Rattle.kte_core.specs.Editing.{revision_of}
use Rattle.kte_core.specs.State.{State, Reaction, refused}
use Rattle.kte_core.specs.Jobs.{post, take_job, give_back}
use Rattle.kte_core.specs.React.{react}
use Rattle.kte_core.specs.Replay.{came_of, after_event, IsAnswered}
use Rattle.kte_core.specs.JobsInWords.{JobChange, count_waiting}
use Rattle.kte_core.specs.JobsInWords.JobChange.{stays, closes, posts, takes, finishes, returns}
use Rattle.kte_core.specs.declared.event.Event.{Event}
use Rattle.kte_core.specs.declared.reply.Reply.TheVariants as reply
use Rattle.kte_core.specs.declared.reply.Refusal.TheVariants.{Closed}
use Rattle.kte_core.specs.declared.request.Request.{Request}
use Rattle.kte_core.specs.declared.request.Request.TheVariants.{Cmd, Take, GiveBack}
use Rattle.kte_core.proofs.CaseLemmas.{event_changes}
use Rattle.kte_core.proofs.JobLemmas.{count_in, count-set}
use Rattle.kte_core.proofs.OneJobLemmas.{taken_state, waiting_state}
use Rattle.kte_core.proofs.SeatLemmas.{whole_came}
use Rattle.kte_core.proofs.TakeLemmas.{take_came, took, return_came, returned_waits}

abbrev waiting_in : List Job → ℕ
waiting_in jobs = count_in is_waiting jobs

-- how the number of jobs that wait changes
data Counts (state : State) (seat : ℕ) (request : Request) (came : Reaction) : Type 0 where
  same : waiting_in came.after.jobs ≡ waiting_in state.jobs → Counts state seat request came
  more : (rule : Rule) → request ≡ Cmd (Check rule) → state.closed ≡ false → waiting_in came.after.jobs ≡ waiting_in state.jobs + 1
      → Counts state seat request came
  less : request ≡ Take → waiting_in came.after.jobs + 1 ≡ waiting_in state.jobs → Counts state seat request came
  back : (job : ℕ) → request ≡ GiveBack job → waiting_in came.after.jobs ≡ waiting_in state.jobs + 1 → Counts state seat request came

counts-by : (state : State) (seat : ℕ) (request : Request) (came : Reaction) → JobChange state seat request came → Counts state seat request came
counts-by state seat request came (stays leaves) = same (ap waiting_in leaves.jobs)
counts-by state seat request came (closes asked open_now so) = same (ap (λ (c : Reaction). waiting_in c.after.jobs) so)
counts-by state seat request came (posts rule asked open_now so) =
    more rule asked open_now (ap (λ (c : Reaction). waiting_in c.after.jobs) so
    ∙ sum_by_push (λ (job : Job). if is_waiting job.state then 1 else 0) state.jobs (record { rule = rule; state = Waiting }))
counts-by state seat request came (takes job asked least so) =
    let new = Taken seat (revision_of state.editing) in
    let set = count-set is_waiting state.jobs job Waiting new (waiting_state state.jobs job least) in
    less asked (ap (λ (c : Reaction). waiting_in c.after.jobs + 1) so ∙ (omega (arith, set)))
counts-by state seat request came (finishes job at findings asked taken so) =
    let set = count-set is_waiting state.jobs job (Taken seat at) Done (taken_state state.jobs seat job at taken) in
    same (ap (λ (c : Reaction). waiting_in c.after.jobs) so ∙ (omega (arith, set)))
counts-by state seat request came (returns job at asked taken so) =
    let set = count-set is_waiting state.jobs job (Taken seat at) Waiting (taken_state state.jobs seat job at taken) in
    back job asked (ap (λ (c : Reaction). waiting_in c.after.jobs) so ∙ (omega (arith, set)))

event_counts : (state : State) (event : Event) → Counts state event.seat event.request (came_of state event)
event_counts state event = counts-by state event.seat event.request (came_of state event) (event_changes state event)

-- the number of jobs that wait rises by one at most
pub waiting_rises : (state : State) (event : Event) → count_waiting (after_event state event) ≤ count_waiting state + 1
waiting_rises state event = by_count (event_counts state event) where
  by_count : Counts state event.seat event.request (came_of state event) → count_waiting (after_event state event) ≤ count_waiting state + 1
  by_count (same e) = omega (arith, e)
  by_count (more rule asked open_now e) = omega (arith, e)
  by_count (less asked e) = omega (arith, e)
  by_count (back job asked e) = omega (arith, e)

-- only Check, Take and GiveBack change it
pub waiting_same : (state : State) (event : Event) → ((rule : Rule) → event.request ≢ Cmd (Check rule)) → event.request ≢ Take
    → ((job : ℕ) → event.request ≢ GiveBack job) → count_waiting (after_event state event) ≡ count_waiting state
waiting_same state event check take back_ = by_count (event_counts state event) where
  by_count : Counts state event.seat event.request (came_of state event) → count_waiting (after_event state event) ≡ count_waiting state
  by_count (same e) = e
  by_count (more rule asked open_now e) = absurd (check rule asked)
  by_count (less asked e) = absurd (take asked)
  by_count (back job asked e) = absurd (back_ job asked)

-- after the close it rises only by a GiveBack
pub waiting_falls : (state : State) (event : Event) → state.closed ≡ true → ((job : ℕ) → event.request ≢ GiveBack job)
    → count_waiting (after_event state event) ≤ count_waiting state
waiting_falls state event shut kept = by_count (event_counts state event) where
  by_count : Counts state event.seat event.request (came_of state event) → count_waiting (after_event state event) ≤ count_waiting state
  by_count (same e) = omega (arith, e)
  by_count (more rule asked open_now e) = absurd (true≢false (sym shut ∙ open_now))
  by_count (less asked e) = omega (arith, e)
  by_count (back job asked e) = absurd (kept job asked)

-- a Take that is replied Took leaves one less
pub waiting_took : (state : State) (event : Event) (job revision : ℕ) → IsAnswered state event → event.request ≡ Take
    → event.reply ≡ reply.Took job revision → count_waiting (after_event state event) + 1 ≡ count_waiting state
waiting_took state event job revision answered asked told =
    let has = took state event job revision answered asked told in
    let set = count-set is_waiting state.jobs job Waiting (Taken event.seat (revision_of state.editing)) (waiting_state state.jobs job has.least) in
    ap (λ (c : Reaction). waiting_in c.after.jobs + 1) (take_came state event answered asked)
    ∙ (ap (λ o. waiting_in (take_job state event.seat o).after.jobs + 1) has.least ∙ (omega (arith, set)))

-- a GiveBack that is replied Returned makes one more wait
pub waiting_returned : (state : State) (event : Event) (job number : ℕ) → IsAnswered state event → event.request ≡ GiveBack job
    → event.reply ≡ reply.Returned number → count_waiting (after_event state event) ≡ count_waiting state + 1
waiting_returned state event job number answered asked told =
    let has = returned_waits state event job number answered asked told in
    let set = count-set is_waiting state.jobs job (Taken event.seat has.revision) Waiting (taken_state state.jobs event.seat job has.revision has.taken) in
    ap (λ (c : Reaction). waiting_in c.after.jobs) (return_came state event job answered asked)
    ∙ (ap (λ o. waiting_in (give_back state job o).after.jobs) has.taken ∙ (omega (arith, set)))

-- a Check in an open session makes one more wait
pub waiting_posted : (state : State) (event : Event) (rule : Rule) → IsAnswered state event → event.request ≡ Cmd (Check rule)
    → state.closed ≡ false → count_waiting (after_event state event) ≡ count_waiting state + 1
waiting_posted state event rule answered asked open_now =
    let posted : react state event.seat (Cmd (Check rule)) ≡ post state rule =
    ap (λ b. if b then refused state Closed else post state rule) open_now in
    ap (λ (c : Reaction). waiting_in c.after.jobs)
    (whole_came state event (Cmd (Check rule)) answered asked (ap (λ (c : Reaction). c.made) posted) ∙ posted)
    ∙ sum_by_push (λ (job : Job). if is_waiting job.state then 1 else 0) state.jobs (record { rule = rule; state = Waiting })
