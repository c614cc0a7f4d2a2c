-- A script and a file have one history without workers in which no call outside fails: whatever may
-- come next is determined by the state, by what is due and by what is left to be asked for.
use Rattle.std.proofs.Common.{◌≡◌, ℕ, zero, suc, ◌-◌, All, Bool, true, false, List, [], ◌∷◌, ◌++◌, map, replicate, ◌⊎◌, inl, inr, Option, Some, None, refl, ap, sym, subst, ◌∙◌, arith, if◌then◌else◌}
use Rattle.std.specs.Prelude.{nat_eq}
use Rattle.std.specs.List.{cons_option}
use Rattle.std.specs.Option.{option_map}
use Rattle.std.proofs.lemmas.Bool.{true≢false}
use Rattle.std.proofs.lemmas.Option.{none-some, slice_get_within, get_or_from_slice_get}
use Rattle.std.proofs.lemmas.List.Elements.{All-head, All-tail}
use Rattle.kte_text.specs.declared.loading.Loaded.{Loaded}
use Rattle.kte_place.specs.Ends.{Ends}
use Rattle.kte_find.specs.declared.rule.Rule.{Rule}
use Rattle.kte_find.proofs.LawLemmas.{one_findings}
use Rattle.kte_jobs.specs.declared.job.JobState.TheVariants.{Waiting, Taken, Done}
use Rattle.kte_jobs.specs.Job.{Job}
use Rattle.kte_jobs.specs.Jobs.{job_at, rule_of, least_waiting}
use Rattle.kte_jobs.proofs.JobLemmas.{job_at_number}
use Rattle.kte_doc.specs.Trail.{text_at}
use Rattle.kte_command.specs.declared.command.Command.{Command}
use Rattle.kte_command.specs.declared.command.Command.TheVariants.{End}
use Rattle.kte_core.specs.State.{State, Reaction}
use Rattle.kte_core.specs.Jobs.{taken_at, take_job, deliver}
use Rattle.kte_core.specs.React.{react, react_by}
use Rattle.kte_core.specs.Replay.{IsLegal, Finds, Legal, after_event, beginning, came_of, replay}
use Rattle.kte_core.specs.declared.event.Event.{Event}
use Rattle.kte_core.specs.declared.request.OutsideCall.{OutsideCall}
use Rattle.kte_core.specs.declared.request.Request.{Request}
use Rattle.kte_core.specs.declared.request.Request.TheVariants.{Cmd, Close, Take, Deliver, GiveBack, Outcome}
use Rattle.kte_core.proofs.OneJobLemmas.{job_of_state, taken_state, waiting_state}
use Rattle.kte_core.proofs.SeatLemmas.{only_close}
use Rattle.kte_desk.specs.Schedule.{AllFit, Due, Fits, InTurn, IsDeliveryOf, IsDue, IsFree, IsOutcomeOf, IsServed, NoneFailed, Schedule, WentWell, asked_for, asked_in, depth_after, due_of, if_asked, is_refused, lost_by}
use Rattle.kte_desk.specs.Schedule.Due.{nothing, append, outcome, delivery}

-- ---- the event of a request

-- what the editor's request makes, where memory does not run out
event_by : State → Request → Event
event_by state request = record { seat = 0; request = request; reply = (react state 0 request).reply }

-- an event of a run without workers is determined by its request
is_by : (state : State) (event : Event) → Fits 0 state event → IsLegal state event → event ≡ event_by state event.request
unfolding event_by
is_by state event fits legal =
    let seat : event.seat ≡ 0 = omega (arith, fits.seat) in
    let came : came_of state event ≡ react state 0 event.request =
    ap (react_by state event.seat event.request) fits.whole ∙ ap (λ n. react state n event.request) seat in
    let reply : event.reply ≡ (react state 0 event.request).reply =
    legal.answered.reply ∙ ap (λ (c : Reaction). c.reply) came in
    let first : event ≡ record event { seat = 0 } = ap (λ n. record event { seat = n }) seat in
    first ∙ ap (λ r. record event { seat = 0; reply = r }) reply

-- ---- what is left to be asked for

-- after a close nothing is asked for
abbrev ClosesLast : List Request → Type 0
ClosesLast [] = Unit {0}
ClosesLast (Close ∷ rest) = rest ≡ []
ClosesLast (request ∷ rest) = ClosesLast rest

closes_last : (commands : List Command) → ClosesLast (map Cmd commands ++ Close ∷ [])
closes_last [] = refl
closes_last (command ∷ commands) = closes_last commands

last-tail : (asked : Option Request) (rest : List Request) → ClosesLast (cons_option asked rest) → ClosesLast rest
last-tail None rest last = last
last-tail (Some (Cmd command)) rest last = last
last-tail (Some Close) rest last = subst ClosesLast (sym last) tt
last-tail (Some Take) rest last = last
last-tail (Some (Deliver job findings)) rest last = last
last-tail (Some (GiveBack job)) rest last = last
last-tail (Some (Outcome call ok)) rest last = last

nothing-tail : (asked : Option Request) (rest : List Request) → cons_option asked rest ≡ [] → rest ≡ []
nothing-tail None rest is = is
nothing-tail (Some request) rest is = absurd (cc)

same-tail : (asked : Option Request) (rest other : List Request) → cons_option asked rest ≡ cons_option asked other → rest ≡ other
same-tail None rest other is = is
same-tail (Some request) rest other is = cc

-- ---- the rest of a history in which no call fails

-- .. from a state in which this is due, and so much is left to be asked for
record Rest (state : State) (lost : Bool) (due : Due) (left : List Request) (events : List Event) : Type 0 where
  legal : Legal state events
  fit : AllFit 0 state events
  ordered : asked_in events ≡ left
  in_turn : InTurn state lost due events
  well : NoneFailed events
  done : All (λ job. job.state ≡ Done) (replay state events).jobs

-- what is due after an event
due_after : State → Due → Event → Due
due_after state due event =
    if nat_eq event.seat 0 then due_of event.request (came_of state event).finished event.reply else due

rest-tail : (state : State) (lost : Bool) (due : Due) (left next : List Request) (event : Event) (events : List Event)
    → asked_in events ≡ next → Rest state lost due left (event ∷ events)
    → Rest (after_event state event) (lost_by lost event.request) (due_after state due event) next events
unfolding due_after
rest-tail state lost due left next event events ordered rest = record {
  legal = rest.legal.1;
  fit = rest.fit.1;
  ordered = ordered;
  in_turn = rest.in_turn.1;
  well = All-tail (λ (e : Event). WentWell e.request) event events rest.well;
  done = rest.done;
}

-- what is known of the first request of a rest
record Head (state : State) (lost : Bool) (due : Due) (left : List Request) (request : Request) : Type 0 where
  called : IsDue due lost request
  well : WentWell request
  served : IsServed 0 state 0 request (react state 0 request).reply
  finds : Finds state 0 request
  rest : List Request
  asked : left ≡ cons_option (if_asked request) rest

head : (state : State) (lost : Bool) (due : Due) (left : List Request) (event : Event) (events : List Event)
    → Rest state lost due left (event ∷ events) → Head state lost due left event.request
unfolding event_by
head state lost due left event events rest =
    let by = is_by state event rest.fit.0 rest.legal.0 in
    let fits : Fits 0 state (event_by state event.request) = subst (Fits 0 state) by rest.fit.0 in
    let legal : IsLegal state (event_by state event.request) = subst (IsLegal state) by rest.legal.0 in
    record {
      called = rest.in_turn.0 (ap (λ (e : Event). e.seat) by);
      well = All-head (λ (e : Event). WentWell e.request) event events rest.well;
      served = fits.served;
      finds = legal.finds;
      rest = asked_in events;
      asked = sym rest.ordered;
    }

-- ---- requests at any time

-- a request that is free is asked for by the script, or takes a job
kind : (request : Request) → IsFree request → (if_asked request ≡ Some request) ⊎ (request ≡ Take)
kind (Cmd command) free = inl refl
kind Close free = inl refl
kind Take free = inr refl
kind (Deliver job findings) free = absurd free
kind (GiveBack job) free = absurd free
kind (Outcome call ok) free = absurd free

module _ (state : State) (lost : Bool) (due : Due) (left : List Request) where
  first : (request : Request) (h : Head state lost due left request) → if_asked request ≡ Some request → left ≡ request ∷ h.rest
  first request h is = h.asked ∙ ap (λ o. cons_option o h.rest) is

  -- a job is taken after the close only, and where one waits
  take_served : (request : Request) → Head state lost due left request → request ≡ Take
      → (state.closed ≡ true) × (is_refused (take_job state 0 (least_waiting state.jobs)).reply ≡ false)
  take_served request h is = subst (λ r. IsServed 0 state 0 r (react state 0 r).reply) is h.served

  -- what is free is the next that is left to be asked for, or takes a job after the close
  same_free : (one other : Request) → (state.closed ≡ true → left ≡ []) → Head state lost due left one → Head state lost due left other
      → IsFree one → IsFree other → one ≡ other
  same_free one other all p q f g = elim (kind one f) [
    | inl asked ↦ elim (kind other g) [
      | inl too ↦ let a = first one p asked in let b = first other q too in cc
      | inr take ↦ absurd (let a = first one p asked in let b = all (take_served other q take).0 in cc)
    ]
    | inr take ↦ elim (kind other g) [
      | inl asked ↦ absurd (let a = first other q asked in let b = all (take_served one p take).0 in cc)
      | inr too ↦ cc
    ]
  ]

-- ---- deliveries

-- the job of a delivery that is not refused was taken, at a revision, and has a rule
taken : (state : State) (job : ℕ) (findings : List Ends) (o : Option ℕ) → taken_at state.jobs 0 job ≡ o
    → is_refused (deliver state job findings o).reply ≡ false → (revision : ℕ) × (taken_at state.jobs 0 job ≡ Some revision)
taken state job findings None is served = absurd (true≢false served)
taken state job findings (Some revision) is served = (revision, is)

rule_there : (state : State) (job revision : ℕ) → taken_at state.jobs 0 job ≡ Some revision → (rule : Rule) × (rule_of state.jobs job ≡ Some rule)
rule_there state job revision is =
    let job_is = job_of_state state.jobs job (Taken 0 revision) (taken_state state.jobs 0 job revision is) in
    (job_is.0.rule, ap (option_map (λ (j : Job). j.rule)) job_is.1)

same_findings : (state : State) (job : ℕ) (one other : List Ends)
    → is_refused (react state 0 (Deliver job one)).reply ≡ false
    → Finds state 0 (Deliver job one) → Finds state 0 (Deliver job other) → one ≡ other
same_findings state job one other served p q =
    let at = taken state job one (taken_at state.jobs 0 job) refl served in
    let rule = rule_there state job at.0 at.1 in
    one_findings rule.0 (text_at state.editing.loaded.text state.editing.trail at.0) one other
    (p rule.0 at.0 rule.1 at.1) (q rule.0 at.0 rule.1 at.1)

-- ---- the next request

-- an outcome of a call that did not fail
went : (call : OutsideCall) (lost : Bool) (request : Request) → IsOutcomeOf call lost request → WentWell request → request ≡ Outcome call true
went call lost request is well =
    let ok : is.ok ≡ true = subst WentWell is.told well in
    is.told ∙ ap (Outcome call) ok

-- no append failed, so what is due after a transaction is free
free : (lost : Bool) (request : Request) → IsDue append lost request → WentWell request → IsFree request
free lost request (inl is) well = is
free lost request (inr failed) well = absurd (true≢false (sym (subst WentWell failed.told well)))

same_delivery : (state : State) (lost : Bool) (job : ℕ) (left : List Request) (one other : Request)
    → Head state lost (delivery job) left one → Head state lost (delivery job) left other → one ≡ other
same_delivery state lost job left one other p q = by one other p.called q.called p.served p.finds q.finds where
  by : (r s : Request) → IsDeliveryOf job r → IsDeliveryOf job s → IsServed 0 state 0 r (react state 0 r).reply
      → Finds state 0 r → Finds state 0 s → r ≡ s
  by (Deliver number findings) (Deliver another found) a b served f g =
      let number_is : number ≡ another = a ∙ sym b in
      let findings_are : findings ≡ found = same_findings state number findings found served f
      (subst (λ n. Finds state 0 (Deliver n found)) (sym number_is) g) in
      cc
  by (Deliver number findings) (Cmd command) a b served f g = absurd b
  by (Deliver number findings) Close a b served f g = absurd b
  by (Deliver number findings) Take a b served f g = absurd b
  by (Deliver number findings) (GiveBack another) a b served f g = absurd b
  by (Deliver number findings) (Outcome call ok) a b served f g = absurd b
  by (Cmd command) s a b served f g = absurd a
  by Close s a b served f g = absurd a
  by Take s a b served f g = absurd a
  by (GiveBack number) s a b served f g = absurd a
  by (Outcome call ok) s a b served f g = absurd a

-- the next requests of two histories are the same
same_request : (state : State) (lost : Bool) (due : Due) (left : List Request) (one other : Request)
    → (state.closed ≡ true → left ≡ []) → Head state lost due left one → Head state lost due left other → one ≡ other
same_request state lost nothing left one other all p q = same_free state lost nothing left one other all p q p.called q.called
same_request state lost append left one other all p q =
    same_free state lost append left one other all p q (free lost one p.called p.well) (free lost other q.called q.well)
same_request state lost (outcome call) left one other all p q =
    went call lost one p.called p.well ∙ sym (went call lost other q.called q.well)
same_request state lost (delivery job) left one other all p q = same_delivery state lost job left one other p q

-- ---- the end

-- where all jobs are done every request for one is refused
none_to_take : (state : State) → All (λ job. job.state ≡ Done) state.jobs → (o : Option ℕ) → least_waiting state.jobs ≡ o
    → is_refused (take_job state 0 o).reply ≡ false → ⊥
none_to_take state done None is served = true≢false served
none_to_take state done (Some number) is served =
    let job = job_of_state state.jobs number Waiting (waiting_state state.jobs number is) in
    by number job.0 job.1 job.2 where
      by : (n : ℕ) (job : Job) → job_at state.jobs n ≡ Some job → job.state ≡ Waiting → ⊥
      by zero job there waits = absurd (none-some job there)
      by (suc n) job there waits =
          let at = sym (job_at_number state.jobs (suc n) (omega arith)) ∙ there in
          let is_done : job.state ≡ Done = subst (λ (j : Job). j.state ≡ Done) (get_or_from_slice_get state.jobs (suc n - 1) job job at)
          (done (suc n - 1) job (slice_get_within state.jobs (suc n - 1) job at)) in
          cc

-- where one history ends no other goes on
ended-free : (state : State) (lost : Bool) (due : Due) (left : List Request) (request : Request)
    → Rest state lost due left [] → Head state lost due left request → IsFree request → ⊥
ended-free state lost due left request rest h is = elim (kind request is) [
  | inl asked ↦ let a = first state lost due left request h asked in let b : [] ≡ left = rest.ordered in cc
  | inr take ↦ none_to_take state rest.done (least_waiting state.jobs) refl (take_served state lost due left request h take).1
]

ended : (state : State) (lost : Bool) (due : Due) (left : List Request) (request : Request)
    → Rest state lost due left [] → Head state lost due left request → ⊥
ended state lost nothing left request rest h = ended-free state lost nothing left request rest h h.called
ended state lost append left request rest h = ended-free state lost append left request rest h (free lost request h.called h.well)
ended state lost (outcome call) left request rest h = absurd rest.in_turn
ended state lost (delivery job) left request rest h = absurd rest.in_turn

-- ---- one history

-- after an event the session is closed only if nothing is left to be asked for
all_asked-tail : (state : State) (left : List Request) (event : Event) (events : List Event) → asked_in (event ∷ events) ≡ left
    → ClosesLast left → (state.closed ≡ true → left ≡ []) → (after_event state event).closed ≡ true → asked_in events ≡ []
all_asked-tail state left event events ordered last all shut = by state.closed refl where
  by : (b : Bool) → state.closed ≡ b → asked_in events ≡ []
  by true is = nothing-tail (if_asked event.request) (asked_in events) (ordered ∙ all is)
  by false is =
      let close : if_asked event.request ≡ Some Close = ap if_asked (only_close state event is shut) in
      subst ClosesLast (sym ordered ∙ ap (λ o. cons_option o (asked_in events)) close) last

-- two rests of histories from the same state are the same
one_rest : (state : State) (lost : Bool) (due : Due) (left : List Request) (one other : List Event)
    → ClosesLast left → (state.closed ≡ true → left ≡ [])
    → Rest state lost due left one → Rest state lost due left other → one ≡ other
one_rest state lost due left [] [] last all p q = refl
one_rest state lost due left [] (event ∷ events) last all p q =
    absurd (ended state lost due left event.request p (head state lost due left event events q))
one_rest state lost due left (event ∷ events) [] last all p q =
    absurd (ended state lost due left event.request q (head state lost due left event events p))
one_rest state lost due left (event ∷ events) (another ∷ others) last all p q =
    let asked : event.request ≡ another.request =
    same_request state lost due left event.request another.request all
    (head state lost due left event events p) (head state lost due left another others q) in
    let same : event ≡ another =
    is_by state event p.fit.0 p.legal.0 ∙ (ap (event_by state) asked ∙ sym (is_by state another q.fit.0 q.legal.0)) in
    let q_same : Rest state lost due left (event ∷ others) = subst (λ e. Rest state lost due left (e ∷ others)) (sym same) q in
    let next : asked_in others ≡ asked_in events =
    same-tail (if_asked event.request) (asked_in others) (asked_in events) (q_same.ordered ∙ sym p.ordered) in
    let tail : events ≡ others =
    one_rest (after_event state event) (lost_by lost event.request) (due_after state due event) (asked_in events) events others
    (last-tail (if_asked event.request) (asked_in events) (subst ClosesLast (sym p.ordered) last))
    (all_asked-tail state left event events p.ordered last all)
    (rest-tail state lost due left (asked_in events) event events refl p)
    (rest-tail state lost due left (asked_in events) event others next q_same) in
    cc

rest_of : (commands : List Command) (state : State) (events : List Event) → Schedule commands 0 state events → NoneFailed events
    → Rest state false nothing (asked_for commands) events
rest_of commands state events schedule well = record {
  legal = schedule.legal;
  fit = schedule.fit;
  ordered = schedule.ordered;
  in_turn = schedule.in_turn;
  well = well;
  done = schedule.done;
}

-- a script has one history in a file, in which no call fails
pub one_schedule : (loaded : Loaded) (limit : ℕ) (commands : List Command) (one other : List Event)
    → Schedule commands 0 (beginning loaded limit) one → NoneFailed one
    → Schedule commands 0 (beginning loaded limit) other → NoneFailed other → one ≡ other
one_schedule loaded limit commands one other p a q b =
    one_rest (beginning loaded limit) false nothing (asked_for commands) one other
    (closes_last (commands ++ replicate (depth_after 0 commands) End)) (λ shut. absurd (true≢false (sym shut)))
    (rest_of commands (beginning loaded limit) one p a) (rest_of commands (beginning loaded limit) other q b)
