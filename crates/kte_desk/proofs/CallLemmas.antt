-- What the requests of a pass make of the core.
use Rattle.std.proofs.Common.{◌≡◌, ◌≢◌, ℕ, ◌+◌, ◌-◌, ◌<◌, ◌≤◌, ◌^◌, ◌==◌, Bool, true, false, List, [], ◌∷◌, ◌++◌, length, take, take_all, All, Option, Some, None, IfSome, Bor, cond, refl, ap, sym, subst, ◌∙◌, arith, eq-eqb, ne_eqb}
use Rattle.std.specs.Option.{option_map, option_copied}
use Rattle.std.proofs.lemmas.Bool.{true≢false}
use Rattle.std.proofs.lemmas.List.{append_cancel_right}
use Rattle.std.proofs.lemmas.Option.{same_Some, none-some, get_or_from_slice_get, slice_get_within}
use Rattle.std.proofs.lemmas.List.Elements.{All-nil, All-cons, All-head, All-tail, All-filter}
use mathlib.Core.Logic.{dite}
use native.Mathlib.Decide.{ℕ_discrete}
use Rattle.kte_text.specs.Texts.{IsText}
use Rattle.kte_text.specs.Primitives.{FitInTurn, after_all}
use Rattle.kte_text.specs.declared.loading.Loaded.{Loaded}
use Rattle.kte_text.specs.declared.primitive.Primitive.{Primitive}
use Rattle.kte_place.specs.Ends.{Ends, SpanIsInReach}
use Rattle.kte_find.specs.Findings.{AreFindings}
use Rattle.kte_find.specs.Rule.{HasWord}
use Rattle.kte_find.specs.declared.found.TheConstants.{MAX_FINDINGS}
use Rattle.kte_find.specs.declared.rule.Rule.{Rule}
use Rattle.kte_jobs.specs.declared.job.JobState.TheVariants.{Waiting, Taken}
use Rattle.kte_jobs.specs.Job.{Job, is_waiting}
use Rattle.kte_jobs.specs.Jobs.{job_at, rule_of, least_waiting}
use Rattle.kte_jobs.proofs.JobLemmas.{stands}
use Rattle.kte_doc.specs.Trail.{text_at}
use Rattle.kte_turn.specs.Known.{events_of, left}
use Rattle.kte_core.specs.Editing.{Editing, revision_of, text_of}
use Rattle.kte_core.specs.State.{State}
use Rattle.kte_core.specs.JobsInWords.{IsFree, NoneWaits, WorksOn}
use Rattle.kte_core.specs.Jobs.{taken_at}
use Rattle.kte_core.specs.Requests.{IsAllowed, ranges_of}
use Rattle.kte_core.specs.Replay.{Session, Finds, IsAnswered, IsLegal, Legal, after_event, came_of, present, replay}
use Rattle.kte_core.specs.Shown.{Reacts}
use Rattle.kte_core.specs.declared.event.Event.{Event}
use Rattle.kte_core.specs.declared.event.Step.{Step}
use Rattle.kte_core.specs.declared.reply.Reply.TheVariants as reply
use Rattle.kte_core.specs.declared.request.Request.{Request}
use Rattle.kte_core.specs.declared.request.Request.TheVariants.{Cmd, Close, Take, Deliver, GiveBack, Outcome}
use Rattle.kte_core.proofs.AllJobLemmas.{rule_stays-replay}
use Rattle.kte_core.proofs.CallerLemmas.{present-push}
use Rattle.kte_core.proofs.CaseLemmas.{event_grows}
use Rattle.kte_core.proofs.JournalLemmas.{finds-replay}
use Rattle.kte_core.proofs.OneJobLemmas.{job_of_state, taken_state, waiting_state}
use Rattle.kte_core.proofs.ReachLemmas.{all_in_reach}
use Rattle.kte_core.proofs.SeatLemmas.{only_close}
use Rattle.kte_core.proofs.TakeLemmas.{delivered, delivered_free, returned, returned_free, took, works_on}
use Rattle.kte_desk.specs.Calls.{Adds, AddsNone, Found, IsOfEditor, Leaves, MadeAs, MadeIn, Turns, beginning_of}
use Rattle.kte_desk.specs.Seen.{Sees, SeesState, first_state, seat_of, seen_state}
use Rattle.kte_desk.specs.Works.{IsWork, Works, WorksAsSeen, text_then}
use Rattle.kte_desk.specs.declared.beginning.Beginning.{Beginning}
use Rattle.kte_desk.specs.declared.work.Work.{Work}
use Rattle.kte_desk.proofs.TurnLemmas.{between, found_state, found_works, leaves_one, legal_after, others, same_origin, turned_none, turned_one}

-- what was made for an event, where the state after it is that of a core
pub made_in : (state after : State) (event : Event) (made : List Primitive) → after ≡ after_event state event → made ≡ (came_of state event).made
    → IsText (text_of state.editing) → FitInTurn after.editing.trail after.editing.loaded.text → IsText (text_of after.editing)
    → MadeIn state event made
made_in state after event made leads same from fit to = record {
  same = same;
  from = from;
  fit = subst (λ (l : Loaded). FitInTurn (after_event state event).editing.trail l.text) (event_grows state event).loaded
      (subst (λ (s : State). FitInTurn s.editing.trail s.editing.loaded.text) leads fit);
  to = subst (λ (s : State). IsText (text_of s.editing)) leads to;
}

-- ---- one event more

module _ (sees stay : Sees) (before session : Session) (event : Event) (found : Found sees before)
    (stays : stay ≡ record sees { seen = before.events }) (more : session ≡ record before { events = before.events ++ event ∷ [] }) where
  pub leaves : event.seat ≡ sees.seat → IsLegal (present before) event → length (events_of seat_of 0 session.events) ≤ 2 ^ 31 → Leaves stay session
  leaves mine legal few = subst (λ (s : Sees). Leaves s session) (sym stays) (leaves_one sees before session event found more mine legal few)

  pub turned : (after : Sees) → event.seat ≡ sees.seat → IsLegal (present before) event → after ≡ left session.events stay
      → Turns sees after × Adds sees after event
  turned after mine legal is =
      turned_one sees after before session event found more mine (legal_after before session event more found.legal legal)
      (is ∙ ap (left session.events) stays)

  pub state_after : present session ≡ after_event (present before) event
  state_after = ap present more ∙ present-push before event

  began : sees.origin ≡ Some (beginning_of session)
  began = found.origin ∙ sym (ap (λ (s : Session). Some (beginning_of s)) more)

  -- what holds of the state after the event is so as the pass has seen it
  pub sees_after : (after : Sees) (P : State → Type 0) → after ≡ left session.events stay → P (after_event (present before) event) → SeesState after P
  sees_after after P is so =
      subst (λ (a : Sees). SeesState a P) (sym (is ∙ ap (left session.events) stays))
      (λ origin from. subst (λ (o : Beginning). P (replay (first_state o) session.events)) (same_origin (sym began ∙ from))
      (subst P (sym state_after) so))

  -- what holds of the state before the event is so as the pass has seen it
  pub made_as : (after : Sees) (P : State → Type 0) → after ≡ left session.events stay → P (present before) → MadeAs after event P
  made_as after P is so =
      subst (λ (a : Sees). MadeAs a event P) (sym (is ∙ ap (left session.events) stays))
      (λ origin from earlier last.
      let same : before.events ≡ earlier = append_cancel_right before.events earlier (event ∷ []) (sym (ap (λ (s : Session). s.events) more) ∙ last) in
      let start : beginning_of before ≡ origin = same_origin (sym found.origin ∙ from) in
      subst (λ (o : Beginning). P (replay (first_state o) earlier)) start
      (subst (λ (es : List Event). P (replay (first_state (beginning_of before)) es)) same so))

  -- the seat is still that of a checker
  pub checker_after : (after : Sees) → after ≡ left session.events stay → 0 < sees.seat → 0 < after.seat
  checker_after after is other = subst (λ k. 0 < k) (sym (ap (λ (a : Sees). a.seat) (is ∙ ap (left session.events) stays))) other

  pub works_after : (after : Sees) (work : Option Work) → after ≡ left session.events stay → Works (after_event (present before) event) sees.seat work
      → WorksAsSeen after work
  works_after after work is works = subst (λ k. SeesState after (λ state. Works state k work))
      (sym (ap (λ (a : Sees). a.seat) (is ∙ ap (left session.events) stays)))
      (sees_after after (λ state. Works state sees.seat work) is works)

-- ---- no event

module _ (sees stay after : Sees) (session : Session) (found : Found sees session)
    (stays : stay ≡ record sees { seen = session.events }) (is : after ≡ record stay { turns = stay.turns + 1 }) where
  unchanged : after ≡ record sees { seen = session.events; turns = sees.turns + 1 }
  unchanged = is ∙ ap (λ (s : Sees). record s { turns = s.turns + 1 }) stays

  pub turned_still : Turns sees after × AddsNone sees after
  turned_still = turned_none sees after session found unchanged

  pub sees_still : (P : State → Type 0) → P (present session) → SeesState after P
  sees_still P so =
      subst (λ (a : Sees). SeesState a P) (sym unchanged)
      (λ origin from. subst (λ (o : Beginning). P (replay (first_state o) session.events)) (same_origin (sym found.origin ∙ from)) so)

  pub checker_still : 0 < sees.seat → 0 < after.seat
  checker_still other = subst (λ k. 0 < k) (sym (ap (λ (a : Sees). a.seat) unchanged)) other

  pub works_still : (work : Option Work) → WorksAsSeen sees work → WorksAsSeen after work
  works_still work works = subst (λ k. SeesState after (λ state. Works state k work)) (sym (ap (λ (a : Sees). a.seat) unchanged))
      (sees_still (λ state. Works state sees.seat work) (found_works sees session found work works))

-- ---- the editor

pub ranges_editor : (request : Request) → IsOfEditor request → ranges_of request ≤ MAX_FINDINGS
ranges_editor (Cmd command) is = omega arith
ranges_editor Close is = omega arith
ranges_editor (Outcome call ok) is = omega arith
ranges_editor Take is = absurd is
ranges_editor (Deliver job findings) is = absurd is
ranges_editor (GiveBack job) is = absurd is

finds_editor : (state : State) (seat : ℕ) (request : Request) → IsOfEditor request → Finds state seat request
finds_editor state seat (Cmd command) is = tt
finds_editor state seat Close is = tt
finds_editor state seat (Outcome call ok) is = tt
finds_editor state seat Take is = absurd is
finds_editor state seat (Deliver job findings) is = absurd is
finds_editor state seat (GiveBack job) is = absurd is

pub answered_by : (state after : State) (seat : ℕ) (request : Request) (step : Step) → IsAllowed seat request → Reacts state seat request step after
    → IsAnswered state (record { seat = seat; request = request; reply = step.reply })
answered_by state after seat request step allowed reacts = record { allowed = allowed; reply = reacts.reply; cut = reacts.cut }

pub legal_editor : (state after : State) (request : Request) (step : Step) → IsOfEditor request → IsAllowed 0 request → Reacts state 0 request step after
    → IsLegal state (record { seat = 0; request = request; reply = step.reply })
legal_editor state after request step is allowed reacts =
    record { answered = answered_by state after 0 request step allowed reacts; finds = finds_editor state 0 request is }

-- a session stays open until the editor closes it
abbrev NoClose : Event → Type 0
NoClose event = event.request ≢ Close

still_open : (state : State) (events : List Event) → Legal state events → state.closed ≡ false
    → All (λ event. event.seat ≡ 0 → NoClose event) events → (replay state events).closed ≡ false
still_open state [] legal open_now none = open_now
still_open state (event ∷ events) legal open_now none =
    let P : Event → Type 0 = λ event. event.seat ≡ 0 → NoClose event in
    still_open (after_event state event) events legal.1 (by_closed (after_event state event).closed refl) (All-tail P event events none) where
      by_closed : (b : Bool) → (after_event state event).closed ≡ b → (after_event state event).closed ≡ false
      by_closed false is = is
      by_closed true is =
          let asked = only_close state event open_now is in
          let P : Event → Type 0 = λ event. event.seat ≡ 0 → NoClose event in
          absurd (All-head P event events none (subst (IsAllowed event.seat) asked legal.0.answered.allowed) asked)

-- what holds of a seat's own events holds of those among all
of_seat : (P : Event → Type 0) (seat : ℕ) (events : List Event) → All P (events_of seat_of seat events) → All (λ event. event.seat ≡ seat → P event) events
of_seat P seat [] own = All-nil (λ (event : Event). event.seat ≡ seat → P event)
of_seat P seat (event ∷ events) own = dite (ℕ_discrete event.seat seat)
    (λ is. let here : All P (event ∷ events_of seat_of seat events) =
    subst (λ b. All P (cond b (event ∷ events_of seat_of seat events) (events_of seat_of seat events))) (eq-eqb event.seat seat is) own in
    All-cons (λ (e : Event). e.seat ≡ seat → P e) event events (λ mine. All-head P event (events_of seat_of seat events) here)
    (of_seat P seat events (All-tail P event (events_of seat_of seat events) here)))
    (λ apart. All-cons (λ (e : Event). e.seat ≡ seat → P e) event events (λ mine. absurd (apart mine))
    (of_seat P seat events
    (subst (λ b. All P (cond b (event ∷ events_of seat_of seat events) (events_of seat_of seat events))) (ne_eqb event.seat seat apart) own)))

pub found_open : (sees : Sees) (session : Session) → Found sees session → sees.seat ≡ 0 → All NoClose sees.own → (present session).closed ≡ false
found_open sees session found first none =
    still_open (first_state (beginning_of session)) session.events found.legal refl
    (of_seat NoClose 0 session.events
    (subst (All NoClose) (sym (subst (λ k. events_of seat_of k session.events ≡ events_of seat_of k sees.own) first found.mine))
    (All-filter (λ (e : Event). seat_of e == 0) NoClose sees.own none)))

-- ---- a job that is taken

-- the text at the revision at which a job is taken is the present one
pub text_took : (state : State) (event : Event) (job revision : ℕ) → IsAnswered state event → event.request ≡ Take
    → event.reply ≡ reply.Took job revision → text_then (after_event state event) revision ≡ text_of state.editing
text_took state event job revision answered asked told =
    let has = took state event job revision answered asked told in
    ap (λ (e : Editing). text_at e.loaded.text e.trail revision) has.editing
    ∙ ap (λ ps. after_all ps state.editing.loaded.text)
    (ap (λ n. take n state.editing.trail) has.present ∙ take_all (revision_of state.editing) state.editing.trail (omega arith))

-- the seat works on the job that it has taken
pub takes_work : (state : State) (event : Event) (seat job revision : ℕ) (text : List (List ℕ)) → IsAnswered state event → event.seat ≡ seat
    → event.request ≡ Take → event.reply ≡ reply.Took job revision → IsFree state seat → text ≡ text_of state.editing → IsText text
    → Works (after_event state event) seat (Some (record { job = job; revision = revision }))
takes_work state event seat job revision text answered mine asked told free is is_text = record {
  works = subst (λ k. WorksOn (after_event state event) k job revision) mine
      (works_on state event job revision answered asked told (subst (IsFree state) (sym mine) free));
  text = subst (λ (t : List (List ℕ)). IsText t) (is ∙ sym (text_took state event job revision answered asked told)) is_text;
}

-- where a job waits, not none does
pub one_waits : (state : State) (job : ℕ) → least_waiting state.jobs ≡ Some job → NoneWaits state → ⊥
one_waits state job least none =
    let stand = stands state.jobs job Waiting (waiting_state state.jobs job least) in
    let found : Job = stand.0 in
    let at = get_or_from_slice_get state.jobs (job - 1) found found stand.2 in
    true≢false (sym (ap (λ (j : Job). is_waiting j.state) at ∙ ap is_waiting stand.3) ∙ none (job - 1) found (slice_get_within state.jobs (job - 1) found stand.2))

-- ---- the job of a pass

abbrev pub IsFoundFor : Sees → Option Work → List Ends → Type 0
IsFoundFor sees had findings =
    (work : Work) (rule : Rule) → had ≡ Some work → SeesState sees (λ state.
    rule_of state.jobs work.job ≡ Some rule → AreFindings rule (text_then state work.revision) findings)

-- a rule that is there has its word
pub word_of : (o : Option (Bor Rule)) (rule : Rule) → option_copied o ≡ Some rule → IfSome o (λ r. HasWord r.now) → HasWord rule
word_of None rule is word = absurd (none-some rule is)
word_of (Some r) rule is word = subst HasWord (same_Some r.now rule is) word

module _ (sees : Sees) (session : Session) (found : Found sees session) (had : Option Work) (has : WorksAsSeen sees had)
    (work : Work) (is : had ≡ Some work) where
  abbrev seen : State
  seen = seen_state (beginning_of session) sees

  pub working : IsWork seen sees.seat work
  working = subst (Works seen sees.seat) is (has (beginning_of session) found.origin)

  pub working_now : IsWork (present session) sees.seat work
  working_now = subst (Works (present session) sees.seat) is (found_works sees session found had has)

  abbrev pub its : (job : Job) × (job_at seen.jobs work.job ≡ Some job) × (job.state ≡ Taken sees.seat work.revision)
  its = job_of_state seen.jobs work.job (Taken sees.seat work.revision) (taken_state seen.jobs sees.seat work.job work.revision working.works.taken)

  abbrev pub its_rule : Rule
  its_rule = its.0.rule

  rule_seen : rule_of seen.jobs work.job ≡ Some its_rule
  rule_seen = ap (option_map (λ (j : Job). j.rule)) its.1

  pub rule_now : rule_of (present session).jobs work.job ≡ Some its_rule
  rule_now = subst (λ (state : State). rule_of state.jobs work.job ≡ Some its_rule) (found_state sees session found)
      (rule_stays-replay seen (between sees session found) work.job its_rule rule_seen)

  module _ (findings : List Ends) (told : IsFoundFor sees had findings) where
    pub its_findings : AreFindings its_rule (text_then seen work.revision) findings
    its_findings = told work its_rule is (beginning_of session) found.origin rule_seen

    pub finds_now : Finds (present session) sees.seat (Deliver work.job findings)
    finds_now = subst (λ (state : State). Finds state sees.seat (Deliver work.job findings)) (found_state sees session found)
        (finds-replay seen (between sees session found) sees.seat work.job work.revision its_rule findings rule_seen working.works.taken
        working.works.within (others sees session found) its_findings)

    pub findings_in_reach : (o : Option (Bor Rule)) → option_copied o ≡ rule_of (present session).jobs work.job → IfSome o (λ r. HasWord r.now)
        → All SpanIsInReach findings
    findings_in_reach o copied word =
        all_in_reach its_rule (text_then seen work.revision) findings (word_of o its_rule (copied ∙ rule_now) word) working.text its_findings

  -- .. by the number of its seat
  module _ (seat : ℕ) (mine : seat ≡ sees.seat) where
    works_by : WorksOn (present session) seat work.job work.revision
    works_by = subst (λ k. WorksOn (present session) k work.job work.revision) (sym mine) working_now.works

    -- giving the job back may come, and is not refused; the seat has none then
    pub legal_return : (after : State) (step : Step) → Reacts (present session) seat (GiveBack work.job) step after
        → IsLegal (present session) (record { seat = seat; request = GiveBack work.job; reply = step.reply })
    legal_return after step reacts = record { answered = answered_by (present session) after seat (GiveBack work.job) step tt reacts; finds = tt }

    pub return_told : (after : State) (step : Step) → Reacts (present session) seat (GiveBack work.job) step after
        → step.reply ≡ reply.Returned work.job
    return_told after step reacts =
        returned (present session) (record { seat = seat; request = GiveBack work.job; reply = step.reply }) work.job work.revision
        (legal_return after step reacts).answered refl works_by.taken

    pub free_returned : (after : State) (step : Step) → Reacts (present session) seat (GiveBack work.job) step after
        → IsFree (after_event (present session) (record { seat = seat; request = GiveBack work.job; reply = step.reply })) sees.seat
    free_returned after step reacts =
        subst (IsFree (after_event (present session) (record { seat = seat; request = GiveBack work.job; reply = step.reply }))) mine
        (returned_free (present session) (record { seat = seat; request = GiveBack work.job; reply = step.reply }) work.job work.revision
        (legal_return after step reacts).answered refl works_by)

    -- where the seat had the job, its return is kept
    pub taken_by : taken_at (present session).jobs seat work.job ≡ Some work.revision
    taken_by = works_by.taken

    -- so may the delivery
    module _ (findings : List Ends) (told : IsFoundFor sees had findings) (reach : All SpanIsInReach findings)
        (after : State) (step : Step) (reacts : Reacts (present session) seat (Deliver work.job findings) step after) where
      abbrev delivery : Event
      delivery = record { seat = seat; request = Deliver work.job findings; reply = step.reply }

      pub legal_delivery : IsLegal (present session) delivery
      legal_delivery = record {
        answered = answered_by (present session) after seat (Deliver work.job findings) step reach reacts;
        finds = subst (λ k. Finds (present session) k (Deliver work.job findings)) (sym mine) (finds_now findings told);
      }

      pub delivery_told : step.reply ≡ reply.Delivered work.job (present session).next_id (length findings)
      delivery_told = delivered (present session) delivery work.job work.revision findings legal_delivery.answered refl works_by.taken

      pub free_delivered : IsFree (after_event (present session) delivery) sees.seat
      free_delivered = subst (IsFree (after_event (present session) delivery)) mine
          (delivered_free (present session) delivery work.job work.revision findings legal_delivery.answered refl works_by)
