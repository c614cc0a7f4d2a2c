-- What the calls of a desk do. This project's own rules.
use Rattle.std.specs.Prelude.{◌≡◌, ℕ, ◌+◌, ◌^◌, ◌≤◌, List, [], ◌∷◌, ◌++◌, length, slice_get, Some, None}
use Rattle.std.specs.List.{flat_map}
use mathlib.Core.List.{IsPrefix}
use Rattle.kte_text.specs.Texts.{IsText}
use Rattle.kte_text.specs.Primitives.{FitInTurn}
use Rattle.kte_text.specs.declared.primitive.Primitive.{Primitive}
use Rattle.kte_place.specs.Ends.{Ends}
use Rattle.kte_find.specs.Findings.{AreFindings}
use Rattle.kte_find.specs.Rule.{HasWord}
use Rattle.kte_find.specs.declared.rule.Rule.{Rule}
use Rattle.kte_jobs.specs.Jobs.{rule_of}
use Rattle.kte_turn.specs.Known.{events_of, news}
use Rattle.kte_core.specs.Editing.{text_of}
use Rattle.kte_core.specs.JobsInWords.{NoneWaits}
use Rattle.kte_core.specs.State.{State}
use Rattle.kte_core.specs.Replay.{Session, IsAnswered, Legal, after_event, came_of, present, replay}
use Rattle.kte_core.specs.declared.event.Event.{Event}
use Rattle.kte_core.specs.declared.reply.Reply.{Reply}
use Rattle.kte_core.specs.declared.reply.Reply.TheVariants as reply
use Rattle.kte_core.specs.declared.request.Request.{Request}
use Rattle.kte_core.specs.declared.request.Request.TheVariants.{Cmd, Close, Take, Deliver, GiveBack, Outcome}
use Rattle.kte_desk.specs.Seen.{Sees, FromOrigin, SeesState, first_state, seat_of}
use Rattle.kte_desk.specs.Works.{text_then}
use Rattle.kte_desk.specs.Passes.{checker_known, own_of, work_of}
use Rattle.kte_desk.specs.declared.beginning.Beginning.{Beginning}
use Rattle.kte_desk.specs.declared.pass.CheckerPass.{CheckerPass}
use Rattle.kte_desk.specs.declared.pass.Taking.{Taking}
use Rattle.kte_desk.specs.declared.pass.Taking.TheVariants as taking
use Rattle.kte_desk.specs.declared.work.Work.{Work}

-- One turn: what the pass had seen begins what it has seen now, which is a legal journal and has
-- those events of its seat that are its own
pub record Turns (before after : Sees) : Type 0 where
  pub same : after
      ≡ record before { seen = after.seen; own = after.own; turns = before.turns + 1 }
  pub seen : IsPrefix before.seen after.seen
  pub legal : FromOrigin after (λ origin. Legal (first_state origin) after.seen)
  pub mine : events_of seat_of after.seat after.seen ≡ events_of seat_of after.seat after.own

-- the events of its own seat that are new to a pass
abbrev pub own_news : Sees → Sees → List Event
own_news before after = events_of seat_of before.seat (news before.seen after.seen)

-- the turn made this event: it is the last of all, and the only new one of the pass's seat
pub record Adds (before after : Sees) (event : Event) : Type 0 where
  pub seat : event.seat ≡ before.seat
  pub earlier : List Event
  pub last : after.seen ≡ earlier ++ event ∷ []
  pub seen : IsPrefix before.seen earlier
  pub only : own_news before after ≡ event ∷ []
  pub own : after.own ≡ before.own ++ event ∷ []

-- the turn made no event
pub record AddsNone (before after : Sees) : Type 0 where
  pub none : own_news before after ≡ []
  pub own : after.own ≡ before.own

-- What was made in a state for an event: these primitives, which fit behind those that were made
-- before, and lead from a text to a text
pub record MadeIn (state : State) (event : Event) (made : List Primitive) : Type 0 where
  pub same : made ≡ (came_of state event).made
  pub from : IsText (text_of state.editing)
  pub fit : FitInTurn (after_event state event).editing.trail state.editing.loaded.text
  pub to : IsText (text_of (after_event state event).editing)

-- this holds of the state that the event was made in, which is the last one that the pass has seen
abbrev pub MadeAs : Sees → Event → (State → Type 0) → Type 0
MadeAs after event P =
    FromOrigin after (λ origin. (earlier : List Event) → after.seen ≡ earlier ++ event ∷ []
    → P (replay (first_state origin) earlier))

-- these primitives were made for the event
abbrev pub AreMade : Sees → Event → List Primitive → Type 0
AreMade after event made = MadeAs after event (λ state. MadeIn state event made)

-- the editor makes commands, closes the session, and tells what came of a call outside
abbrev pub IsOfEditor : Request → Type 0
IsOfEditor (Cmd command) = Unit {0}
IsOfEditor Close = Unit {0}
IsOfEditor (Outcome call ok) = Unit {0}
IsOfEditor _ = ⊥

-- the event of a checker's request
abbrev pub event_of : CheckerPass → Request → Reply → Event
event_of pass request answer = record {
  seat = (checker_known pass).seat;
  request = request;
  reply = answer;
}

-- The checker gets a job: the pass has it now, with its rule, which has its word, and the text at
-- the revision at which it was taken. Or no job waits, and the pass has made no event
abbrev pub Takes : CheckerPass → CheckerPass → Taking → Type 0
Takes before after (taking.Took job rule revision text) =
    (work_of after ≡ Some (record { job = job; revision = revision })) × HasWord rule
    × Adds (checker_known before) (checker_known after)
    (event_of before Take (reply.Took job revision))
    × SeesState (checker_known after) (λ state.
    (rule_of state.jobs job ≡ Some rule) × (text ≡ text_then state revision))
Takes before after (taking.NoJob closed) =
    (work_of after ≡ None) × AddsNone (checker_known before) (checker_known after)
    × SeesState (checker_known after) (λ state. NoneWaits state × (closed ≡ state.closed))

-- these are what the rule of the pass's job finds in its text
abbrev pub AreFound : CheckerPass → List Ends → Type 0
AreFound pass findings =
    (work : Work) (rule : Rule) → work_of pass ≡ Some work
    → SeesState (checker_known pass) (λ state. rule_of state.jobs work.job ≡ Some rule
    → AreFindings rule (text_then state work.revision) findings)

-- the pass has delivered the job that it had, which was not refused
pub record Delivers (before after : CheckerPass) (findings : List Ends) (answer : Reply) : Type 0 where
  pub work : Work
  pub had : work_of before ≡ Some work
  pub first : ℕ
  pub reply : answer ≡ reply.Delivered work.job first (length findings)
  pub event : Adds (checker_known before) (checker_known after)
      (event_of before (Deliver work.job findings) answer)
  pub none : work_of after ≡ None

-- the pass has given back the job that it had
pub record Returns (before after : CheckerPass) : Type 0 where
  pub work : Work
  pub had : work_of before ≡ Some work
  pub event : Adds (checker_known before) (checker_known after)
      (event_of before (GiveBack work.job) (reply.Returned work.job))
  pub none : work_of after ≡ None

-- the turn made no event, and the pass has the job that it had, if any
pub record Stays (before after : CheckerPass) : Type 0 where
  pub none : AddsNone (checker_known before) (checker_known after)
  pub work : work_of after ≡ work_of before

-- what a session began from
abbrev pub beginning_of : Session → Beginning
beginning_of session = record { loaded = session.loaded; limit = session.limit }

-- the editor's pass at first, at a desk with so many seats: it has a share of one, and has seen
-- nothing
abbrev pub fresh : ℕ → Session → Sees
fresh seats session = record {
  seats = seats;
  seat = 0;
  joined = [];
  share = 1;
  turns = 0;
  origin = Some (beginning_of session);
  seen = [];
  own = [];
}

-- the checkers' passes at first, beside the editor's: they know the same, have the seats from 1 on,
-- in order, and no job
abbrev pub AreFresh : Sees → List CheckerPass → Type 0
AreFresh editor checkers =
    (n : ℕ) (pass : CheckerPass) → slice_get checkers n ≡ Some pass
    → (checker_known pass ≡ record editor { seat = n + 1 }) × (work_of pass ≡ None)

-- the events that all passes made, the editor's first
abbrev pub own_calls : List Event → List CheckerPass → List Event
own_calls editor checkers = editor ++ flat_map own_of checkers

-- What a pass finds at the core: what it began from, all that it had seen, and no event of its own
-- seat beside its own. The journal is legal, and few of its events are the editor's
pub record Found (sees : Sees) (session : Session) : Type 0 where
  pub origin : sees.origin ≡ Some (beginning_of session)
  pub seen : IsPrefix sees.seen session.events
  pub none : events_of seat_of sees.seat (news sees.seen session.events) ≡ []
  pub mine : events_of seat_of sees.seat session.events ≡ events_of seat_of sees.seat sees.own
  pub legal : Legal (first_state (beginning_of session)) session.events
  pub few : length (events_of seat_of 0 session.events) ≤ 2 ^ 31

-- What a pass may leave at the core with one event more, where it has seen all before
pub record Leaves (sees : Sees) (session : Session) : Type 0 where
  pub origin : sees.origin ≡ Some (beginning_of session)
  pub event : Event
  pub last : session.events ≡ sees.seen ++ event ∷ []
  pub seat : event.seat ≡ sees.seat
  pub legal : Legal (first_state (beginning_of session)) session.events
  pub few : length (events_of seat_of 0 session.events) ≤ 2 ^ 31

-- the event of taking a job
abbrev pub took : ℕ → ℕ → ℕ → Event
took seat job revision =
    record { seat = seat; request = Take; reply = reply.Took job revision }

-- A seat has taken a job of this rule at this revision: the session has one event more
pub record HasTook (seat job revision : ℕ) (rule : Rule) (text : List (List ℕ))
    (before after : Session) : Type 0 where
  pub event : after ≡ record before {
    events = before.events ++ took seat job revision ∷ [];
  }
  pub answered : IsAnswered (present before) (took seat job revision)
  pub rule_is : rule_of (present before).jobs job ≡ Some rule
  pub word : HasWord rule
  pub text_is : text ≡ text_of (present before).editing
  pub is_text : IsText text
