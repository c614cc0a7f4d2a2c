-- For callers: how far one event raises the numbers of a session, so that there are numbers left for
-- the next request.
use Rattle.std.proofs.Common.{◌≡◌, ℕ, ◌+◌, ◌-◌, ◌<◌, ◌≤◌, ◌^◌, List, [], ◌∷◌, ◌++◌, length, sym, subst, arith}
use Rattle.std.specs.List.{sum_by}
use Rattle.kte_core.specs.State.{State}
use Rattle.kte_core.specs.Requests.{ranges_of, HasNumbers}
use Rattle.kte_core.specs.Replay.{Session, beginning, present, replay, after_event}
use Rattle.kte_core.specs.declared.event.Event.{Event}
use Rattle.kte_core.specs.declared.request.Request.{Request}
use Rattle.kte_core.proofs.CaseLemmas.{event_grows}
use Rattle.kte_core.proofs.AllJobLemmas.{jobs_rise, jobs_rise-replay}
use Rattle.kte_core.proofs.JournalLemmas.{depth_rises-replay, next_id_rises-replay, replay-append}

-- The numbers of open transactions, of jobs and of the next range rise by so much at most
pub record RisesBy (events ranges : ℕ) (before after : State) : Type 0 where
  pub depth : after.editing.edits.depth ≤ before.editing.edits.depth + events
  pub jobs : length after.jobs ≤ length before.jobs + events
  pub next_id : after.next_id ≤ before.next_id + ranges

-- one event
pub after_event-rises : (state : State) (event : Event) → RisesBy 1 (ranges_of event.request) state (after_event state event)
after_event-rises state event =
    let grown = event_grows state event in
    record { depth = grown.depth; jobs = jobs_rise state event; next_id = grown.next_id }

pub present-push : (session : Session) (event : Event)
    → present (record session { events = session.events ++ event ∷ [] }) ≡ after_event (present session) event
present-push session event = replay-append (beginning session.loaded session.limit) session.events (event ∷ [])

pub present-rises : (session : Session) (event : Event)
    → RisesBy 1 (ranges_of event.request) (present session) (present (record session { events = session.events ++ event ∷ [] }))
present-rises session event =
    subst (λ (after : State). RisesBy 1 (ranges_of event.request) (present session) after) (sym (present-push session event))
    (after_event-rises (present session) event)

-- all events of a session
abbrev pub ranges_in : List Event → ℕ
ranges_in events = sum_by (λ event. ranges_of event.request) events

pub replay-rises : (state : State) (events : List Event) → RisesBy (length events) (ranges_in events) state (replay state events)
replay-rises state events =
    record { depth = depth_rises-replay state events; jobs = jobs_rise-replay state events; next_id = next_id_rises-replay state events }

pub next_id_within : (session : Session) → (present session).next_id ≤ 1 + ranges_in session.events
next_id_within session = (replay-rises (beginning session.loaded session.limit) session.events).next_id

-- after few events there are numbers left, if there are some for ranges
pub has_numbers : (session : Session) (request : Request) → length session.events < 2 ^ 32 - 1
    → (present session).next_id + ranges_of request ≤ 2 ^ 63 → HasNumbers (present session) request
has_numbers session request few left =
    let rising = replay-rises (beginning session.loaded session.limit) session.events in
    let depth = rising.depth in
    let jobs = rising.jobs in
    record { depth = omega arith; jobs = omega arith; ranges = left }
