-- What a turn makes of what a pass knows.
use Rattle.std.proofs.Common.{◌≡◌, ◌≢◌, ℕ, ◌+◌, ◌<◌, ◌≤◌, ◌^◌, ◌==◌, List, [], ◌∷◌, ◌++◌, length, All, Option, Some, None, cond, refl, ap, sym, subst, ◌∙◌, arith, eq-eqb, ne_eqb, append_assoc, length-append}
use Rattle.std.proofs.lemmas.Option.{same_Some}
use Rattle.std.proofs.lemmas.List.Sums.{count_by-le-length, length-filter}
use Rattle.std.proofs.lemmas.List.Elements.{All-nil, All-cons}
use mathlib.Core.Logic.{dite}
use native.Mathlib.Decide.{ℕ_discrete}
use mathlib.Core.List.{IsPrefix}
use Rattle.kte_text.specs.Texts.{IsText}
use Rattle.kte_turn.specs.Known.{events_of, news, left}
use Rattle.kte_turn.proofs.StoryLemmas.{IsPrefix-append, events_of-append, events_of-other, news-append}
use Rattle.kte_core.specs.State.{State}
use Rattle.kte_core.specs.Replay.{Session, IsLegal, Legal, present, replay}
use Rattle.kte_core.specs.declared.event.Event.{Event}
use Rattle.kte_core.proofs.JournalLemmas.{Legal-one_more, follows-replay, replay-append, text_stays}
use Rattle.kte_core.proofs.SeatLemmas.{free_stays-replay}
use Rattle.kte_core.proofs.TakeLemmas.{works_on-replay}
use Rattle.kte_desk.specs.Calls.{Adds, AddsNone, Found, Leaves, Turns, beginning_of}
use Rattle.kte_desk.specs.Seen.{Sees, first_state, seat_of, seen_state}
use Rattle.kte_desk.specs.Works.{Works, WorksAsSeen}
use Rattle.kte_desk.specs.declared.beginning.Beginning.{Beginning}
use Rattle.kte_desk.specs.declared.work.Work.{Work}

-- ---- the events of one seat

abbrev Apart : ℕ → Event → Type 0
Apart seat event = event.seat ≢ seat

-- events of which none is a seat's
others_of : (seat : ℕ) (events : List Event) → events_of seat_of seat events ≡ [] → All (Apart seat) events
others_of seat [] none = All-nil (Apart seat)
others_of seat (event ∷ events) none = dite (ℕ_discrete event.seat seat)
    (λ is. let here : event ∷ events_of seat_of seat events ≡ [] =
    ap (λ b. cond b (event ∷ events_of seat_of seat events) (events_of seat_of seat events)) (sym (eq-eqb event.seat seat is)) ∙ none in
    absurd (omega (arith, ap length here)))
    (λ apart. All-cons (Apart seat) event events apart (others_of seat events
    (ap (λ b. cond b (event ∷ events_of seat_of seat events) (events_of seat_of seat events)) (sym (ne_eqb event.seat seat apart)) ∙ none)))

-- one event, of its seat
only_one : (seat : ℕ) (event : Event) → event.seat ≡ seat → events_of seat_of seat (event ∷ []) ≡ event ∷ []
only_one seat event is = ap (λ b. cond b (event ∷ []) []) (eq-eqb event.seat seat is)

-- ---- what is found

module _ (sees : Sees) (session : Session) (found : Found sees session) where
  -- the events that came between are of other seats
  abbrev pub between : List Event
  between = found.seen.0

  is_between : news sees.seen session.events ≡ between
  is_between = ap (news sees.seen) (sym found.seen.1) ∙ news-append sees.seen between

  pub others : All (Apart sees.seat) between
  others = others_of sees.seat between (ap (events_of seat_of sees.seat) (sym is_between) ∙ found.none)

  -- what the pass had seen led to a state from which these led to the present one
  pub found_state : replay (seen_state (beginning_of session) sees) between ≡ present session
  found_state =
      sym (replay-append (first_state (beginning_of session)) sees.seen between)
      ∙ ap (replay (first_state (beginning_of session))) found.seen.1

  -- the job that the pass had stays its own
  pub found_works : (work : Option Work) → WorksAsSeen sees work → Works (present session) sees.seat work
  found_works work works =
      subst (λ (state : State). Works state sees.seat work) found_state
      (works_later (seen_state (beginning_of session) sees) sees.seat between work others (works (beginning_of session) found.origin)) where
        works_later : (state : State) (seat : ℕ) (events : List Event) (had : Option Work) → All (Apart seat) events
            → Works state seat had → Works (replay state events) seat had
        works_later state seat events None apart free = free_stays-replay state events seat free (λ k d within mine. absurd (apart k d within mine))
        works_later state seat events (Some had) apart is = record {
          works = works_on-replay state events seat had.job had.revision is.works apart;
          text = subst (λ (text : List (List ℕ)). IsText text)
              (sym (text_stays state.editing (replay state events).editing had.revision (follows-replay state events) is.works.within)) is.text;
        }

-- ---- what is left

pub same_origin : {a b : Beginning} → Some a ≡ Some b → a ≡ b
same_origin {a} {b} e = same_Some a b e

-- the turn made no event
pub turned_none : (sees after : Sees) (session : Session) → Found sees session
    → after ≡ record sees { seen = session.events; turns = sees.turns + 1 } → Turns sees after × AddsNone sees after
turned_none sees after session found is = subst (λ (a : Sees). Turns sees a × AddsNone sees a) (sym is) (
  record {
    same = refl;
    seen = found.seen;
    legal = λ origin from. subst (λ (o : Beginning). Legal (first_state o) session.events)
        (same_origin (sym found.origin ∙ from)) found.legal;
    mine = found.mine;
  },
  record { none = found.none; own = refl },
)

-- the turn made one event
pub turned_one : (sees after : Sees) (before session : Session) (event : Event) → Found sees before
    → session ≡ record before { events = before.events ++ event ∷ [] } → event.seat ≡ sees.seat
    → Legal (first_state (beginning_of session)) session.events
    → after ≡ left session.events (record sees { seen = before.events }) → Turns sees after × Adds sees after event
turned_one sees after before session event found more mine legal is = subst (λ (a : Sees). Turns sees a × Adds sees a event) (sym is) (
  record {
    same = refl;
    seen = subst (IsPrefix sees.seen) (sym grown) (IsPrefix-append sees.seen before.events (event ∷ []) found.seen);
    legal = λ origin from. subst (λ (o : Beginning). Legal (first_state o) session.events)
        (same_origin (began ∙ sym found.origin ∙ from)) legal;
    mine =
        ap (events_of seat_of sees.seat) grown
        ∙ (events_of-append seat_of sees.seat before.events (event ∷ [])
        ∙ (ap (λ es. es ++ events_of seat_of sees.seat (event ∷ [])) found.mine
        ∙ (sym (events_of-append seat_of sees.seat sees.own (event ∷ []))
        ∙ ap (λ es. events_of seat_of sees.seat (sees.own ++ es)) (sym added))));
  },
  record {
    seat = mine;
    earlier = before.events;
    last = grown;
    seen = found.seen;
    only =
        ap (λ es. events_of seat_of sees.seat (news sees.seen es)) (grown ∙ (ap (λ es. es ++ event ∷ []) (sym found.seen.1) ∙ append_assoc sees.seen found.seen.0 (event ∷ [])))
        ∙ (ap (events_of seat_of sees.seat) (news-append sees.seen (found.seen.0 ++ event ∷ []))
        ∙ (events_of-append seat_of sees.seat found.seen.0 (event ∷ [])
        ∙ (ap (λ es. es ++ events_of seat_of sees.seat (event ∷ [])) (ap (events_of seat_of sees.seat) (sym (is_between sees before found)) ∙ found.none)
        ∙ only_one sees.seat event mine)));
    own = ap (λ es. sees.own ++ es) added;
  },
) where
  grown : session.events ≡ before.events ++ event ∷ []
  grown = ap (λ (s : Session). s.events) more

  began : Some (beginning_of session) ≡ Some (beginning_of before)
  began = ap (λ (s : Session). Some (beginning_of s)) more

  added : news before.events session.events ≡ event ∷ []
  added = ap (news before.events) grown ∙ news-append before.events (event ∷ [])

-- .. which is legal where it may come
pub legal_after : (before session : Session) (event : Event) → session ≡ record before { events = before.events ++ event ∷ [] }
    → Legal (first_state (beginning_of before)) before.events → IsLegal (present before) event
    → Legal (first_state (beginning_of session)) session.events
legal_after before session event more legal last =
    subst (λ (s : Session). Legal (first_state (beginning_of s)) s.events) (sym more)
    (Legal-one_more (first_state (beginning_of before)) before.events event legal last)

-- .. that may be left at the core
pub leaves_one : (sees : Sees) (before session : Session) (event : Event) → Found sees before
    → session ≡ record before { events = before.events ++ event ∷ [] } → event.seat ≡ sees.seat
    → IsLegal (present before) event → length (events_of seat_of 0 session.events) ≤ 2 ^ 31
    → Leaves (record sees { seen = before.events }) session
leaves_one sees before session event found more mine legal few = record {
  origin = found.origin ∙ sym (ap (λ (s : Session). Some (beginning_of s)) more);
  event = event;
  last = ap (λ (s : Session). s.events) more;
  seat = mine;
  legal = legal_after before session event more found.legal legal;
  few = few;
}

-- an event of another seat is none of the editor's
pub few_other : (before session : Session) (event : Event) → session ≡ record before { events = before.events ++ event ∷ [] }
    → event.seat ≢ 0 → length (events_of seat_of 0 before.events) ≤ 2 ^ 31 → length (events_of seat_of 0 session.events) ≤ 2 ^ 31
few_other before session event more other few =
    omega (arith, few, ap (λ (s : Session). length (events_of seat_of 0 s.events)) more, ap length (events_of-other seat_of 0 before.events event other))

few_in : (events : List Event) → length (events_of seat_of 0 events) ≤ length events
few_in events = omega (arith, length-filter (λ (e : Event). seat_of e == 0) events, count_by-le-length (λ (e : Event). seat_of e == 0) events)

-- .. and the editor may make one more where it has made fewer
pub few_own : (sees : Sees) (before session : Session) (event : Event) → Found sees before
    → session ≡ record before { events = before.events ++ event ∷ [] } → sees.seat ≡ 0 → length sees.own < 2 ^ 31
    → length (events_of seat_of 0 session.events) ≤ 2 ^ 31
few_own sees before session event found more first few =
    omega (
      arith,
      few,
      ap (λ (s : Session). length (events_of seat_of 0 s.events)) more,
      ap length (events_of-append seat_of 0 before.events (event ∷ [])),
      length-append (events_of seat_of 0 before.events) (events_of seat_of 0 (event ∷ [])),
      few_in (event ∷ []),
      few_in sees.own,
      ap length (subst (λ k. events_of seat_of k before.events ≡ events_of seat_of k sees.own) first found.mine),
    )
