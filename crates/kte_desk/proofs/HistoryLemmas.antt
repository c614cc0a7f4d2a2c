-- Events that the editor alone adds, one after another.
use Rattle.std.proofs.Common.{◌≡◌, ◌∙◌, Bool, true, false, List, [], ◌∷◌, ◌++◌, inl, if◌then◌else◌, nat_eq, refl, ap, sym, subst, append_assoc, append-nil, Option, Some, None}
use Rattle.std.proofs.lemmas.List.Elements.{filter_map-append, All-append, All-nil}
use Rattle.kte_text.specs.declared.primitive.Primitive.{Primitive}
use Rattle.kte_core.specs.State.{State}
use Rattle.kte_core.specs.Replay.{Session, beginning, present, replay, after_event, came_of, IsLegal}
use Rattle.kte_core.specs.declared.event.Event.{Event}
use Rattle.kte_core.specs.declared.request.Request.{Request}
use Rattle.kte_core.proofs.JournalLemmas.{replay-append, EachIn-append}
use Rattle.kte_desk.specs.Schedule.{Due, nothing, append, outcome, delivery, InTurn, IsDue, IsSettled, asked_in, if_asked, due_of, lost_by, WentWell, append_of, Fits}
use Rattle.kte_desk.specs.Serving.{Alone, Serves}

-- the state after some events more
pub present-more : (before after : Session) (added : List Event) → after ≡ record before { events = before.events ++ added }
    → present after ≡ replay (present before) added
present-more before after added is =
    ap present is ∙ replay-append (beginning before.loaded before.limit) before.events added

-- where nothing is left to be told or delivered, what is called for where nothing is due is called for
due-settled : (due : Due) (lost : Bool) (request : Request) → IsSettled due → IsDue nothing lost request → IsDue due lost request
due-settled nothing lost request settled is = is
due-settled append lost request settled is = inl is
due-settled (outcome call) lost request settled is = absurd settled
due-settled (delivery job) lost request settled is = absurd settled

-- .. and so after an event, by its seat
InTurn-by : (own : Bool) (state : State) (lost : Bool) (mine due : Due) (events : List Event)
    → (InTurn state lost nothing events → InTurn state lost due events)
    → InTurn state lost (if own then mine else nothing) events → InTurn state lost (if own then mine else due) events
InTurn-by true state lost mine due events later turn = turn
InTurn-by false state lost mine due events later turn = later turn

InTurn-settled : (state : State) (lost : Bool) (due : Due) (events : List Event) → IsSettled due → InTurn state lost nothing events
    → InTurn state lost due events
InTurn-settled state lost due [] settled turn = settled
InTurn-settled state lost due (event ∷ events) settled turn = (
  λ mine. due-settled due lost event.request settled (turn.0 mine),
  InTurn-by (nat_eq event.seat 0) (after_event state event) (lost_by lost event.request)
      (due_of event.request (came_of state event).finished event.reply) due events
      (InTurn-settled (after_event state event) (lost_by lost event.request) due events settled) turn.1,
)

-- events that are in turn after others that are
InTurn-append : (state : State) (lost : Bool) (due : Due) (events more : List Event) → InTurn state lost due events
    → ((now : Bool) → InTurn (replay state events) now nothing more) → InTurn state lost due (events ++ more)
InTurn-append state lost due [] more turn later = InTurn-settled state lost due more turn (later lost)
InTurn-append state lost due (event ∷ events) more turn later = (
  turn.0,
  InTurn-append (after_event state event) (lost_by lost event.request)
      (if nat_eq event.seat 0 then due_of event.request (came_of state event).finished event.reply else due) events more turn.1 later,
)

pub Alone-none : (state : State) → Alone state []
Alone-none state = record { legal = tt; fit = tt; in_turn = λ lost. tt; went_well = All-nil (λ event. WentWell event.request) }

pub Alone-append : (state : State) (events more : List Event) → Alone state events → Alone (replay state events) more → Alone state (events ++ more)
Alone-append state events more alone later = record {
  legal = EachIn-append IsLegal state events more alone.legal later.legal;
  fit = EachIn-append (Fits 0) state events more alone.fit later.fit;
  in_turn = λ lost. InTurn-append state lost nothing events more (alone.in_turn lost) later.in_turn;
  went_well = All-append (λ event. WentWell event.request) events more alone.went_well later.went_well;
}

pub asked_in-append : (events more : List Event) → asked_in (events ++ more) ≡ asked_in events ++ asked_in more
asked_in-append events more = filter_map-append (λ (event : Event). if_asked event.request) events more

-- jobs that were served after others
pub Serves-none : (session : Session) → Serves session session
Serves-none session = record {
  added = [];
  events = sym (ap (λ (events : List Event). record session { events = events }) (append-nil session.events));
  alone = Alone-none (present session);
  ordered = refl;
}

pub Serves-then : (before between after : Session) → Serves before between → Serves between after → Serves before after
Serves-then before between after first second = record {
  added = first.added ++ second.added;
  events = second.events
      ∙ ap (λ (session : Session). record session { events = session.events ++ second.added }) first.events
      ∙ ap (λ (events : List Event). record before { events = events }) (append_assoc before.events first.added second.added);
  alone = Alone-append (present before) first.added second.added first.alone
      (subst (λ (state : State). Alone state second.added) (present-more before between first.added first.events) second.alone);
  ordered = asked_in-append first.added second.added ∙ ap (λ asked. asked ++ asked_in second.added) first.ordered ∙ second.ordered;
}

-- what a finished transaction calls for is settled
pub append-settled : (finished : Option (List Primitive)) → IsSettled (append_of finished)
append-settled None = tt
append-settled (Some transaction) = tt
