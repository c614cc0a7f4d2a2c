-- Lists of events: what they leave of the trail, and what holds of each of them.
use Rattle.std.proofs.Common.{◌≡◌, ◌≢◌, ℕ, ◌+◌, ◌≤◌, All, List, [], ◌∷◌, ◌++◌, length, length-append, take, Some, refl, ap, sym, subst, ◌∙◌, arith, append-nil, append_assoc}
use Rattle.std.specs.List.{sum_by}
use Rattle.std.proofs.lemmas.List.{take-append-le}
use Rattle.std.proofs.lemmas.List.Sums.{sum_by-cons}
use Rattle.std.proofs.lemmas.Option.{same_Some}
use Rattle.kte_text.specs.Primitives.{after_all}
use Rattle.kte_text.specs.declared.loading.Loaded.{Loaded}
use Rattle.kte_text.specs.declared.primitive.Primitive.{Primitive}
use Rattle.kte_place.specs.Ends.{Ends}
use Rattle.kte_doc.specs.Trail.{text_at}
use Rattle.kte_find.specs.declared.rule.Rule.{Rule}
use Rattle.kte_find.specs.Findings.{AreFindings}
use Rattle.kte_jobs.specs.Jobs.{rule_of}
use Rattle.kte_core.specs.Editing.{Editing, revision_of}
use Rattle.kte_core.specs.State.{State}
use Rattle.kte_core.specs.Jobs.{taken_at}
use Rattle.kte_core.specs.Requests.{ranges_of}
use Rattle.kte_core.specs.Replay.{came_of, after_event, replay, FindsAt, Finds, EachIn, IsAnswered, Answered, IsLegal, Legal}
use Rattle.kte_core.specs.JobsInWords.{Follows}
use Rattle.kte_core.specs.declared.event.Event.{Event}
use Rattle.kte_core.specs.declared.request.Request.TheVariants.{Deliver}
use Rattle.kte_core.proofs.CaseLemmas.{event_grows}
use Rattle.kte_core.proofs.AllJobLemmas.{rule_stays-replay}
use Rattle.kte_core.proofs.SeatLemmas.{taken_stays-replay}

-- ---- the trail

follows_itself : (editing : Editing) → Follows editing editing
follows_itself editing = record { more = []; trail = sym (append-nil editing.trail); loaded = refl; limit = refl }

pub follows_then : (first second third : Editing) → Follows first second → Follows second third → Follows first third
follows_then first second third one two = record {
  more = one.more ++ two.more;
  trail = two.trail ∙ (ap (λ (t : List Primitive). t ++ two.more) one.trail ∙ append_assoc first.trail one.more two.more);
  loaded = two.loaded ∙ one.loaded;
  limit = two.limit ∙ one.limit;
}

-- what is edited comes further by an event
pub follows-event : (state : State) (event : Event) → Follows state.editing (after_event state event).editing
follows-event state event =
    let grown = event_grows state event in
    record { more = (came_of state event).made; trail = grown.trail; loaded = grown.loaded; limit = grown.limit }

-- .. and by events
pub follows-replay : (state : State) (events : List Event) → Follows state.editing (replay state events).editing
follows-replay state [] = follows_itself state.editing
follows-replay state (event ∷ events) =
    follows_then state.editing (after_event state event).editing (replay (after_event state event) events).editing
    (follows-event state event) (follows-replay (after_event state event) events)

-- the revision never falls
pub revision_follows : (before after : Editing) → Follows before after → revision_of before ≤ revision_of after
revision_follows before after follows = omega (arith, simp length-append at (ap length follows.trail))

-- the text at an earlier revision stays
pub text_stays : (before after : Editing) (revision : ℕ) → Follows before after → revision ≤ revision_of before
    → text_at after.loaded.text after.trail revision ≡ text_at before.loaded.text before.trail revision
text_stays before after revision follows within =
    ap (λ (l : Loaded). text_at l.text after.trail revision) follows.loaded
    ∙ ap (λ ps. after_all ps before.loaded.text)
    (ap (take revision) follows.trail ∙ take-append-le revision before.trail follows.more within)

-- .. and so do the findings of a rule in it
pub finds_stay : (before after : Editing) (rule : Rule) (revision : ℕ) (findings : List Ends) → Follows before after
    → revision ≤ revision_of before → FindsAt before rule revision findings → FindsAt after rule revision findings
finds_stay before after rule revision findings follows within finds =
    subst (λ text. AreFindings rule text findings) (sym (text_stays before after revision follows within)) finds

pub finds_stayed : (before after : Editing) (rule : Rule) (revision : ℕ) (findings : List Ends) → Follows before after
    → revision ≤ revision_of before → FindsAt after rule revision findings → FindsAt before rule revision findings
finds_stayed before after rule revision findings follows within finds =
    subst (λ text. AreFindings rule text findings) (text_stays before after revision follows within) finds

-- What a job's rule finds in the text at the revision at which a seat has taken it may be delivered
-- after any events of other seats
pub finds-replay : (state : State) (events : List Event) (seat job revision : ℕ) (rule : Rule) (findings : List Ends)
    → rule_of state.jobs job ≡ Some rule → taken_at state.jobs seat job ≡ Some revision → revision ≤ revision_of state.editing
    → All (λ event. event.seat ≢ seat) events → FindsAt state.editing rule revision findings
    → Finds (replay state events) seat (Deliver job findings)
finds-replay state events seat job revision rule findings has taken within others finds a_rule a_revision its_rule its_revision =
    let same_rule : rule ≡ a_rule = same_Some rule a_rule (sym (rule_stays-replay state events job rule has) ∙ its_rule) in
    let same_revision : revision ≡ a_revision =
    same_Some revision a_revision (sym (taken_stays-replay state events seat job revision taken others) ∙ its_revision) in
    let now = finds_stay state.editing (replay state events).editing rule revision findings (follows-replay state events) within finds in
    subst (λ r. FindsAt (replay state events).editing a_rule r findings) same_revision
    (subst (λ r. FindsAt (replay state events).editing r revision findings) same_rule now)

-- the depth, and the number that the next range gets, rise by no more than the events may raise them
pub depth_rises-replay : (state : State) (events : List Event)
    → (replay state events).editing.edits.depth ≤ state.editing.edits.depth + length events
depth_rises-replay state [] = omega arith
depth_rises-replay state (event ∷ events) =
    let one = (event_grows state event).depth in
    omega (arith, one, depth_rises-replay (after_event state event) events)

pub next_id_rises-replay : (state : State) (events : List Event)
    → (replay state events).next_id ≤ state.next_id + sum_by (λ event. ranges_of event.request) events
next_id_rises-replay state [] = omega arith
next_id_rises-replay state (event ∷ events) =
    let one = (event_grows state event).next_id in
    omega (arith, one, next_id_rises-replay (after_event state event) events, sum_by-cons (λ (e : Event). ranges_of e.request) event events)

-- ---- a list of events after another

pub replay-append : (state : State) (events more : List Event) → replay state (events ++ more) ≡ replay (replay state events) more
replay-append state [] more = refl
replay-append state (event ∷ events) more = replay-append (after_event state event) events more

-- what holds of each of some events, and then of each of others, holds of each of all; and the
-- other way round
pub EachIn-append : (P : State → Event → Type 0) (state : State) (events more : List Event) → EachIn P state events
    → EachIn P (replay state events) more → EachIn P state (events ++ more)
EachIn-append P state [] more each later = later
EachIn-append P state (event ∷ events) more each later = (each.0, EachIn-append P (after_event state event) events more each.1 later)

pub EachIn-front : (P : State → Event → Type 0) (state : State) (events more : List Event) → EachIn P state (events ++ more)
    → EachIn P state events
EachIn-front P state [] more each = tt
EachIn-front P state (event ∷ events) more each = (each.0, EachIn-front P (after_event state event) events more each.1)

pub EachIn-back : (P : State → Event → Type 0) (state : State) (events more : List Event) → EachIn P state (events ++ more)
    → EachIn P (replay state events) more
EachIn-back P state [] more each = each
EachIn-back P state (event ∷ events) more each = EachIn-back P (after_event state event) events more each.1

-- .. one event more
pub EachIn-one_more : (P : State → Event → Type 0) (state : State) (events : List Event) (event : Event) → EachIn P state events
    → P (replay state events) event → EachIn P state (events ++ event ∷ [])
EachIn-one_more P state events event each last = EachIn-append P state events (event ∷ []) each (last, tt)

pub EachIn-last : (P : State → Event → Type 0) (state : State) (events : List Event) (event : Event)
    → EachIn P state (events ++ event ∷ []) → P (replay state events) event
EachIn-last P state events event each = (EachIn-back P state events (event ∷ []) each).0

-- legal events and others, for callers
pub Legal-append : (state : State) (events more : List Event) → Legal state events → Legal (replay state events) more
    → Legal state (events ++ more)
Legal-append = EachIn-append IsLegal

pub Legal-one_more : (state : State) (events : List Event) (event : Event) → Legal state events → IsLegal (replay state events) event
    → Legal state (events ++ event ∷ [])
Legal-one_more = EachIn-one_more IsLegal

-- what follows for one event follows for each
pub EachIn-map : (P Q : State → Event → Type 0) → ((state : State) (event : Event) → P state event → Q state event)
    → (state : State) (events : List Event) → EachIn P state events → EachIn Q state events
EachIn-map P Q follows state [] each = tt
EachIn-map P Q follows state (event ∷ events) each =
    (follows state event each.0, EachIn-map P Q follows (after_event state event) events each.1)

-- legal events are answered
pub Legal-answered : (state : State) (events : List Event) → Legal state events → Answered state events
Legal-answered = EachIn-map IsLegal IsAnswered (λ state event legal. legal.answered)
