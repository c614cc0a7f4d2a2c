-- What a checker keeps from call to call, and what it knows once it is done.
use Rattle.std.proofs.Common.{◌≡◌, ℕ, ◌+◌, true, false, true≢false, All, List, [], None, refl, ap, sym, subst, ◌∙◌}
use Rattle.std.specs.Prelude.{Result, Ok, Err, IfOk, is_err}
use Rattle.std.proofs.lemmas.List.Elements.{All-nil, All-push, All-weaker}
use Rattle.kte_place.specs.Ends.{Ends}
use Rattle.kte_core.specs.declared.event.Event.{Event}
use Rattle.kte_core.specs.declared.reply.Reply.{Reply}
use Rattle.kte_core.specs.declared.reply.Reply.TheVariants as reply
use Rattle.kte_core.specs.declared.request.Request.TheVariants.{Deliver, Take}
use Rattle.kte_find.specs.declared.rule.Rule.{Rule}
use Rattle.kte_desk.specs.Calls.{Adds, AddsNone, Delivers, Takes, Turns, event_of}
use Rattle.kte_desk.specs.Passes.{checker_known, work_of}
use Rattle.kte_desk.specs.Seen.{Sees}
use Rattle.kte_desk.specs.Works.{WorksAsSeen}
use Rattle.kte_desk.specs.declared.pass.CheckerPass.{CheckerPass}
use Rattle.kte_desk.specs.declared.pass.Taking.{Taking}
use Rattle.kte_desk.specs.declared.pass.Taking.TheVariants as taking
use Rattle.kte_run.specs.Beside.{HasChecked, IsLater}
use Rattle.kte_run.specs.Checked.{IsCheckerEvent, TakesOrDelivers}
use Rattle.kte_run.proofs.OwnLemmas.{events_of-same}

-- an event of the seat: a job was taken, or delivered
abbrev pub IsCallOf : ℕ → Event → Type 0
IsCallOf seat event = (event.seat ≡ seat) × IsCheckerEvent event

-- The pass is a later one of the first, and all its own events are a checker's of its seat, if it
-- had made none at first
pub record Keeps (first sees : Sees) : Type 0 where
  pub later : IsLater first sees
  pub calls : first.own ≡ [] → All (IsCallOf first.seat) sees.own

-- one turn makes a later pass, and so do several
pub later_by_turn : (before after : Sees) → Turns before after → IsLater before after
later_by_turn before after turn =
    let same = turn.same in
    let turns : after.turns ≡ before.turns + 1 = ap (λ (s : Sees). s.turns) same in
    same ∙ ap (λ (n : ℕ). record before { seen = after.seen; own = after.own; turns = n }) (sym turns)

pub later_then : (first before after : Sees) → IsLater first before → IsLater before after → IsLater first after
later_then first before after one two =
    two ∙ ap (λ (s : Sees). record s { seen = after.seen; own = after.own; turns = after.turns }) one

seat_later : (first sees : Sees) → IsLater first sees → sees.seat ≡ first.seat
seat_later first sees later = ap (λ (s : Sees). s.seat) later

pub keeps_first : (sees : Sees) → Keeps sees sees
keeps_first sees = record {
  later = refl;
  calls = λ none. subst (All (IsCallOf sees.seat)) (sym none) (All-nil (IsCallOf sees.seat));
}

-- a turn without an event keeps this
pub keeps_none : (first before after : Sees) → Keeps first before → Turns before after → AddsNone before after → Keeps first after
keeps_none first before after keeps turn none = record {
  later = later_then first before after keeps.later (later_by_turn before after turn);
  calls = λ fresh. subst (All (IsCallOf first.seat)) (sym none.own) (keeps.calls fresh);
}

-- .. and so does one in which a job was taken, or delivered
pub keeps_event : (first before after : Sees) (event : Event) → Keeps first before → Turns before after → Adds before after event
    → IsCheckerEvent event → Keeps first after
keeps_event first before after event keeps turn adds is =
    let mine : event.seat ≡ first.seat = adds.seat ∙ seat_later first before keeps.later in
    record {
      later = later_then first before after keeps.later (later_by_turn before after turn);
      calls = λ fresh.
          subst (All (IsCallOf first.seat)) (sym adds.own)
          (All-push (IsCallOf first.seat) before.own event (keeps.calls fresh) (mine, is));
    }

pub keeps_took : (first : Sees) (before after : CheckerPass) (job revision : ℕ) (rule : Rule) (text : List (List ℕ))
    → Keeps first (checker_known before) → Turns (checker_known before) (checker_known after)
    → Takes before after (taking.Took job rule revision text) → Keeps first (checker_known after)
keeps_took first before after job revision rule text keeps turn took =
    keeps_event first (checker_known before) (checker_known after) (event_of before Take (reply.Took job revision)) keeps turn took.2 tt

pub keeps_delivered : (first : Sees) (before after : CheckerPass) (findings : List Ends) (answer : Reply)
    → Keeps first (checker_known before) → Turns (checker_known before) (checker_known after)
    → Delivers before after findings answer → Keeps first (checker_known after)
keeps_delivered first before after findings answer keeps turn made =
    keeps_event first (checker_known before) (checker_known after) (event_of before (Deliver made.work.job findings) answer) keeps turn made.event
    (subst (TakesOrDelivers (Deliver made.work.job findings)) (sym made.reply) tt)

-- Where no job waits in a closed session, a checker that kept this is done
pub done_checking : (first : Sees) (before after : CheckerPass) → Keeps first (checker_known before)
    → Turns (checker_known before) (checker_known after) → Takes before after (taking.NoJob true) → first.own ≡ []
    → HasChecked (checker_known after)
done_checking first before after keeps turn none fresh origin from =
    let sees = checker_known after in
    let kept = keeps_none first (checker_known before) sees keeps turn none.1 in
    let seat : sees.seat ≡ first.seat = seat_later first sees kept.later in
    let calls : All (IsCallOf sees.seat) sees.own = subst (λ (n : ℕ). All (IsCallOf n) sees.own) (sym seat) (kept.calls fresh) in
    let waits = none.2 origin from in
    let works : WorksAsSeen sees None = subst (WorksAsSeen sees) none.0 after.works in
    record {
      mine =
          turn.mine
          ∙ events_of-same sees.seat sees.own
          (All-weaker (IsCallOf sees.seat) (λ (event : Event). event.seat ≡ sees.seat) (λ event is. is.0) sees.own calls);
      calls = All-weaker (IsCallOf sees.seat) IsCheckerEvent (λ event is. is.1) sees.own calls;
      closed = sym waits.1;
      none_waits = waits.0;
      free = works origin from;
    }

-- ---- what a call says where it gave a result

pub of_ok : {X E : Type 0} (P : X → Type 0) (r : Result X E) (x : X) → r ≡ Ok x → IfOk r P → P x
of_ok {X} {E} P r x is h = subst (λ (o : Result X E). IfOk o P) is h

pub given : {X E : Type 0} (P : X → Type 0) (r : Result X E) → is_err r ≡ false → IfOk r P → (x : X) × P x
given P (Ok x) is h = (x, h)
given P (Err e) is h = absurd (true≢false is)

-- After a job that was taken and delivered: the pass has no job, and keeps this
pub keeps_job : {E F : Type 0} (first : Sees) (before held after : CheckerPass) (job revision : ℕ) (rule : Rule) (text : List (List ℕ))
    (findings : List Ends) (taken : Result Taking E) (answer : Result Reply F) → Keeps first (checker_known before)
    → taken ≡ Ok (taking.Took job rule revision text) → IfOk taken (λ t. Takes before held t)
    → Turns (checker_known before) (checker_known held) → is_err answer ≡ false → IfOk answer (λ a. Delivers held after findings a)
    → Turns (checker_known held) (checker_known after) → (work_of after ≡ None) × Keeps first (checker_known after)
keeps_job first before held after job revision rule text findings taken answer keeps is takes turn whole delivers later_turn =
    let took = of_ok (λ (t : Taking). Takes before held t) taken (taking.Took job rule revision text) is takes in
    let made = given (λ (a : Reply). Delivers held after findings a) answer whole delivers in
    let kept = keeps_took first before held job revision rule text keeps turn took in
    (made.1.none, keeps_delivered first held after findings made.0 kept later_turn made.1)
