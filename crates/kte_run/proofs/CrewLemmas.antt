-- A run with checkers beside the editor, once all have acted and the desk is closed: the passes are all
-- that the desk has, and its history is one that such a run may have.
use Rattle.std.proofs.Common.{◌≡◌, ℕ, zero, suc, ◌+◌, ◌*◌, ◌^◌, ◌<◌, ◌≤◌, Bool, true, List, [], ◌∷◌, ◌++◌, take, drop, length, get_or, map, All, sum_by, Option, Some, None, IfSome, IsSome, refl, sym, ap, ◌∙◌, subst, arith}
use Rattle.std.specs.List.{slice_get}
use Rattle.std.proofs.lemmas.Option.{same_Some, slice_get-get_or}
use Rattle.std.proofs.lemmas.List.Elements.{All-nil, All-cons, All-head, All-tail}
use Rattle.std.proofs.lemmas.List.Sums.{sum_by-cons}
use mathlib.Core.List.{IsPrefix}
use Rattle.kte_turn.specs.Known.{events_of}
use Rattle.kte_swap.specs.Swap.{SwapView}
use Rattle.kte_swap.specs.declared.causes.SwapState.TheVariants.{Guarded}
use Rattle.kte_command.specs.declared.command.Command.{Command}
use Rattle.kte_core.specs.State.{State}
use Rattle.kte_core.specs.Replay.{Session, IsLegal, Legal, replay}
use Rattle.kte_core.specs.declared.event.Event.{Event}
use Rattle.kte_core.proofs.JournalLemmas.{EachIn-back}
use Rattle.kte_desk.specs.Calls.{AreFresh, beginning_of, fresh, own_calls}
use Rattle.kte_desk.specs.Passes.{AreAll, IsCheckerOf, IsEditorOf, checker_known, editor_known, own_of, share_of, work_of}
use Rattle.kte_desk.specs.Schedule.{Schedule}
use Rattle.kte_desk.specs.Seen.{Sees, first_state, seat_of}
use Rattle.kte_desk.specs.declared.beginning.Beginning.{Beginning}
use Rattle.kte_desk.specs.declared.desk.Desk.{Desk}
use Rattle.kte_desk.specs.declared.pass.CheckerPass.{CheckerPass}
use Rattle.kte_desk.specs.declared.pass.EditorPass.{EditorPass}
use Rattle.kte_run.specs.declared.checkers.CheckerActor.{CheckerActor}
use Rattle.kte_run.specs.declared.status.Status.{Status}
use Rattle.kte_run.specs.Alone.{CarriesOut, TellsDisk}
use Rattle.kte_run.specs.Beside.{Checks, Edits, HasEdited, IsLater}
use Rattle.kte_run.specs.Checked.{CheckerDid, CheckersDid, EditorDid, IsHistoryOf}
use Rattle.kte_run.specs.CheckerActs.{CheckerActs}
use Rattle.kte_run.specs.Crew.{is_done, pass_of}
use Rattle.kte_run.specs.Editor.{Part, part_of}
use Rattle.kte_run.specs.Run.{Outer}
use Rattle.kte_run.proofs.ApartLemmas.{Same, Same-apart}
use Rattle.kte_run.proofs.AskLemmas.{none_first}
use Rattle.kte_run.proofs.CarryLemmas.{tells-same}
use Rattle.kte_run.proofs.CheckedLemmas.{checked_law, others_after}
use Rattle.kte_run.proofs.OthersLemmas.{apart-others}

-- ---- the checkers

-- each pass is another one that checked, and all are done where `done` says so
abbrev pub EachChecks : Bool → List CheckerPass → List CheckerPass → Type 0
EachChecks done [] [] = Unit {0}
EachChecks done [] (later ∷ laters) = ⊥
EachChecks done (pass ∷ passes) [] = ⊥
EachChecks done (pass ∷ passes) (later ∷ laters) = Checks pass later done × EachChecks done passes laters

module _ {K : Type 0} where
  -- what a checker has done, by the pass that it had
  abbrev ActsFrom : CheckerActor K → Option CheckerPass → Type 0
  ActsFrom after had = IfSome had (λ pass. (later : CheckerPass) × (after.pass ≡ Some later) × Checks pass later after.is_done)

  one_checks : (done : Bool) (checker after : CheckerActor K) (pass later : CheckerPass) → checker.pass ≡ Some pass → Some later ≡ after.pass
      → (done ≡ true → after.is_done ≡ true) → CheckerActs checker after → Checks pass later done
  one_checks done checker after pass later had has all acts =
      let told : ActsFrom after (Some pass) = subst (ActsFrom after) had acts in
      let is : told.0 ≡ later = same_Some told.0 later (sym told.1 ∙ sym has) in
      let checks : Checks pass later after.is_done = subst (λ (p : CheckerPass). Checks pass p after.is_done) is told.2 in
      record { desk = checks.desk; later = checks.later; checked = λ finished. checks.checked (all finished) }

  pub each_checks : (done : Bool) (checkers afters : List (CheckerActor K)) (passes laters : List CheckerPass)
      → map pass_of checkers ≡ map Some passes → map Some laters ≡ map pass_of afters → length afters ≡ length checkers
      → (done ≡ true → All (λ checker. is_done checker ≡ true) afters)
      → ((place : ℕ) (a : CheckerActor K) → place < length checkers → CheckerActs (get_or checkers place a) (get_or afters place a))
      → EachChecks done passes laters
  each_checks done [] [] [] [] had has long all acts = tt
  each_checks done [] [] [] (later ∷ laters) had has long all acts = absurd (omega (arith, ap length has))
  each_checks done [] [] (pass ∷ passes) laters had has long all acts = absurd (omega (arith, ap length had))
  each_checks done [] (after ∷ afters) passes laters had has long all acts = absurd (omega (arith, long))
  each_checks done (checker ∷ checkers) [] passes laters had has long all acts = absurd (omega (arith, long))
  each_checks done (checker ∷ checkers) (after ∷ afters) [] laters had has long all acts = absurd (omega (arith, ap length had))
  each_checks done (checker ∷ checkers) (after ∷ afters) (pass ∷ passes) [] had has long all acts = absurd (omega (arith, ap length has))
  each_checks done (checker ∷ checkers) (after ∷ afters) (pass ∷ passes) (later ∷ laters) had has long all acts =
      let P : CheckerActor K → Type 0 = λ (c : CheckerActor K). is_done c ≡ true in (
        one_checks done checker after pass later (cc had) (cc has) (λ finished. All-head P after afters (all finished)) (acts 0 checker (omega arith)),
        each_checks done checkers afters passes laters (cc had) (cc has) (omega arith) (λ finished. All-tail P after afters (all finished))
            (λ place a within. acts (suc place) a (omega arith)),
      )

  one_there : (checker after : CheckerActor K) (pass : CheckerPass) → checker.pass ≡ Some pass → CheckerActs checker after → IsSome after.pass
  one_there checker after pass had acts =
      let told : ActsFrom after (Some pass) = subst (ActsFrom after) had acts in
      subst (λ (o : Option CheckerPass). IsSome o) (sym told.1) refl

  -- each checker has a pass after it has acted
  pub all_there : (checkers afters : List (CheckerActor K)) (passes : List CheckerPass) → map pass_of checkers ≡ map Some passes
      → length afters ≡ length checkers
      → ((place : ℕ) (a : CheckerActor K) → place < length checkers → CheckerActs (get_or checkers place a) (get_or afters place a))
      → All (λ checker. IsSome (pass_of checker)) afters
  all_there [] [] passes had long acts = All-nil (λ (c : CheckerActor K). IsSome (pass_of c))
  all_there [] (after ∷ afters) passes had long acts = absurd (omega (arith, long))
  all_there (checker ∷ checkers) [] passes had long acts = absurd (omega (arith, long))
  all_there (checker ∷ checkers) (after ∷ afters) [] had long acts = absurd (omega (arith, ap length had))
  all_there (checker ∷ checkers) (after ∷ afters) (pass ∷ passes) had long acts =
      All-cons (λ (c : CheckerActor K). IsSome (pass_of c)) after afters (one_there checker after pass (cc had) (acts 0 checker (omega arith)))
      (all_there checkers afters passes (cc had) (omega arith) (λ place a within. acts (suc place) a (omega arith)))

  pub acts_at : (old checkers afters : List (CheckerActor K)) → old ≡ checkers
      → ((place : ℕ) (a : CheckerActor K) → place < length old → CheckerActs (get_or old place a) (get_or afters place a))
      → (place : ℕ) (a : CheckerActor K) → place < length checkers → CheckerActs (get_or checkers place a) (get_or afters place a)
  acts_at old checkers afters is acts =
      subst (λ (l : List (CheckerActor K)). (place : ℕ) (a : CheckerActor K) → place < length l → CheckerActs (get_or l place a) (get_or afters place a)) is acts

pub checks_length : (done : Bool) (passes laters : List CheckerPass) → EachChecks done passes laters → length laters ≡ length passes
checks_length done [] [] each = refl
checks_length done [] (later ∷ laters) each = absurd each
checks_length done (pass ∷ passes) [] each = absurd each
checks_length done (pass ∷ passes) (later ∷ laters) each = ap suc (checks_length done passes laters each.1)

-- they stand for as many seats as before
pub checks_shares : (done : Bool) (passes laters : List CheckerPass) → EachChecks done passes laters → sum_by share_of laters ≡ sum_by share_of passes
checks_shares done [] [] each = refl
checks_shares done [] (later ∷ laters) each = absurd each
checks_shares done (pass ∷ passes) [] each = absurd each
checks_shares done (pass ∷ passes) (later ∷ laters) each =
    let share : share_of later ≡ share_of pass = ap (λ (s : Sees). s.share) each.0.later in
    omega (arith, sum_by-cons share_of pass passes, sum_by-cons share_of later laters, share, checks_shares done passes laters each.1)

-- they are of the same desk
pub checks_desk : (done : Bool) (desk : Desk) (passes laters : List CheckerPass) → EachChecks done passes laters → All (IsCheckerOf desk) passes
    → All (IsCheckerOf desk) laters
checks_desk done desk [] [] each own = All-nil (IsCheckerOf desk)
checks_desk done desk [] (later ∷ laters) each own = absurd each
checks_desk done desk (pass ∷ passes) [] each own = absurd each
checks_desk done desk (pass ∷ passes) (later ∷ laters) each own =
    All-cons (IsCheckerOf desk) later laters (each.0.desk ∙ All-head (IsCheckerOf desk) pass passes own)
    (checks_desk done desk passes laters each.1 (All-tail (IsCheckerOf desk) pass passes own))

-- what checked at a place, and what it was before
pub checks_at : (done : Bool) (passes laters : List CheckerPass) (n : ℕ) (later : CheckerPass) → EachChecks done passes laters
    → slice_get laters n ≡ Some later → (pass : CheckerPass) × (slice_get passes n ≡ Some pass) × Checks pass later done
checks_at done [] [] n later each at = absurd (cc)
checks_at done [] (last ∷ laters) n later each at = absurd each
checks_at done (pass ∷ passes) [] n later each at = absurd each
checks_at done (pass ∷ passes) (last ∷ laters) zero later each at = (pass, refl, subst (λ (p : CheckerPass). Checks pass p done) (same_Some last later at) each.0)
checks_at done (pass ∷ passes) (last ∷ laters) (suc n) later each at = checks_at done passes laters n later each.1 at

-- at first no checker has a job
pub fresh_free : (editor : Sees) (passes : List CheckerPass) → AreFresh editor passes → All (λ pass. work_of pass ≡ None) passes
fresh_free editor passes begin k d within = (begin k (get_or passes k d) (slice_get-get_or passes k d within)).1

-- there are as many checkers as passes
pub checkers_length : {K : Type 0} (checkers : List (CheckerActor K)) (passes : List CheckerPass) → map pass_of checkers ≡ map Some passes
    → length checkers ≡ length passes
checkers_length [] [] is = refl
checkers_length [] (pass ∷ passes) is = absurd (omega (arith, ap length is))
checkers_length (checker ∷ checkers) [] is = absurd (omega (arith, ap length is))
checkers_length (checker ∷ checkers) (pass ∷ passes) is = ap suc (checkers_length checkers passes (cc is))

take_front : {A : Type 0} (xs ys : List A) → take (length xs) (xs ++ ys) ≡ xs
take_front [] ys = refl
take_front (x ∷ xs) ys = ap (λ l. x ∷ l) (take_front xs ys)

-- the vector behind a slice that was lent and has its length still
pub lent_back : {A : Type 0} (old new : List A) (n : ℕ) → n ≡ length old → length new ≡ length old
    → take n (new ++ drop (length new) old) ≡ new
lent_back old new n a b = ap (λ m. take m (new ++ drop (length new) old)) (a ∙ sym b) ∙ take_front new (drop (length new) old)

-- ---- the closed desk

-- the passes that the editor and the checkers have in the end are all of the desk
pub all_of : (desk : Desk) (done : Bool) (pass editor : EditorPass) (passes checkers : List CheckerPass) → AreAll desk pass passes
    → IsLater (editor_known pass) (editor_known editor) → IsEditorOf desk editor → EachChecks done passes checkers → AreAll desk editor checkers
all_of desk done pass editor passes checkers all later own checks =
    let share : (editor_known editor).share ≡ (editor_known pass).share = ap (λ (s : Sees). s.share) later in
    let seats : (editor_known editor).seats ≡ (editor_known pass).seats = ap (λ (s : Sees). s.seats) later in
    let shares = checks_shares done passes checkers checks in
    record {
      editor_of = own;
      checkers_of = checks_desk done desk passes checkers checks all.checkers_of;
      shares = omega (arith, all.shares, share, seats, shares);
    }

-- what a session is, whose desk was closed with these passes
pub record Closes (session : Session) (editor : EditorPass) (checkers : List CheckerPass) : Type 0 where
  pub origin : (editor_known editor).origin ≡ Some (beginning_of session)
  pub legal : Legal (first_state (beginning_of session)) session.events
  pub editor_seen : IsPrefix (editor_known editor).seen session.events
  pub seen : All (λ pass. IsPrefix (checker_known pass).seen session.events) checkers
  pub calls : (seat : ℕ) → events_of seat_of seat session.events ≡ events_of seat_of seat (own_calls (editor_known editor).own checkers)

-- an editor that had these commands has ended a run so, beside checkers that are all done
pub record AllDid (commands : List Command) (swap : SwapView) (workers : ℕ) (core : Session) (ends : Status) (disk later_disk : Outer)
    (pass editor : EditorPass) (passes checkers : List CheckerPass) : Type 0 where
  pub part : Part
  pub part_is : part ≡ part_of commands swap
  pub guarded : swap.state ≡ Guarded
  pub some : 1 ≤ workers
  pub starts : editor_known pass ≡ fresh (workers + 1) core
  pub count : length passes ≡ workers
  pub begin : AreFresh (editor_known pass) passes
  pub edits : Edits part pass editor (Some ends) disk later_disk
  pub checks : EachChecks true passes checkers

abbrev checker_seen : CheckerPass → List Event
checker_seen pass = (checker_known pass).seen

module _ (commands : List Command) (swap : SwapView) (workers : ℕ) (core closed : Session) (ends : Status) (disk later_disk : Outer)
    (pass editor : EditorPass) (passes checkers : List CheckerPass)
    (did : AllDid commands swap workers core ends disk later_disk pass editor passes checkers) (closes : Closes closed editor checkers)
  where
    edited : HasEdited commands swap ends (editor_known editor) disk later_disk
    edited =
        did.edits.edits commands swap did.part_is did.guarded
        (record { seen = ap (λ (s : Sees). s.seen) did.starts; own = ap (λ (s : Sees). s.own) did.starts })

    editor_did : EditorDid commands (first_state (beginning_of closed)) (editor_known editor).seen (editor_known editor).own
    editor_did = edited.did (beginning_of closed) closes.origin

    checkers_did : CheckersDid checker_seen own_of (first_state (beginning_of closed)) checkers
    checkers_did n later at =
        let was = checks_at true passes checkers n later did.checks at in
        let new = (did.begin n was.0 was.1).0 in
        let known : IsLater (checker_known was.0) (checker_known later) = was.2.later in
        let own : (checker_known was.0).own ≡ [] = ap (λ (s : Sees). s.own) new ∙ ap (λ (s : Sees). s.own) did.starts in
        let from : (checker_known later).origin ≡ Some (beginning_of closed) =
        ap (λ (s : Sees). s.origin) known
        ∙ (ap (λ (s : Sees). s.origin) new ∙ (sym (ap (λ (s : Sees). s.origin) did.edits.later) ∙ closes.origin)) in
        let seat : (checker_known later).seat ≡ n + 1 = ap (λ (s : Sees). s.seat) known ∙ ap (λ (s : Sees). s.seat) new in
        subst (λ (k : ℕ). CheckerDid (first_state (beginning_of closed)) k (checker_seen later) (own_of later)) seat
        (was.2.checked refl own (beginning_of closed) from)

    history : IsHistoryOf checker_seen own_of closed.events (editor_known editor).seen (editor_known editor).own checkers
    history = record { editor_saw = closes.editor_seen; checkers_saw = closes.seen; made = closes.calls }

    long : length checkers ≡ workers
    long = checks_length true passes checkers did.checks ∙ did.count

    some_checkers : 0 < length checkers
    some_checkers = omega (arith, long, did.some)

    schedule : Schedule commands (length checkers) (first_state (beginning_of closed)) closed.events
    schedule =
        checked_law checker_seen own_of commands (first_state (beginning_of closed)) closed.events (editor_known editor).seen (editor_known editor).own
        checkers history editor_did checkers_did closes.legal (none_first closed.loaded closed.limit) some_checkers

    -- what comes after what the editor has seen changes nothing that is told of the disk
    tells : TellsDisk ends (first_state (beginning_of closed)) closed.events swap disk later_disk
    unfolding history
    tells =
        let first : State = first_state (beginning_of closed) in
        let seen : List Event = (editor_known editor).seen in
        let more : List Event = closes.editor_seen.0 in
        let others =
        others_after checker_seen own_of commands first closed.events seen (editor_known editor).own checkers history editor_did checkers_did in
        let legal : Legal first (seen ++ more) = subst (Legal first) (sym closes.editor_seen.1) closes.legal in
        let same : Same first seen (seen ++ more) =
        Same-apart first seen more (apart-others (replay first seen) more (EachIn-back IsLegal first seen more legal) others) in
        tells-same ends first seen closed.events swap disk later_disk (subst (Same first seen) closes.editor_seen.1 same)
        (edited.tells (beginning_of closed) closes.origin)

    same_beginning : beginning_of closed ≡ beginning_of core
    same_beginning =
        same_Some (beginning_of closed) (beginning_of core)
        (sym closes.origin ∙ (ap (λ (s : Sees). s.origin) did.edits.later ∙ ap (λ (s : Sees). s.origin) did.starts))

    abbrev session_of : Beginning → Session
    session_of began = record { loaded = began.loaded; limit = began.limit; events = closed.events }

    -- the run with checkers
    pub carried : CarriesOut workers commands swap ends core closed disk later_disk
    carried = record {
      schedule = subst (λ (b : Beginning). Schedule commands workers (first_state b) closed.events) same_beginning
          (subst (λ (n : ℕ). Schedule commands n (first_state (beginning_of closed)) closed.events) long schedule);
      begun = ap session_of same_beginning;
      tells = subst (λ (b : Beginning). TellsDisk ends (first_state b) closed.events swap disk later_disk) same_beginning tells;
    }
