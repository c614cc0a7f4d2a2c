use Rattle.std.proofs.Common.{◌≡◌, ◌∙◌, ℕ, ◌+◌, ◌<◌, ◌≤◌, ◌^◌, length, ◌++◌, ◌∷◌, [], true, false, List, IsSome, refl, ap, sym}
use Rattle.std.specs.Prelude.{OnErr, OnOk}
use Rattle.std.proofs.lemmas.Grind.{merely}
use mathlib.Core.Logic.{∥∥₁_map}
use Rattle.kte_core.specs.Editing.{saved_form}
use Rattle.kte_desk.specs.Calls.{Adds, AddsNone, AreMade, Turns}
use Rattle.kte_desk.specs.Passes.{editor_known}
use Rattle.kte_desk.specs.Seen.{Sees, SeesState}
use Rattle.kte_desk.specs.Serving.{own}
use Rattle.kte_run.specs.Editor.{Part, is_lost, work}
use Rattle.kte_run.specs.Calls.{told_of}
use Rattle.kte_run.specs.Beside.{IsLater, Knows}
use Rattle.kte_run.specs.Run.{Outer, outer}
use Rattle.kte_run.proofs.AskLemmas.{keeps-asked}
use Rattle.kte_run.proofs.CountLemmas.{Ends, ends-by}
use Rattle.kte_run.proofs.FailLemmas.{asked-none, work-fails}
use Rattle.kte_run.proofs.SmallLemmas.{less-by}
use Rattle.kte_run.proofs.BesideLemmas.{Fails, Heard, Hears, IsAsking, IsAsking-edited, IsAsking-none, IsAsking-others, IsAsking-own, Knows-asked, Knows-failed, Knows-others, Requests, fails-by, few-more, form-turn, goes-self, goes-then, heard-by, heard-knows, heard-less, hears-by, hears-whole, later-turn, made-records-of, origin-later, saved-before, seat-of, told-of}
use Rattle.kte_run.proofs.beside.ask_beside.Goals as goal
use Rattle.kte_run.proofs.beside.ask_beside.Goals.{After-saved_form-form, After-answered}
use Rattle.kte_run.proofs.beside.ask_beside.Given.{Over}

pub loop-request-init : goal.loop-request-init
loop-request-init g c = record {
  own = c.requires.own;
  later = refl;
  few = c.requires.few;
  knows = c.requires.knows;
  goes_on = goes-self (outer (g.D.Disk.moments c.args.disk.now) (g.D.Disk.faults c.args.disk.now));
  asks = λ whole commands swap is guarded new. IsAsking-none commands swap (editor_known c.args.pass) c.args.editor.now
      (outer (g.D.Disk.moments c.args.disk.now) (g.D.Disk.faults c.args.disk.now)) is guarded new;
}

-- ---- the request, and the turn of a save's form

-- what the core replied to the request
requests_of : (g : Over) (c : After-saved_form-form g)
    → Requests (editor_known c.loop-request.pass) (editor_known c.command-answer.result.1) c.loop-request.editor c.next.new.self c.in-Some.request
    c.in-Ok.step.reply c.in-Ok.step.made
requests_of g c =
    let sees : Sees = editor_known c.loop-request.pass in
    let later : Sees = editor_known c.command-answer.result.1 in
    record {
      turns = c.command-answer.ensures.turns;
      adds = told-of (λ step. Adds sees later (own c.in-Some.request step.reply)) c.command-answer.result.0 c.in-Ok.step c.in-Ok.is
          c.command-answer.ensures.event;
      are_made = told-of (λ step. AreMade later (own c.in-Some.request step.reply) step.made) c.command-answer.result.0 c.in-Ok.step c.in-Ok.is
          c.command-answer.ensures.made;
      next_is = sym c.in-Some.ensures.next;
      mid_is = c.in-Some.ensures.asked;
      own_is = c.in-Some.ensures.own;
    }

later_of : (g : Over) (c : After-saved_form-form g) → IsLater (editor_known c.args.pass) (editor_known c.command-answer.result.1)
later_of g c =
    later-turn (editor_known c.args.pass) (editor_known c.loop-request.pass) (editor_known c.command-answer.result.1) c.loop-request.invariant.later
    c.command-answer.ensures.turns

origin_of : (g : Over) (c : After-saved_form-form g) → IsSome (editor_known c.command-answer.result.1).origin
origin_of g c = origin-later (editor_known c.args.pass) (editor_known c.command-answer.result.1) (later_of g c) c.requires.origin

-- memory had not run out before
whole_of : (g : Over) (c : After-saved_form-form g) → c.loop-request.editor.failed ≡ false
whole_of g c =
    let kept = keeps-asked c.loop-request.editor c.next.new.self c.in-Some.ensures.asked in
    sym kept.failed ∙ sym c.has_failed.ensures ∙ c.if-has_failed.false

-- what is shown of a turn of others holds after that of a save's form
by_form : (g : Over) (c : After-saved_form-form g) (P : Sees → Type 0)
    → (Turns (editor_known c.command-answer.result.1) (editor_known c.saved_form-form.result.1)
    → AddsNone (editor_known c.command-answer.result.1) (editor_known c.saved_form-form.result.1)
    → P (editor_known c.command-answer.result.1) → P (editor_known c.saved_form-form.result.1))
    → P (editor_known c.command-answer.result.1) → P (editor_known c.saved_form-form.result.1)
by_form g c P =
    form-turn P c.is_saving.result (editor_known c.command-answer.result.1) (editor_known c.saved_form-form.result.1) c.saved_form-form.ensures.turns
    c.saved_form-form.ensures.none c.saved_form-form.ensures.same

later_form : (g : Over) (c : After-saved_form-form g) → IsLater (editor_known c.args.pass) (editor_known c.saved_form-form.result.1)
later_form g c =
    by_form g c (IsLater (editor_known c.args.pass))
    (λ turns adds was. later-turn (editor_known c.args.pass) (editor_known c.command-answer.result.1) (editor_known c.saved_form-form.result.1) was turns)
    (later_of g c)

own_form : (g : Over) (c : After-saved_form-form g)
    → (editor_known c.saved_form-form.result.1).own ≡ (editor_known c.loop-request.pass).own ++ own c.in-Some.request c.in-Ok.step.reply ∷ []
own_form g c =
    by_form g c (λ (s : Sees). s.own ≡ (editor_known c.loop-request.pass).own ++ own c.in-Some.request c.in-Ok.step.reply ∷ [])
    (λ turns adds was. adds.own ∙ was) (requests_of g c).adds.own

few_form : (g : Over) (c : After-saved_form-form g) (later : Part) (n : ℕ) → work later + 1 ≤ work c.loop-request.editor
    → length (editor_known c.loop-request.pass).own + work c.loop-request.editor < n
    → length (editor_known c.saved_form-form.result.1).own + work later < n
few_form g c later n =
    few-more (editor_known c.loop-request.pass).own (editor_known c.saved_form-form.result.1).own (own c.in-Some.request c.in-Ok.step.reply)
    c.loop-request.editor later n (own_form g c)

pub answered-requires : goal.answered-requires
answered-requires g c =
    let at = (goal.at.answered-requires g c).After-saved_form-form in
    made-records-of (editor_known c.loop-request.pass) (editor_known c.command-answer.result.1) c.loop-request.editor c.next.new.self
    c.in-Some.request c.in-Ok.step.reply c.in-Ok.step.made (requests_of g at) (origin_of g at) c.inserts_lines.ensures

never-whole : (later : Part) → later.failed ≡ true → later.failed ≡ false → (P : Type 0) → P
never-whole later failed whole P = absurd (let never : true ≡ false = sym failed ∙ whole in cc)

-- memory ran out for the form
pub loop-request-preserved-in_default-form : goal.loop-request-preserved-in_default-form
loop-request-preserved-in_default-form g c =
    let at = (goal.at.loop-request-preserved-in_default-form g c).After-saved_form-form in
    let later : Part = c.fail-in_default-form.new.self in
    let failed : later.failed ≡ true = ap (λ (p : Part). p.failed) c.fail-in_default-form.ensures in
    let less = work-fails c.loop-request.editor c.next.new.self later c.in-Some.request (sym c.in-Some.ensures.next) c.in-Some.ensures.asked failed
    (ap (λ (p : Part). p.owed) c.fail-in_default-form.ensures) (ap (λ (p : Part). p.closed) c.fail-in_default-form.ensures) in
    record {
      own = c.saved_form-form.ensures.own;
      later = later_form g at;
      few = few_form g at later (2 ^ 31) less c.loop-request.invariant.few;
      knows = merely (Knows-failed (editor_known c.saved_form-form.result.1) later failed);
      goes_on = c.loop-request.invariant.goes_on;
      asks = λ whole commands swap is guarded new. never-whole later failed whole (IsAsking commands swap (editor_known c.saved_form-form.result.1) later (outer (g.D.Disk.moments c.args.disk.now) (g.D.Disk.faults c.args.disk.now)) (outer (g.D.Disk.moments c.loop-request.disk) (g.D.Disk.faults c.loop-request.disk)));
    }

-- ---- what the editor made of the reply

fails_of : (g : Over) (c : After-answered g) → OnErr c.answered.result (Fails c.next.new.self c.answered.new.self)
fails_of g c = fails-by c.answered.result c.next.new.self c.answered.new.self c.answered.ensures.err

heard_of : (g : Over) (c : After-answered g) → OnOk c.answered.result (Heard c.in-Ok.step.reply c.in-Ok.step.made c.next.new.self c.answered.new.self)
heard_of g c =
    heard-by c.answered.result c.in-Ok.step.reply c.in-Ok.step.made c.next.new.self c.answered.new.self c.answered.ensures.whole
    c.answered.ensures.follows

-- less is left
less_of : (g : Over) (c : After-answered g)
    → Requests (editor_known c.loop-request.pass) (editor_known c.command-answer.result.1) c.loop-request.editor c.next.new.self c.in-Some.request
    c.in-Ok.step.reply c.in-Ok.step.made → c.loop-request.editor.failed ≡ false → IsSome (editor_known c.command-answer.result.1).origin
    → work c.answered.new.self + 1 ≤ work c.loop-request.editor
less_of g c requests whole some =
    heard-less c.answered.result (editor_known c.loop-request.pass) (editor_known c.command-answer.result.1) c.loop-request.editor c.next.new.self
    c.answered.new.self c.in-Some.request c.in-Ok.step.reply c.in-Ok.step.made requests whole some c.loop-request.invariant.knows (heard_of g c)
    (fails_of g c)

pub loop-request-smaller : goal.loop-request-smaller
loop-request-smaller g c =
    let at = (goal.at.loop-request-smaller g c).After-saved_form-form in
    less-by _ _ (less_of g (goal.at.loop-request-smaller g c).After-answered (requests_of g at) (whole_of g at) (origin_of g at))

pub loop-request-preserved : goal.loop-request-preserved
loop-request-preserved g c =
    let after = (goal.at.loop-request-preserved g c).After-answered in
    let at = (goal.at.loop-request-preserved g c).After-saved_form-form in
    let before : Outer = outer (g.D.Disk.moments c.args.disk.now) (g.D.Disk.faults c.args.disk.now) in
    let now : Outer = outer (g.D.Disk.moments c.loop-request.disk) (g.D.Disk.faults c.loop-request.disk) in
    let next : Outer = outer (g.D.Disk.moments c.answered.new.disk) (g.D.Disk.faults c.answered.new.disk) in
    let sees : Sees = editor_known c.loop-request.pass in
    let mid_sees : Sees = editor_known c.command-answer.result.1 in
    let later_sees : Sees = editor_known c.saved_form-form.result.1 in
    let part : Part = c.loop-request.editor in
    let mid : Part = c.next.new.self in
    let later : Part = c.answered.new.self in
    let request = c.in-Some.request in
    let answer = c.in-Ok.step.reply in
    let made = c.in-Ok.step.made in
    let form : List ℕ = c.deref.result.now in
    let requests = requests_of g at in
    let seat = seat-of sees mid_sees part mid request answer made requests in
    let hears = hears-by c.answered.result answer made form mid later now next (heard_of g after) c.answered.ensures.rest c.answered.ensures.lost
    c.answered.ensures.faults c.answered.ensures.told c.answered.ensures.stands c.answered.ensures.saves in
    record {
      own = c.saved_form-form.ensures.own;
      later = later_form g at;
      few = few_form g at later (2 ^ 31) (less_of g after requests (whole_of g at) (origin_of g at)) c.loop-request.invariant.few;
      knows = ∥∥₁_map c.loop-request.invariant.knows (λ (known : Knows sees part).
          by_form g at (λ (s : Sees). Knows s later) (λ turns adds was. Knows-others mid_sees later_sees later seat turns adds was)
          (heard-knows c.answered.result sees mid_sees part mid later request answer made requests (whole_of g at) (heard_of g after) (fails_of g after)
          known));
      goes_on = goes-then before now next (told_of c.answered.result later.owed) (is_lost mid.swap.state) mid.replace_failed later.replace_failed
          c.loop-request.invariant.goes_on c.answered.ensures.faults c.answered.ensures.tells;
      asks = λ whole commands swap is guarded new.
          by_form g at (λ (s : Sees). IsAsking commands swap s later before next)
          (λ turns adds was. IsAsking-others commands swap mid_sees later_sees later before next seat turns adds was)
          (IsAsking-own commands swap sees mid_sees part mid later request answer made form before now next requests
          (λ saves. let saving = c.is_saving.ensures.1 saves in
          saved-before mid_sees later_sees form seat (c.saved_form-form.ensures.turns saving) (c.saved_form-form.ensures.none saving)
          (λ origin from. c.deref.ensures.value
          ∙ told-of (λ bytes. SeesState later_sees (λ state. bytes.items ≡ saved_form state.editing)) c.saved_form-form.result.0 c.in-Ok-form.form
          c.in-Ok-form.is (c.saved_form-form.ensures.bytes saving) origin from))
          (hears-whole c.answered.result (Hears answer made form mid later now next) mid later hears (fails_of g after) whole)
          (c.loop-request.invariant.asks (whole_of g at) commands swap is guarded new));
    }

-- ---- in the end

pub returns-clause-knows : goal.returns-clause-knows
returns-clause-knows g c =
    ∥∥₁_map c.loop-request.invariant.knows (λ (known : Knows (editor_known c.loop-request.pass) c.loop-request.editor).
    Knows-asked (editor_known c.loop-request.pass) c.loop-request.editor c.next.new.self
    (c.in_default.ensures.asked ∙ asked-none c.loop-request.editor (sym c.in_default.ensures.next)) known)

pub returns-clause-edits : goal.returns-clause-edits
returns-clause-edits g c commands swap is guarded new =
    let part : Part = c.loop-request.editor in
    let mid : Part = c.next.new.self in
    let kept = keeps-asked part mid c.in_default.ensures.asked in
    let whole : part.failed ≡ false = sym kept.failed ∙ sym c.has_failed-2.ensures ∙ c.if-has_failed-2.false in
    let ends : Ends c.ending.result part = ends-by c.ending.result part mid kept
    (record { failed = c.ending.ensures.failed; lost = c.ending.ensures.lost; ok = c.ending.ensures.ok }) in
    IsAsking-edited commands swap (editor_known c.loop-request.pass) part c.ending.result
    (outer (g.D.Disk.moments c.args.disk.now) (g.D.Disk.faults c.args.disk.now))
    (outer (g.D.Disk.moments c.loop-request.disk) (g.D.Disk.faults c.loop-request.disk))
    (c.loop-request.invariant.asks whole commands swap is guarded new) (sym c.in_default.ensures.next) ends
