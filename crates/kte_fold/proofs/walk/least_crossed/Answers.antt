use Rattle.std.proofs.Common.{◌≡◌, ℕ, ◌+◌, Option, None, Some, true, false, length, slice_index, sym, subst, refl, arith}
use Rattle.kte_place.specs.Ends.{Ends}
use Rattle.kte_fold.specs.Folds.{is_crossed, least_crossed, lesser}
use Rattle.kte_fold.specs.Tree.{span_at}
use Rattle.kte_fold.specs.Inside.{is_clear}
use Rattle.kte_fold.proofs.LeastLemmas.{Found, found_past, found_more, least_found, one_least, clear_past}
use Rattle.kte_fold.proofs.walk.least_crossed.Goals as goal
use Rattle.kte_fold.proofs.walk.least_crossed.Goals.{then-crosses, else-crosses, in_default-via-in-Some+else-not-is_clear, in_default-via-in_default}

pub loop-at-preserved-then-not-is_clear : goal.loop-at-preserved-then-not-is_clear
loop-at-preserved-then-not-is_clear g c =
    let spans = g.S.Spanned.spans c.args.spans.now in
    let numbers = c.args.numbers.now in
    let at = c.loop-at.at in
    let is : span_at spans numbers at ≡ Some c.in-Some.fold = cc in
    record {
      bounded = omega arith;
      found = elim c.if-crosses.branch [
        | then-crosses w ↦
            let crossed : is_crossed (span_at spans numbers at) c.args.span ≡ true =
            subst (λ (o : Option Ends). is_crossed o c.args.span ≡ true) (sym is) (sym w.if-crosses.ensures) in
            let same : c.if-crosses.least ≡ Some (lesser (slice_index numbers at) c.loop-at.least) = cc in
            subst (λ (o : Option ℕ). Found spans c.args.span numbers (at + 1) o) (sym same)
            (found_more spans c.args.span numbers at c.loop-at.least c.loop-at.invariant.found crossed)
        | else-crosses w ↦
            let free : is_crossed (span_at spans numbers at) c.args.span ≡ false =
            subst (λ (o : Option Ends). is_crossed o c.args.span ≡ false) (sym is) (sym w.if-crosses.ensures) in
            subst (λ (o : Option ℕ). Found spans c.args.span numbers (at + 1) o) (sym w.least-is)
            (found_past spans c.args.span numbers at (at + 1) c.loop-at.least c.loop-at.invariant.found (omega arith)
            (λ k a l.
            let e : at ≡ k = omega arith in
            subst (λ (n : ℕ). is_crossed (span_at spans numbers n) c.args.span ≡ false) e free))
      ];
    }

pub loop-at-preserved : goal.loop-at-preserved
loop-at-preserved g c =
    let spans = g.S.Spanned.spans c.args.spans.now in
    let numbers = c.args.numbers.now in
    let at = c.loop-at.at in
    let clear : is_clear (span_at spans numbers at) c.args.span ≡ true = elim c.in_default.branch [
      | in_default-via-in-Some+else-not-is_clear w ↦
          let is : span_at spans numbers at ≡ Some w.in-Some.fold = cc in
          subst (λ (o : Option Ends). is_clear o c.args.span ≡ true) (sym is) (sym w.if-not-is_clear.ensures)
      | in_default-via-in_default w ↦
          let is : span_at spans numbers at ≡ None = cc in
          subst (λ (o : Option Ends). is_clear o c.args.span ≡ true) (sym is) refl
    ] in
    let fit = c.requires.outline.fits at c.loop-at-test.true in
    record {
      bounded = omega arith;
      found = found_past spans c.args.span numbers at (at + (1 + slice_index c.args.inside.now at)) c.loop-at.least
          c.loop-at.invariant.found (omega arith)
          (clear_past spans numbers c.args.inside.now c.args.span at c.requires.outline c.requires.tree c.loop-at-test.true clear);
    }

pub returns : goal.returns
returns g c =
    let spans = g.S.Spanned.spans c.args.spans.now in
    let numbers = c.args.numbers.now in
    let all : c.loop-at.at ≡ length numbers = omega arith in
    one_least spans c.args.span numbers (length numbers) c.loop-at.least (least_crossed spans c.args.span numbers)
    (subst (λ (n : ℕ). Found spans c.args.span numbers n c.loop-at.least) all c.loop-at.invariant.found)
    (least_found spans c.args.span numbers)
