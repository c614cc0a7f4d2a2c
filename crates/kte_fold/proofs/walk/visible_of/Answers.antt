use Rattle.std.proofs.Common.{◌≡◌, ℕ, ◌+◌, ◌-◌, ◌≤◌, ◌<◌, length, slice_index, None, Some, sym, subst, ap, arith}
use Rattle.kte_place.specs.Ends.{Ends}
use Rattle.kte_fold.specs.Tree.{span_at}
use Rattle.kte_fold.specs.Inside.{Counted, StartsFrom}
use Rattle.kte_fold.proofs.CountLemmas.{counted_skip, counted_fold, later_start, line_shown, line_counted, visible_is, in_order}
use Rattle.kte_fold.proofs.walk.visible_of.Goals as goal
use Rattle.kte_fold.proofs.walk.visible_of.Goals.{in-Some+else-line-fold+else-line-fold-2, in_default, else-loop-at-test, then-loop-at-test+in-Some+then-line-fold}

pub loop-at-preserved : goal.loop-at-preserved
loop-at-preserved g c =
    let spans = g.S.Spanned.spans c.args.spans.now in
    let numbers = c.args.numbers.now in
    let inside = c.args.inside.now in
    let at = c.loop-at.at in
    let so_far = c.loop-at.invariant in
    elim c.match-span.branch [
      | in-Some+else-line-fold+else-line-fold-2 w ↦
          let f = w.in-Some.fold in
          let is : span_at spans numbers at ≡ Some f = cc in
          let starts = ap (λ (e : Ends). e.start.line) w.fold.view_is in
          let ends = ap (λ (e : Ends). e.end.line) w.fold.view_is in
          let same : c.match-span.hidden ≡ c.loop-at.hidden + (f.end.line - f.start.line) = omega arith in (
            f.end.line + 1,
            omega arith,
            subst (λ (h : ℕ). Counted spans numbers (at + (1 + slice_index inside at)) h (f.end.line + 1)) (sym same)
                (counted_fold spans numbers inside c.requires.outline c.requires.tree at c.loop-at.hidden so_far.0 f
                c.loop-at-test.true so_far.2 is (in_order f _ w.fold.view_is w.fold.invariant)),
          )
      | in_default w ↦
          let is : span_at spans numbers at ≡ None = cc in (
            so_far.0,
            so_far.1,
            subst (λ (h : ℕ). Counted spans numbers (at + (1 + slice_index inside at)) h so_far.0) (sym w.hidden-is)
                (counted_skip spans numbers inside c.requires.outline c.requires.tree at c.loop-at.hidden so_far.0
                c.loop-at-test.true so_far.2 is),
          )
    ]

pub returns : goal.returns
returns g c =
    let spans = g.S.Spanned.spans c.args.spans.now in
    let numbers = c.args.numbers.now in
    let inside = c.args.inside.now in
    let at = c.loop-at.at in
    let line = c.args.line in
    let so_far = c.loop-at.invariant in
    let later : (k : ℕ) → at ≤ k → k < length numbers → StartsFrom (span_at spans numbers k) line = elim c.loop-at-test.branch [
      | else-loop-at-test w ↦ λ k a h. absurd (omega arith)
      | then-loop-at-test+in-Some+then-line-fold w ↦
          let f = w.in-Some.fold in
          let is : span_at spans numbers at ≡ Some f = cc in
          let starts = ap (λ (e : Ends). e.start.line) w.fold.view_is in
          later_start spans numbers inside c.requires.outline c.requires.tree at f line is
          (in_order f _ w.fold.view_is w.fold.invariant) (omega arith)
    ] in
    visible_is spans numbers line c.loop-at.hidden
    (line_shown spans numbers at c.loop-at.hidden so_far.0 line so_far.2 so_far.1 later)
    (line_counted spans numbers at c.loop-at.hidden so_far.0 line so_far.2 so_far.1 later)
