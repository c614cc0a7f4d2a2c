use Rattle.std.proofs.Common.{◌≡◌, ℕ, ◌+◌, ◌-◌, ◌≤◌, ◌<◌, length, None, Some, ap, arith}
use Rattle.kte_place.specs.Ends.{Ends}
use Rattle.kte_fold.specs.Tree.{span_at}
use Rattle.kte_fold.specs.Inside.{StartsFrom}
use Rattle.kte_fold.proofs.CountLemmas.{counted_skip, counted_fold, later_start, line_shown, line_counted, in_order}
use Rattle.kte_fold.proofs.walk.nth_visible.Goals as goal
use Rattle.kte_fold.proofs.walk.nth_visible.Goals.{in-Some+else-line-from, in_default, Then-line-from, After-loop-at}
use Rattle.kte_fold.proofs.walk.nth_visible.Given.{Over}

pub loop-at-preserved : goal.loop-at-preserved
loop-at-preserved g c =
    let spans = g.S.Spanned.spans c.args.spans.now in
    let numbers = c.args.numbers.now in
    let inside = c.args.inside.now in
    let at = c.loop-at.at in
    let so_far = c.loop-at.invariant in
    elim c.match-span.branch [
      | in-Some+else-line-from w ↦
          let f = w.in-Some.fold in
          let is : span_at spans numbers at ≡ Some f = cc in
          let starts = ap (λ (e : Ends). e.start.line) w.fold.view_is in
          let ends = ap (λ (e : Ends). e.end.line) w.fold.view_is in
          let told = w.from-line-in-Some.ensures in
          let told2 = w.from.ensures in (
            f.end.line + 1,
            so_far.1 + (f.end.line - f.start.line),
            omega arith,
            omega arith,
            omega arith,
            counted_fold spans numbers inside c.requires.outline c.requires.tree at so_far.1 so_far.0 f
                c.loop-at-test.true so_far.5 is (in_order f _ w.fold.view_is w.fold.invariant),
          )
      | in_default w ↦
          let is : span_at spans numbers at ≡ None = cc in
          let same = w.line-is in (
            so_far.0,
            so_far.1,
            omega arith,
            omega arith,
            so_far.4,
            counted_skip spans numbers inside c.requires.outline c.requires.tree at so_far.1 so_far.0
                c.loop-at-test.true so_far.5 is,
          )
    ]

later_here : (g : Over) (c : Then-line-from g) → (k : ℕ) → c.loop-at.at ≤ k → k < length c.args.numbers.now
    → StartsFrom (span_at (g.S.Spanned.spans c.args.spans.now) c.args.numbers.now k) c.loop-at.line
later_here g c =
    let spans = g.S.Spanned.spans c.args.spans.now in
    let numbers = c.args.numbers.now in
    let f = c.in-Some.fold in
    let is : span_at spans numbers c.loop-at.at ≡ Some f = cc in
    let starts = ap (λ (e : Ends). e.start.line) c.fold.view_is in
    let told = c.from.ensures in
    later_start spans numbers c.args.inside.now c.requires.outline c.requires.tree c.loop-at.at f c.loop-at.line is
    (in_order f _ c.fold.view_is c.fold.invariant) (omega arith)

pub returns-then-line-from-clause-shown : goal.returns-then-line-from-clause-shown
returns-then-line-from-clause-shown g c =
    let so_far = c.loop-at.invariant in
    line_shown (g.S.Spanned.spans c.args.spans.now) c.args.numbers.now c.loop-at.at so_far.1 so_far.0 c.loop-at.line so_far.5
    so_far.3 (later_here g c)

pub returns-then-line-from-clause-number : goal.returns-then-line-from-clause-number
returns-then-line-from-clause-number g c =
    let so_far = c.loop-at.invariant in
    let counted = line_counted (g.S.Spanned.spans c.args.spans.now) c.args.numbers.now c.loop-at.at so_far.1 so_far.0
    c.loop-at.line so_far.5 so_far.3 (later_here g c) in
    omega arith

none_left : (g : Over) (c : After-loop-at g) → (k : ℕ) → c.loop-at.at ≤ k → k < length c.args.numbers.now
    → StartsFrom (span_at (g.S.Spanned.spans c.args.spans.now) c.args.numbers.now k) c.loop-at.line
none_left g c k a h = absurd (omega arith)

pub returns-after-loop-at-clause-shown : goal.returns-after-loop-at-clause-shown
returns-after-loop-at-clause-shown g c =
    let so_far = c.loop-at.invariant in
    line_shown (g.S.Spanned.spans c.args.spans.now) c.args.numbers.now c.loop-at.at so_far.1 so_far.0 c.loop-at.line so_far.5
    so_far.3 (none_left g c)

pub returns-after-loop-at-clause-number : goal.returns-after-loop-at-clause-number
returns-after-loop-at-clause-number g c =
    let so_far = c.loop-at.invariant in
    let counted = line_counted (g.S.Spanned.spans c.args.spans.now) c.args.numbers.now c.loop-at.at so_far.1 so_far.0
    c.loop-at.line so_far.5 so_far.3 (none_left g c) in
    omega arith
