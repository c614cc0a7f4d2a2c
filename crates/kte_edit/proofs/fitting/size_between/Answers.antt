use Rattle.std.proofs.Common.{◌≡◌, length, arith, ap, None, [], ◌∷◌}
use Rattle.kte_place.specs.Ends.{Ends}
use Rattle.kte_edit.specs.Steps.{misplaced_among}
use Rattle.kte_edit.proofs.WalkLemmas.{counted_is_small, counted_next, counted_whole}
use Rattle.kte_edit.proofs.ChangeLemmas.{in_order}
use Rattle.kte_edit.proofs.fitting.size_between.Goals as goal

pub overflow_add-size-in-loop-line : goal.overflow_add-size-in-loop-line
overflow_add-size-in-loop-line g c =
    let T = g.L.Lines.text c.args.lines.now in
    let span : Ends = record { start = c.span.inside.start; end = c.span.inside.end } in
    let none : misplaced_among (span.start ∷ span.end ∷ []) T ≡ None = rw (← c.span.view_is) at c.requires.inside in
    let small = counted_is_small T span c.loop-line.line c.loop-line.size (length c.line_hinted.result.now) c.requires.is_text none
    c.loop-line-test.true c.loop-line.invariant (ap length c.line_hinted.ensures) in
    omega arith

pub loop-line-preserved : goal.loop-line-preserved
loop-line-preserved g c =
    let T = g.L.Lines.text c.args.lines.now in
    let span : Ends = record { start = c.span.inside.start; end = c.span.inside.end } in
    let none : misplaced_among (span.start ∷ span.end ∷ []) T ≡ None = rw (← c.span.view_is) at c.requires.inside in
    counted_next T span c.loop-line.line c.loop-line.size (length c.line_hinted.result.now) none
    c.loop-line-test.true c.loop-line.invariant (ap length c.line_hinted.ensures)

pub overflow_sub-result : goal.overflow_sub-result
overflow_sub-result g c =
    let T = g.L.Lines.text c.args.lines.now in
    let span : Ends = record { start = c.span.inside.start; end = c.span.inside.end } in
    let none : misplaced_among (span.start ∷ span.end ∷ []) T ≡ None = rw (← c.span.view_is) at c.requires.inside in
    let lines = (in_order span c.span.invariant).lines in
    (counted_whole T span c.loop-line.line c.loop-line.size c.span.invariant none (omega arith) c.loop-line.invariant).enough

pub returns : goal.returns
returns g c =
    let T = g.L.Lines.text c.args.lines.now in
    let span : Ends = record { start = c.span.inside.start; end = c.span.inside.end } in
    let none : misplaced_among (span.start ∷ span.end ∷ []) T ≡ None = rw (← c.span.view_is) at c.requires.inside in
    let lines = (in_order span c.span.invariant).lines in
    rw (← c.span.view_is)
    (counted_whole T span c.loop-line.line c.loop-line.size c.span.invariant none (omega arith) c.loop-line.invariant).whole
