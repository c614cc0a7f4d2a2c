use Rattle.std.proofs.Common.{◌∙◌}
use Rattle.kte_ranges.proofs.Settled.{still_hangs, still_two, still_ready, after}
use Rattle.kte_ranges.proofs.rows.settle_rows.Goals as goal

pub settle-requires-clause-hang : goal.settle-requires-clause-hang
settle-requires-clause-hang g c =
    still_hangs _ _ c.args.rows.now c.loop-row.row-items c.loop-row.row-index c.loop-row.invariant.so_far c.requires.apart c.loop-row-test.true
    c.row-item.result (c.requires.hang _ _ c.loop-row-test.true)

pub settle-requires-clause-two : goal.settle-requires-clause-two
settle-requires-clause-two g c =
    still_two _ _ c.args.rows.now c.loop-row.row-items c.loop-row.row-index c.loop-row.invariant.so_far c.requires.apart c.loop-row-test.true
    c.row-item.result (c.requires.two _ _ c.loop-row-test.true)

pub settle-requires-clause-ready : goal.settle-requires-clause-ready
settle-requires-clause-ready g c =
    still_ready _ _ c.args.rows.now c.loop-row.row-items c.loop-row.row-index c.loop-row.invariant.so_far c.requires.apart c.loop-row-test.true
    c.row-item.result _ _ c.loop-row.invariant.lines (c.requires.ready _ _ c.loop-row-test.true)

pub loop-row-preserved : goal.loop-row-preserved
loop-row-preserved g c = record {
  so_far = after _ _ c.args.rows.now c.loop-row.row-items c.loop-row.row-index c.loop-row.invariant.so_far c.requires.apart c.loop-row-test.true
      c.row-item.result _ c.settle.new.self c.settle.ensures.info c.settle.ensures.cursors c.settle.ensures.others;
  lines = c.settle.ensures.lines ∙ c.loop-row.invariant.lines;
  near = c.settle.ensures.near ∙ c.loop-row.invariant.near;
  rest = c.settle.ensures.rest ∙ c.loop-row.invariant.rest;
}
