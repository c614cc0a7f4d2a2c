use Rattle.std.proofs.Common.{ap, sym, ◌∙◌, arith}
use Rattle.std.specs.List.{slice_index}
use Rattle.kte_ranges.proofs.NearLemmas.{near_hangs, near_two, near_ready, next_settled, none_settled_near, all_rows, all_follow}
use Rattle.kte_ranges.proofs.rows.settle_near.Goals.{in-Some, in_default}
use Rattle.kte_ranges.proofs.rows.settle_near.Goals as goal

pub settle-requires-clause-hang : goal.settle-requires-clause-hang
settle-requires-clause-hang g c =
    let so_far = c.loop-n.invariant.so_far in
    near_hangs _ _ c.args.rows.now c.loop-n.rows _ c.loop-n.n so_far c.requires.apart c.requires.hang c.in-Some.i c.index-rows-i.result
    (rw so_far.len at c.in-Some.ensures.found)

pub settle-requires-clause-two : goal.settle-requires-clause-two
settle-requires-clause-two g c =
    let so_far = c.loop-n.invariant.so_far in
    let inside = rw so_far.len at c.in-Some.ensures.found in
    near_two _ _ c.args.rows.now c.loop-n.rows _ c.loop-n.n so_far c.requires.apart c.requires.hang c.in-Some.i c.index-rows-i.result inside
    (c.requires.two c.in-Some.i c.index-rows-i.result inside)

pub settle-requires-clause-ready : goal.settle-requires-clause-ready
settle-requires-clause-ready g c =
    let so_far = c.loop-n.invariant.so_far in
    let inside = rw so_far.len at c.in-Some.ensures.found in
    near_ready _ _ c.args.rows.now c.loop-n.rows _ c.loop-n.n so_far c.requires.apart c.requires.hang c.in-Some.i c.index-rows-i.result inside
    _ _ c.loop-n.invariant.lines (c.requires.ready c.in-Some.i c.index-rows-i.result inside)

pub loop-n-preserved : goal.loop-n-preserved
loop-n-preserved g c =
    let so_far = c.loop-n.invariant.so_far in
    let at = ap (λ near. slice_index near c.loop-n.n) (sym c.loop-n.invariant.near) ∙ sym c.near_at-start.ensures in
    elim c.match-find.branch [
      | in-Some w ↦
          let inside = rw so_far.len at w.in-Some.ensures.found in
          record {
            so_far = rw (w.rows-is, w.cursors-is, w.settle.ensures.info)
                (next_settled _ _ c.args.rows.now c.loop-n.rows _ c.loop-n.n so_far c.requires.apart c.requires.hang w.in-Some.i w.index-rows-i.result inside
                _ c.near_at-start.result (w.in-Some.ensures.starts w.index-rows-i.result) w.settle.ensures.cursors w.settle.ensures.others at);
            lines = ap (λ cursors. g.C.Cursors.ready cursors) w.cursors-is ∙ w.settle.ensures.lines ∙ c.loop-n.invariant.lines;
            near = ap (λ cursors. g.C.Cursors.near cursors) w.cursors-is ∙ w.settle.ensures.near ∙ c.loop-n.invariant.near;
            rest = ap (λ cursors. g.C.Cursors.rest cursors) w.cursors-is ∙ w.settle.ensures.rest ∙ c.loop-n.invariant.rest;
          }
      | in_default w ↦ record {
        so_far = rw (w.rows-is, w.cursors-is)
            (none_settled_near _ _ c.args.rows.now c.loop-n.rows _ c.loop-n.n c.near_at-start.result so_far at (rw w.in_default.is at c.find.ensures.absent));
        lines = ap (λ cursors. g.C.Cursors.ready cursors) w.cursors-is ∙ c.loop-n.invariant.lines;
        near = ap (λ cursors. g.C.Cursors.near cursors) w.cursors-is ∙ c.loop-n.invariant.near;
        rest = ap (λ cursors. g.C.Cursors.rest cursors) w.cursors-is ∙ c.loop-n.invariant.rest;
      }
    ]

pub returns-clause-rows : goal.returns-clause-rows
returns-clause-rows g c =
    let ends = c.near_len-n-end.ensures in
    let at = c.loop-n.auto.n-end in
    all_rows _ _ c.args.rows.now c.loop-n.rows _ c.loop-n.n c.loop-n.invariant.so_far (omega (arith, ends, at, c.loop-n-test.false)) c.requires.hang c.requires.others

pub returns-clause-cursors : goal.returns-clause-cursors
returns-clause-cursors g c =
    let ends = c.near_len-n-end.ensures in
    let at = c.loop-n.auto.n-end in
    all_follow _ _ c.args.rows.now c.loop-n.rows _ c.loop-n.n c.loop-n.invariant.so_far (omega (arith, ends, at, c.loop-n-test.false)) c.requires.hang c.requires.others
