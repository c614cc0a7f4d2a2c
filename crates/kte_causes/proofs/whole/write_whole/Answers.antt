use Rattle.std.proofs.Common.{arith, ◌∙◌, length-take, length-drop}
use Rattle.kte_causes.proofs.Parts.{Appends-next}
use Rattle.kte_causes.proofs.whole.write_whole.Goals as goal

pub loop-written-preserved : goal.loop-written-preserved
loop-written-preserved g c =
    let loop = c.loop-written.invariant in
    let call = c.in_ok-written.ensures in
    record {
      within = omega (arith, loop.within, simp (length-take, length-drop) at call.within);
      bytes = Appends-next _ _ _ _ _ _ loop.within loop.bytes call.bytes;
      calm = call.counts.calm ∙ loop.calm;
    }
