use Rattle.std.proofs.Common.{arith}
use Rattle.kte_run.proofs.SmallLemmas.{lines-more}
use Rattle.kte_run.proofs.alone.inserts_lines.Goals as goal

pub loop-n-preserved : goal.loop-n-preserved
loop-n-preserved c = lines-more c.args.made.now c.loop-n.n c.get.result.now c.loop-n.invariant c.get.ensures c.is_empty-is_empty.ensures.has_line

pub returns : goal.returns
returns c = λ k d within. c.loop-n.invariant k d (omega (arith, c.loop-n-test.false, c.len-n-end.ensures, within))
