use Rattle.std.proofs.Common.{arith}
use Rattle.kte_fold.proofs.ListLemmas.{not_fold}
use Rattle.kte_fold.proofs.outline.position.Goals as goal

pub returns-clause-absent : goal.returns-clause-absent
returns-clause-absent c = not_fold c.args.numbers.now c.args.id (λ k l. c.loop-at.invariant k (omega arith))
