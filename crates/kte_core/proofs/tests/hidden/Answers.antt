use Rattle.kte_core.specs.Replay.{present}
use Rattle.kte_core.proofs.FoldMapLemmas.{tree_shown}
use Rattle.kte_core.proofs.tests.hidden.Goals as goal

pub hidden-requires : goal.hidden-requires
hidden-requires c =
    tree_shown (present c.args.core.now) c.doc-in-loop-line.result.now c.folds.result.now c.doc-in-loop-line.ensures c.folds.ensures.tree
