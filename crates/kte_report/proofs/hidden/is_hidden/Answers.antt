use Rattle.std.proofs.Common.{◌∙◌}
use Rattle.kte_core.specs.Replay.{present}
use Rattle.kte_core.proofs.FoldMapLemmas.{tree_shown}
use Rattle.kte_report.proofs.HiddenLemmas.{hidden_alike}
use Rattle.kte_report.proofs.hidden.is_hidden.Goals as goal

pub hidden-requires : goal.hidden-requires
hidden-requires c =
    tree_shown (present c.args.core.now) c.doc.result.now c.folds.result.now c.doc.ensures c.folds.ensures.tree

pub returns : goal.returns
returns c =
    c.hidden.ensures
    ∙ hidden_alike (present c.args.core.now) c.doc.result.now c.folds.result.now c.doc.ensures c.folds.ensures.numbers c.args.line
