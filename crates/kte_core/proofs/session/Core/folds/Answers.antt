use Rattle.kte_core.specs.Inside.{session_of}
use Rattle.kte_core.specs.Replay.{present}
use Rattle.kte_core.proofs.FoldMapLemmas.{folds_alike, tree_now}
use Rattle.kte_core.proofs.session.Core.folds.Goals as goal

pub returns-clause-numbers : goal.returns-clause-numbers
returns-clause-numbers c =
    rw (← c.self.view_is)
    (folds_alike (present (session_of c.self.inside)) c.self.inside.present.doc c.self.inside.present.folds
    c.self.invariant.shows.document c.self.invariant.shows.folds)

pub returns-clause-tree : goal.returns-clause-tree
returns-clause-tree c =
    rw (← c.self.view_is)
    (tree_now (present (session_of c.self.inside)) c.self.inside.present.doc c.self.inside.present.folds
    c.self.invariant.shows.document c.self.invariant.shows.folds)
