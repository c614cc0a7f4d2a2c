use Rattle.kte_fold.specs.Examples.{three_spans}
use Rattle.kte_fold.specs.Tree.{KeepsTree}
use Rattle.kte_fold.proofs.tests.a_fold_of_removed_text_hides_nothing_and_can_be_removed.Given as goal

-- the ranges keep the tree of the folds that are left
abbrev pub invariant-loop-id : goal.invariant-loop-id
invariant-loop-id g l =
    KeepsTree (three_spans l.ranges.one l.ranges.two l.ranges.three) l.folds.numbers l.folds.inside
