use Rattle.std.proofs.Common.{length, ◌-◌, ◌≤◌}
use Rattle.kte_fold.proofs.LeastLemmas.{Found}
use Rattle.kte_fold.proofs.walk.least_crossed.Given as goal

-- the least of the folds so far that cross the span
abbrev pub invariant-loop-at : goal.invariant-loop-at
invariant-loop-at g l = record {
  bounded : l.at ≤ length l.numbers;
  found : Found (g.S.Spanned.spans l.spans) l.span l.numbers l.at l.least;
}

abbrev pub decreases-loop-at : goal.decreases-loop-at
decreases-loop-at g l = length l.numbers - l.at
