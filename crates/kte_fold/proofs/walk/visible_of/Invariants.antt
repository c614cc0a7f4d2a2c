use Rattle.std.proofs.Common.{ℕ, ◌-◌, ◌≤◌, length}
use Rattle.kte_fold.specs.Inside.{Counted}
use Rattle.kte_fold.proofs.walk.visible_of.Given as goal

-- the folds so far end before the line, and hide so many lines before it
abbrev pub invariant-loop-at : goal.invariant-loop-at
invariant-loop-at g l =
    (below : ℕ) × (below ≤ l.line) × Counted (g.S.Spanned.spans l.spans) l.numbers l.at l.hidden below

abbrev pub decreases-loop-at : goal.decreases-loop-at
decreases-loop-at g l = length l.numbers - l.at
