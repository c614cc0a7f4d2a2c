use Rattle.std.proofs.Common.{ℕ, ◌+◌, ◌-◌, ◌^◌, ◌≡◌, ◌≤◌, length}
use Rattle.kte_fold.specs.Inside.{Counted}
use Rattle.kte_fold.proofs.walk.nth_visible.Given as goal

-- the folds so far end before the line, and hide the lines by which it was moved on
abbrev pub invariant-loop-at : goal.invariant-loop-at
invariant-loop-at g l =
    (below : ℕ) × (hidden : ℕ) × (l.line ≡ l.visible + hidden) × (below ≤ l.line) × (below ≤ 2 ^ 32)
    × Counted (g.S.Spanned.spans l.spans) l.numbers l.at hidden below

abbrev pub decreases-loop-at : goal.decreases-loop-at
decreases-loop-at g l = length l.numbers - l.at
