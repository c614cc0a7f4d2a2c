-- Sums over lists, by which the rule says that something is there once. This project's own.
use Rattle.std.specs.Prelude.{ℕ, ◌+◌, ◌==◌, cond, nat_lt, List, [], ◌∷◌}

abbrev pub total : {A : Type 0} → (A → ℕ) → List A → ℕ
total f [] = 0
total f (x ∷ xs) = f x + total f xs

-- how often n stands in the list
abbrev pub times : ℕ → List ℕ → ℕ
times n [] = 0
times n (x ∷ xs) = cond (x == n) 1 0 + times n xs

-- 1 for each number below the limit
abbrev pub once_below : ℕ → ℕ → ℕ
once_below n limit = cond (nat_lt n limit) 1 0
