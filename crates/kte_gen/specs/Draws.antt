-- The numbers that a generator of scripts draws. This project's own
use Rattle.std.specs.Prelude.{ℕ, suc, zero, ◌+◌, ◌*◌, ◌/◌, ◌%◌, ◌^◌, List, [], ◌∷◌, ◌++◌}

-- the state after one more draw
unfoldable pub next : ℕ → ℕ
next x = (x * 6364136223846793005 + 1442695040888963407) % 2 ^ 64

-- what a draw below m gives; x is the state after it
unfoldable pub drawn : ℕ → ℕ → ℕ
drawn m x = x / 2 ^ 33 % m

-- the state after as many draws
abbrev pub skip : ℕ → ℕ → ℕ
skip zero x = x
skip (suc count) x = next (skip count x)

-- letters from `a` to `z`, one draw each
abbrev pub letters : ℕ → ℕ → List ℕ
letters zero x = []
letters (suc count) x = letters count x ++ (97 + drawn 26 (skip (suc count) x)) ∷ []
