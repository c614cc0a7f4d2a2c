-- A text for the worked examples.
use Rattle.std.specs.Prelude.{ℕ, List, [], ◌∷◌}

-- the lines `abc` and `de`
abbrev pub abc_de : List (List ℕ)
abc_de = (97 ∷ 98 ∷ 99 ∷ []) ∷ (100 ∷ 101 ∷ []) ∷ []
