-- Brackets, and which of them make a pair. This project's own rule, by the grammar of balanced
-- texts.
use Rattle.std.specs.Prelude.{◌≡◌, ℕ, ◌+◌, Bool, true, false, ◌==◌, ◌&&◌, ◌||◌, List, [], ◌∷◌, ◌++◌, Contains}
use Rattle.kte_place.specs.declared.place.Place.{Place}
use Rattle.kte_place.specs.Place.{at}

-- a unit of a text with its place
pub record Placed : Type 0 where
  pub place : Place
  pub unit : ℕ

-- the units of a line from a column on
abbrev pub placed_on : ℕ → ℕ → List ℕ → List Placed
placed_on line column [] = []
placed_on line column (unit ∷ units) =
    (record { place = at line column; unit = unit }) ∷ placed_on line (column + 1) units

-- the units of these lines, the first of which has this number
abbrev pub placed_from : ℕ → List (List ℕ) → List Placed
placed_from line [] = []
placed_from line (units ∷ lines) = placed_on line 0 units ++ placed_from (line + 1) lines

-- the units of a text, all lines one after another
abbrev pub placed : List (List ℕ) → List Placed
placed text = placed_from 0 text

-- `(`, `[` or `{`
abbrev pub is_opening : ℕ → Bool
is_opening unit = unit == 40 || unit == 91 || unit == 123

-- `)`, `]` or `}`
abbrev pub is_closing : ℕ → Bool
is_closing unit = unit == 41 || unit == 93 || unit == 125

-- any of the six
abbrev pub is_bracket : ℕ → Bool
is_bracket unit = is_opening unit || is_closing unit

-- `(` and `)`, `[` and `]`, or `{` and `}`
abbrev pub closes : ℕ → ℕ → Bool
closes opening closing =
    (opening == 40 && closing == 41) || (opening == 91 && closing == 93)
    || (opening == 123 && closing == 125)

-- A balanced text: an empty one; a unit that is no bracket, and a balanced text; or an opening
-- bracket, a balanced text, the closing bracket of its kind, and a balanced text
pub data Balanced : List Placed → Type 0 where
  empty : Balanced []
  plain : (unit : Placed) (rest : List Placed)
      → is_bracket unit.unit ≡ false → Balanced rest → Balanced (unit ∷ rest)
  nested : (opening closing : Placed) (inside rest : List Placed)
      → closes opening.unit closing.unit ≡ true → Balanced inside → Balanced rest
      → Balanced (opening ∷ inside ++ closing ∷ rest)

-- two brackets of one kind, in their order, with a balanced text between them
pub record ArePair (text : List Placed) (opening closing : Placed) : Type 0 where
  pub before : List Placed
  pub inside : List Placed
  pub after : List Placed
  pub whole : text ≡ before ++ opening ∷ inside ++ closing ∷ after
  pub kind : closes opening.unit closing.unit ≡ true
  pub balanced : Balanced inside

-- a bracket of the text that is in no pair
pub record IsLone (text : List Placed) (bracket : Placed) : Type 0 where
  pub there : Contains text bracket
  pub kind : is_bracket bracket.unit ≡ true
  pub unclosed : (closing : Placed) → ¬ (ArePair text bracket closing)
  pub unopened : (opening : Placed) → ¬ (ArePair text opening bracket)
