-- Words in a line, and where a pattern matches. This project's own rules
use Rattle.std.specs.Prelude.{◌≡◌, ℕ, ◌+◌, ◌-◌, ◌≤◌, Bool, true, false, List, length, take, drop, map, slice_index, nat_lt, nat_le, nat_eq, not, ◌&&◌, ◌||◌, if◌then◌else◌}
use Rattle.std.specs.List.{starts_with}

-- a unit of a word: a digit, a letter A to Z or a to z, `_`, or any unit outside ASCII
abbrev pub is_word_unit : ℕ → Bool
is_word_unit unit =
    (nat_le 48 unit && nat_le unit 57) || (nat_le 65 unit && nat_le unit 90)
    || (nat_le 97 unit && nat_le unit 122) || nat_eq unit 95 || nat_le 128 unit

-- a letter A to Z as a to z; any other unit as it is
abbrev pub fold_case : ℕ → ℕ
fold_case unit = if nat_le 65 unit && nat_le unit 90 then unit + 32 else unit

-- a unit as it is compared: folded where case is ignored
abbrev pub compared : Bool → ℕ → ℕ
compared fold unit = if fold then fold_case unit else unit

-- a word unit stands before the column
abbrev pub has_word_before : List ℕ → ℕ → Bool
has_word_before units column = nat_lt 0 column && is_word_unit (slice_index units (column - 1))

-- a word unit stands at the column
abbrev pub has_word_at : List ℕ → ℕ → Bool
has_word_at units column = nat_lt column (length units) && is_word_unit (slice_index units column)

-- The line has the pattern's units from the column on, compared without case where `fold` holds.
-- Where `whole` holds no word unit stands before the match or after it
pub record MatchesAt (fold whole : Bool) (pattern units : List ℕ) (column : ℕ) : Type 0 where
  pub within : column + length pattern ≤ length units
  pub same : map (compared fold) (take (length pattern) (drop column units)) ≡ map
      (compared fold) pattern
  pub alone : whole ≡ true → (has_word_before units column ≡ false)
      × (has_word_at units (column + length pattern) ≡ false)

-- the same as a test
abbrev pub matches : Bool → Bool → List ℕ → List ℕ → ℕ → Bool
matches fold whole pattern units column =
    nat_le (column + length pattern) (length units)
    && starts_with nat_eq (map (compared fold) (drop column units)) (map (compared fold) pattern)
    && not (whole && (has_word_before units column || has_word_at units (column + length pattern)))
