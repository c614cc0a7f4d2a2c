-- What is found in one line, from a column up to another. This project's own rules
use Rattle.std.specs.Prelude.{◌≡◌, ℕ, ◌+◌, ◌-◌, ◌<◌, ◌≤◌, Bool, true, false, ◌==◌, ◌&&◌, ◌||◌, nat_lt, List, length, slice_index, slice_range}
use Rattle.kte_text.specs.Words.{is_word_unit, has_word_before, has_word_at, MatchesAt}

-- each unit from a column up to another passes the test
abbrev pub EachUnit : (ℕ → Bool) → List ℕ → ℕ → ℕ → Type 0
EachUnit test units from to =
    (n : ℕ) → from ≤ n → n < to → test (slice_index units n) ≡ true

-- a space or a tab
abbrev pub is_blank : ℕ → Bool
is_blank unit = unit == 32 || unit == 9

-- a space or a tab stands before the column
abbrev pub has_blank_before : List ℕ → ℕ → Bool
has_blank_before units column = nat_lt 0 column && is_blank (slice_index units (column - 1))

-- the word stands at the start by itself
pub record IsPlaceOf (word units : List ℕ) (start end : ℕ) : Type 0 where
  pub found : MatchesAt false true word units start
  pub whole : end ≡ start + length word

-- the spaces and tabs in which the line ends, all of them
pub record IsBlankEnd (units : List ℕ) (start end : ℕ) : Type 0 where
  pub some : start < end
  pub whole : end ≡ length units
  pub blank : EachUnit is_blank units start end
  pub first : has_blank_before units start ≡ false

-- what the line has beyond the limit
pub record IsBeyond (limit : ℕ) (units : List ℕ) (start end : ℕ) : Type 0 where
  pub some : start < end
  pub whole : end ≡ length units
  pub first : start ≡ limit

-- a word of the line: word units, and none before or after them
pub record IsWord (units : List ℕ) (start end : ℕ) : Type 0 where
  pub some : start < end
  pub within : end ≤ length units
  pub word : EachUnit is_word_unit units start end
  pub first : has_word_before units start ≡ false
  pub last : has_word_at units end ≡ false

-- a word that equals one before it, with only spaces and tabs between them
pub record IsRepeated (units : List ℕ) (start end : ℕ) : Type 0 where
  pub word : IsWord units start end
  pub other_start : ℕ
  pub other_end : ℕ
  pub other : IsWord units other_start other_end
  pub before : other_end ≤ start
  pub between : EachUnit is_blank units other_end start
  pub same : slice_range units start end ≡ slice_range units other_start other_end
