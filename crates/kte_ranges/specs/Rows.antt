-- What is true of the rows of every table. This project's own rule.
use Rattle.std.specs.Prelude.{◌≡◌, ℕ, ◌<◌, ◌≤◌, ◌^◌, length, slice_index_or, All, AllPairs, false, IsTrue}
use Rattle.kte_ranges.specs.declared.info.RangeInfo.{RangeInfo}
use Rattle.kte_ranges.specs.Cursors.{Hung, holds_cursor}
use Rattle.kte_ranges.specs.declared.starts.Starts.{Starts}
use Rattle.kte_ranges.specs.Starts.{Rows, AreLed}
use Rattle.kte_ranges.specs.Settling.{settled_info}

-- the numbers rise, so none comes twice
abbrev pub IsRising : Rows → Type 0
IsRising rows = AllPairs (λ x y. x.0 < y.0) rows

-- The rows are in the order of their numbers, which are at least 1 and below the next one, and the
-- index leads to those that start with a cursor
pub record RowsFit (rows : Rows) (next : ℕ) (starts : Starts) : Type 0 where
  pub rising : IsRising rows
  pub numbers : All (λ row. (1 ≤ row.0) × (row.0 < next)) rows
  pub first : 1 ≤ next
  pub bound : next ≤ 2 ^ 63
  pub led : AreLed starts rows

-- the row at place i has the number
pub record IsAt (rows : Rows) (id i : ℕ) : Type 0 where
  pub in_range : i < length rows
  pub has_number : (d : ℕ × RangeInfo) → let row = slice_index_or rows i d in row.0 ≡ id

-- no cursor is held by both
abbrev pub ShareNone : ℕ × RangeInfo → ℕ × RangeInfo → Type 0
ShareNone x y = (n : ℕ) → IsTrue (holds_cursor x.1 n) → holds_cursor y.1 n ≡ false

-- the row after its range settled
abbrev pub settled_row : Hung → ℕ × RangeInfo → ℕ × RangeInfo
settled_row hung row = (row.0, settled_info hung row.1)
