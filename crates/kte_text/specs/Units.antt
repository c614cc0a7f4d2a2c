-- What a line of text may hold.
use Rattle.std.specs.Prelude.{◌≡◌, ◌≢◌, ℕ, ◌-◌, ◌^◌, ◌<◌, ◌≤◌, Bool, false, List, length, slice_index, All, nat_lt, ◌==◌, ◌&&◌, ◌||◌, encode_utf8_all}
use Rattle.std.specs.Char.Utf16.{has_unpaired_surrogate, is_high_surrogate, is_low_surrogate, utf16_lossy_chars}

-- a unit of UTF-16 that ends no line: a line end, LF or CR, is never part of a line
abbrev pub IsLineUnit : ℕ → Type 0
IsLineUnit unit = (unit < 2 ^ 16) × (unit ≢ 10) × (unit ≢ 13)

-- a printable character of ASCII
abbrev pub IsPrintable : ℕ → Type 0
IsPrintable unit = (32 ≤ unit) × (unit ≤ 126)

-- A line: units of UTF-16, each surrogate paired, and no line end. Source: KTextEditor's Document,
-- whose columns count units of UTF-16
pub record IsLine (units : List ℕ) : Type 0 where
  pub plain : All IsLineUnit units
  pub paired : has_unpaired_surrogate units ≡ false

-- a byte of UTF-8 or a unit of UTF-16 that ends a line: LF or CR
abbrev pub is_line_end : ℕ → Bool
is_line_end unit = unit == 10 || unit == 13

-- the bytes of a line in UTF-8. Source: UTF-8, UTF-16
abbrev pub utf8_of : List ℕ → List ℕ
utf8_of units = encode_utf8_all (utf16_lossy_chars units)

-- the column stands between the two units of a pair (UTF-16)
abbrev pub splits_pair : List ℕ → ℕ → Bool
splits_pair units column =
    nat_lt 0 column && is_high_surrogate (slice_index units (column - 1))
    && is_low_surrogate (slice_index units column)

-- the line may be cut at this column: it is there, and splits no pair
pub record IsBoundary (units : List ℕ) (column : ℕ) : Type 0 where
  pub within : column ≤ length units
  pub whole : splits_pair units column ≡ false
