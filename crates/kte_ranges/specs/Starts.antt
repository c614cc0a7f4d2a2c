-- The index from cursors to the ranges that start with them. This project's own rule.
use Rattle.std.specs.Prelude.{◌≡◌, ℕ, ◌<◌, ◌==◌, ◌⊎◌, Bool, false, List, length, slice_index, All, Contains, Option, None, Some}
use Rattle.kte_ranges.specs.declared.info.RangeInfo.{RangeInfo}
use Rattle.kte_ranges.specs.declared.starts.Starts.{Starts}
use Rattle.kte_ranges.specs.Cursors.{Hung, span_of}
use Rattle.kte_ranges.specs.Settling.{settled_span}

-- ranges, each with its number
abbrev pub Rows : Type 0
Rows = List (ℕ × RangeInfo)

-- the first of two cursors, if there are two, has this number
abbrev pub is_first : Option (ℕ × ℕ) → ℕ → Bool
is_first None n = false
is_first (Some c) n = c.0 == n

-- the range starts with the cursor of this number
abbrev pub starts_with : RangeInfo → ℕ → Bool
starts_with info n = is_first info.cursors n

-- the index leads from the first of these cursors, if there are two, to the number
pub record StartsAt (ids : List ℕ) (id : ℕ) (cursors : Option (ℕ × ℕ)) : Type 0 where
  pub inside : (c : ℕ × ℕ) → cursors ≡ Some c → c.0 < length ids
  pub leads : (c : ℕ × ℕ) → cursors ≡ Some c → slice_index ids c.0 ≡ id

-- the index leads from the row's start to its number
abbrev pub LeadTo : List ℕ → ℕ × RangeInfo → Type 0
LeadTo ids row = StartsAt ids row.0 row.1.cursors

-- .. and to that of each row, unless it says that it may not
abbrev pub AreLed : Starts → Rows → Type 0
AreLed starts rows = starts.far ≡ false → All (LeadTo starts.ids.items) rows

-- the range is invalid, or starts with a cursor of the list, or is settled where it stands
abbrev pub IsNearOrSettled : Hung → List ℕ → RangeInfo → Type 0
IsNearOrSettled hung near info =
    (c : ℕ × ℕ) → info.cursors ≡ Some c
    → Contains near c.0 ⊎ (settled_span hung info ≡ span_of hung info)
