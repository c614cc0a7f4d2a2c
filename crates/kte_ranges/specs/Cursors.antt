-- The cursors of the ranges of a table. This project's own rule.
use Rattle.std.specs.Prelude.{◌≡◌, ◌≢◌, ℕ, ◌≤◌, Bool, false, ◌==◌, ◌||◌, IsTrue, IsSome, Option, None, Some}
use Rattle.std.specs.Ordering.{nat_cmp}
use Rattle.std.specs.FinMap.{FinMap, get}
use Rattle.kte_place.specs.declared.place.Place.{Place}
use Rattle.kte_place.specs.declared.place.TheConstants.{MAX_COLUMN}
use Rattle.kte_place.specs.Ends.{Ends}
use Rattle.kte_place.specs.Place.{is_before}
use Rattle.kte_place.specs.Span.{ends}
use Rattle.kte_place.specs.Cursors.{Hanging, place_of}
use Rattle.kte_ranges.specs.declared.info.RangeInfo.{RangeInfo}
use Rattle.kte_ranges.specs.Table.{Ranges, AllInfos}

-- the cursors that hang, by their numbers
abbrev pub Hung : Type 0
Hung = FinMap nat_cmp Hanging

-- a cursor's number is one of the two, if there are two
abbrev pub is_among : Option (ℕ × ℕ) → ℕ → Bool
is_among None n = false
is_among (Some c) n = n == c.0 || n == c.1

-- the range holds the cursor of this number
abbrev pub holds_cursor : RangeInfo → ℕ → Bool
holds_cursor info n = is_among info.cursors n

-- no range holds the cursor of this number
abbrev pub IsFree : Ranges → ℕ → Type 0
IsFree ranges n = AllInfos (λ info. holds_cursor info n ≡ false) ranges

-- the range's cursors hang
abbrev pub Hangs : Hung → RangeInfo → Type 0
Hangs hung info = (n : ℕ) → IsTrue (holds_cursor info n) → IsSome (get hung n)

-- the cursors of every range hang
abbrev pub CursorsHang : Hung → Ranges → Type 0
CursorsHang hung ranges = AllInfos (Hangs hung) ranges

-- the range's two cursors differ
abbrev pub HoldsTwo : RangeInfo → Type 0
HoldsTwo info = (c : ℕ × ℕ) → info.cursors ≡ Some c → c.0 ≢ c.1

-- a range's two cursors differ, and no cursor is held by two ranges
pub record CursorsApart (ranges : Ranges) : Type 0 where
  pub own : AllInfos HoldsTwo ranges
  pub others : (i j n : ℕ) (x y : RangeInfo) → get ranges i ≡ Some x → get ranges j ≡ Some y
      → IsTrue (holds_cursor x n) → IsTrue (holds_cursor y n) → i ≡ j

-- the ends at two places, if both are there
abbrev pub both_ends : Option Place → Option Place → Option Ends
both_ends None end = None
both_ends (Some start) None = None
both_ends (Some start) (Some end) = Some (ends start end)

-- the places of two cursors
abbrev pub ends_at : Hung → Option (ℕ × ℕ) → Option Ends
ends_at hung None = None
ends_at hung (Some c) = both_ends (place_of (get hung c.0)) (place_of (get hung c.1))

-- where a range stands: at the places of its cursors. An invalid range stands nowhere
abbrev pub span_of : Hung → RangeInfo → Option Ends
span_of hung info = ends_at hung info.cursors

-- a cursor can be moved to the range's start, if its end stands before it
abbrev pub StartIsReady : Hung → (ℕ → Bool) → RangeInfo → Type 0
StartIsReady hung ready info =
    (s : Ends) → span_of hung info ≡ Some s → IsTrue (is_before s.end s.start)
    → IsTrue (ready s.start.line) × (s.start.column ≤ MAX_COLUMN)

-- a cursor can be moved to the start of each range whose end stands before it
abbrev pub StartsAreReady : Hung → (ℕ → Bool) → Ranges → Type 0
StartsAreReady hung ready ranges = AllInfos (StartIsReady hung ready) ranges
