-- The tree of the folds, each inside the one that holds it, as an outline: the numbers in the order
-- in which an outline lists them, each before those inside it, and how many are inside each. This
-- project's own rule.
use Rattle.std.specs.Prelude.{ℕ, ◌+◌, ◌<◌, ◌≤◌, List, length, slice_index, Option, None, Some, IsTrue}
use Rattle.std.specs.FinMap.{get}
use Rattle.kte_place.specs.Ends.{Ends}
use Rattle.kte_place.specs.Place.{is_at_or_before}
use Rattle.kte_fold.specs.Folds.{Spans}

-- what contracts see: the numbers, how many folds are inside each, and how many more folds can be
-- added without memory
pub record Outline : Type 0 where
  pub numbers : List ℕ
  pub inside : List ℕ
  pub room : ℕ

-- the fold at place j is inside the one at place i, at whatever depth
abbrev pub IsUnder : List ℕ → ℕ → ℕ → Type 0
IsUnder inside i j = (i < j) × (j ≤ i + slice_index inside i)

-- the span of the fold at place k, if it is valid
abbrev pub span_at : Spans → List ℕ → ℕ → Option Ends
span_at spans numbers k = get spans (slice_index numbers k)

-- a valid fold lies inside another, and that one is valid too
abbrev pub LiesIn : Option Ends → Option Ends → Type 0
LiesIn None outer = Unit {0}
LiesIn (Some s) None = ⊥
LiesIn (Some s) (Some t) = IsTrue (is_at_or_before t.start s.start) × IsTrue (is_at_or_before s.end t.end)

-- of two valid folds the first ends at or before the start of the second
abbrev pub Precedes : Option Ends → Option Ends → Type 0
Precedes None later = Unit {0}
Precedes (Some s) None = Unit {0}
Precedes (Some s) (Some t) = IsTrue (is_at_or_before s.end t.start)

-- The spans keep the tree of these numbers, with so many folds inside each: a valid fold lies inside
-- each fold that it is inside of, which is valid too; and of two valid folds, neither inside the
-- other, the earlier one ends at or before the start of the later one
pub record KeepsTree (spans : Spans) (numbers inside : List ℕ) : Type 0 where
  pub nested : (i j : ℕ) → j < length numbers → IsUnder inside i j
      → LiesIn (span_at spans numbers j) (span_at spans numbers i)
  pub apart : (i j : ℕ) → j < length numbers → i + slice_index inside i < j
      → Precedes (span_at spans numbers i) (span_at spans numbers j)
