-- The private lists of the folds, and how far the walks over them have come.
use Rattle.std.specs.Prelude.{◌≡◌, ℕ, ◌+◌, ◌-◌, ◌<◌, ◌≤◌, ◌≢◌, ◌⊎◌, Bool, true, false, ◌||◌, ◌&&◌, List, length, slice_index, Option, None, Some}
use Rattle.kte_place.specs.Ends.{Ends}
use Rattle.kte_place.specs.Place.{is_at_or_before}
use Rattle.kte_fold.specs.Folds.{Spans, visible_before, is_crossed}
use Rattle.kte_fold.specs.Tree.{IsUnder, span_at, LiesIn, Precedes}

-- The lists are an outline: they are of one length, no number stands twice, what is inside a fold
-- is in the list, and so is what is inside that
pub record IsOutline (numbers inside : List ℕ) : Type 0 where
  pub same_length : length inside ≡ length numbers
  pub distinct : (i j : ℕ) → i < j → j < length numbers → slice_index numbers i ≢ slice_index numbers j
  pub fits : (i : ℕ) → i < length numbers → i + slice_index inside i < length numbers
  pub nests : (i j : ℕ) → i < length numbers → IsUnder inside i j → j + slice_index inside j ≤ i + slice_index inside i

-- of a fold at place k, before a place from which a fold goes: how many folds were inside it, and how
-- many are then
pub record Left (at k old new : ℕ) : Type 0 where
  pub holding : at ≤ k + old → new + 1 ≡ old
  pub before : k + old < at → new ≡ old

-- The fold at place k holds a span, and one fold more is counted inside it; what else is inside it
-- goes up to the end of the places at which the span may stand
pub record IsAbove (spans : Spans) (numbers old new : List ℕ) (s : Ends) (end k : ℕ) : Type 0 where
  pub counted : slice_index new k ≡ slice_index old k + 1
  pub reaches : end ≤ k + slice_index old k + 1
  pub holds : LiesIn (Some s) (span_at spans numbers k)

-- the fold at place k and what is inside it precede a span
pub record IsPast (spans : Spans) (numbers old new : List ℕ) (s : Ends) (at k : ℕ) : Type 0 where
  pub kept : slice_index new k ≡ slice_index old k
  pub ends : k + slice_index old k < at
  pub precedes : Precedes (span_at spans numbers k) (Some s)
  pub kept_inside : (j : ℕ) → IsUnder old k j → slice_index new j ≡ slice_index old j

-- A walk has come to a place in the search for that of a span: each fold before holds the span or
-- precedes it, and those from the end of the innermost one that holds it on follow the span
pub record Descended (spans : Spans) (numbers old new : List ℕ) (s : Ends) (at end : ℕ) : Type 0 where
  pub same_length : length new ≡ length old
  pub ordered : at ≤ end
  pub bounded : end ≤ length numbers
  pub passed : (k : ℕ) → k < at → IsAbove spans numbers old new s end k ⊎ IsPast spans numbers old new s at k
  pub kept : (k : ℕ) → at ≤ k → slice_index new k ≡ slice_index old k
  pub level : (k : ℕ) → at ≤ k → k < end → k + slice_index old k < end
  pub beyond : (k : ℕ) → end ≤ k → k < length numbers → Precedes (Some s) (span_at spans numbers k)

-- each of the folds from a place to an end lies in the span or follows it
abbrev pub AreApart : Spans → List ℕ → Ends → ℕ → ℕ → Type 0
AreApart spans numbers s at end =
    (k : ℕ) → at ≤ k → k < end
    → LiesIn (span_at spans numbers k) (Some s) ⊎ Precedes (Some s) (span_at spans numbers k)

-- The folds from a place on, up to the next, lie in the span, with all that is inside them
abbrev pub LieInside : Spans → List ℕ → List ℕ → Ends → ℕ → ℕ → Type 0
LieInside spans numbers inside s at next =
    (k : ℕ) → at ≤ k → k < next
    → (k + slice_index inside k < next) × LiesIn (span_at spans numbers k) (Some s)

-- those from a place on, up to an end, follow it
abbrev pub Follow : Spans → List ℕ → Ends → ℕ → ℕ → Type 0
Follow spans numbers s next end =
    (k : ℕ) → next ≤ k → k < end → Precedes (Some s) (span_at spans numbers k)

-- the fold ends on an earlier line, if it is valid
abbrev pub EndsBefore : Option Ends → ℕ → Type 0
EndsBefore None line = Unit {0}
EndsBefore (Some s) line = s.end.line < line

-- the fold hides nothing up to a line, if it is valid
abbrev pub StartsFrom : Option Ends → ℕ → Type 0
StartsFrom None line = Unit {0}
StartsFrom (Some s) line = line ≤ s.start.line

-- A walk over the outermost folds has come to a place: of the first so many lines, which the folds
-- before the place end in and the others hide none of, this many are hidden
pub record Counted (spans : Spans) (numbers : List ℕ) (at hidden below : ℕ) : Type 0 where
  pub counted : visible_before spans numbers below + hidden ≡ below
  pub past : (k : ℕ) → k < at → EndsBefore (span_at spans numbers k) below
  pub later : (k : ℕ) → at ≤ k → k < length numbers → StartsFrom (span_at spans numbers k) (below - 1)

-- no fold with a place below a bound crosses the span
abbrev pub NoneCross : Spans → List ℕ → Ends → ℕ → Type 0
NoneCross spans numbers s bound = (k : ℕ) → k < bound → is_crossed (span_at spans numbers k) s ≡ false

-- the number is the least of the folds with places below a bound that cross the span
pub record IsLeast (spans : Spans) (numbers : List ℕ) (s : Ends) (bound id : ℕ) : Type 0 where
  pub place : ℕ
  pub bounded : place < bound
  pub is_number : slice_index numbers place ≡ id
  pub is_crossing : is_crossed (span_at spans numbers place) s ≡ true
  pub least : (k : ℕ) → k < bound → is_crossed (span_at spans numbers k) s ≡ true → id ≤ slice_index numbers k

-- no fold inside a fold that is clear of a span crosses it: the fold is invalid, lies in the span, or
-- has no part of it
abbrev pub is_clear : Option Ends → Ends → Bool
is_clear None s = true
is_clear (Some a) s =
    is_at_or_before a.end s.start || is_at_or_before s.end a.start
    || (is_at_or_before s.start a.start && is_at_or_before a.end s.end)

-- the part of the outline that begins at a place nests, and the spans keep it
pub record KeepsTreeFrom (spans : Spans) (numbers inside : List ℕ) (from : ℕ) : Type 0 where
  pub nests : (i j : ℕ) → from ≤ i → i < length numbers → IsUnder inside i j
      → j + slice_index inside j ≤ i + slice_index inside i
  pub nested : (i j : ℕ) → from ≤ i → j < length numbers → IsUnder inside i j
      → LiesIn (span_at spans numbers j) (span_at spans numbers i)
  pub apart : (i j : ℕ) → from ≤ i → j < length numbers → i + slice_index inside i < j
      → Precedes (span_at spans numbers i) (span_at spans numbers j)
