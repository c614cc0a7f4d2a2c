-- The lines of a text as rows: vectors of units, each with its own capacity.
use Rattle.std.specs.Prelude.{◌≡◌, ℕ, ◌+◌, ◌-◌, ◌<◌, ◌≤◌, List, [], map, length, slice_index_or, vec_len, vec_capacity}
use Rattle.std.specs.declared.vec.Vec.{Vec}
use Rattle.kte_place.specs.declared.entry.Entry.{Entry}
use Rattle.kte_place.specs.declared.entry.EntryKind.{EntryKind}
use Rattle.kte_place.specs.declared.entry.EntryKind.TheVariants.{Wrap, Unwrap, Insert, Remove}

module _ {Z : Type 0} where
  -- the units of each row
  abbrev pub lines_in : List (Vec ℕ Z) → List (List ℕ)
  lines_in rows = map (λ row. row.items) rows

  -- the units of a row, counted from 0
  abbrev pub row_at : List (Vec ℕ Z) → ℕ → List ℕ
  row_at rows n = slice_index_or (lines_in rows) n []

  -- how many units a row can hold without growing
  abbrev pub capacity_at : List (Vec ℕ Z) → ℕ → ℕ
  capacity_at rows n = slice_index_or (map (λ row. vec_capacity row) rows) n 0

module _ {Z Y : Type 0} where
  -- room for a change of this kind: a cut needs room for a row, and a fresh row with room for the
  -- units that move; a join and an insertion need room in the row that grows
  abbrev pub HasRoomBy : EntryKind → Entry → Vec (Vec ℕ Z) Y → Vec ℕ Z → Type 0
  HasRoomBy Wrap e rows fresh =
      (vec_len rows < vec_capacity rows) × (length (row_at rows.items e.line) - e.column ≤ vec_capacity fresh)
  HasRoomBy Unwrap e rows fresh =
      length (row_at rows.items (e.line - 1)) + length (row_at rows.items e.line) ≤ capacity_at rows.items (e.line - 1)
  HasRoomBy Insert e rows fresh = length (row_at rows.items e.line) + e.length ≤ capacity_at rows.items e.line
  HasRoomBy Remove e rows fresh = Unit {0}

  -- there is room for the change of this entry
  abbrev pub HasRoom : Entry → Vec (Vec ℕ Z) Y → Vec ℕ Z → Type 0
  HasRoom e rows fresh = HasRoomBy e.kind e rows fresh

  -- the rows keep their units, and no capacity shrinks
  pub record OnlyGrows (old new : Vec (Vec ℕ Z) Y) : Type 0 where
    pub lines : lines_in new.items ≡ lines_in old.items
    pub rows : vec_capacity old ≤ vec_capacity new
    pub units : (n : ℕ) → capacity_at old.items n ≤ capacity_at new.items n
