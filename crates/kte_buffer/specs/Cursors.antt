-- The cursors of a buffer: as they hang, and as its slab holds them.
use Rattle.std.specs.Prelude.{ℕ, ◌<◌, map, IfSome}
use Rattle.std.specs.Ordering.{nat_cmp}
use Rattle.std.specs.FinMap.{FinMap, from_entries}
use Rattle.slab.specs.Slab.{Slab, get, entries}
use Rattle.kte_place.specs.Cursors.{Hanging}
use Rattle.kte_place.specs.Entry.{carry}
use Rattle.kte_place.specs.declared.place.Place.{Place}
use Rattle.kte_place.specs.declared.place.OnInsert.{OnInsert}
use Rattle.kte_place.specs.declared.entry.Entry.{Entry}
use Rattle.kte_buffer.specs.declared.cursors.Cursor.{Cursor}

-- a cursor that hangs at a place, and does this on an insertion
abbrev pub hanging : Place → OnInsert → Hanging
hanging place on_insert = record { place = place; on_insert = on_insert }

-- a cursor after an entry: its place is carried, and its behaviour is kept
abbrev pub carried : Entry → Hanging → Hanging
carried entry cursor = hanging (carry entry cursor.place cursor.on_insert) cursor.on_insert

-- a cursor of the slab as it hangs
abbrev pub shown : Cursor → Hanging
shown cursor = hanging cursor.place cursor.on_insert

-- a cursor of the slab after an entry
abbrev pub cursor_after : Entry → Cursor → Cursor
cursor_after entry cursor = record cursor { place = carry entry cursor.place cursor.on_insert }

-- the cursors of a slab, by their keys
abbrev pub hung_in : Slab Cursor → FinMap nat_cmp Hanging
hung_in slab = from_entries (map (λ e. (e.0, shown e.1)) (entries slab))

-- each cursor of the slab is on one of so many lines
abbrev pub StandWithin : Slab Cursor → ℕ → Type 0
StandWithin slab lines = (key : ℕ) → IfSome (get slab key) (λ cursor. cursor.place.line < lines)
