-- The places of a text as offsets in its list of units and line ends, counted from 0, and where an
-- offset goes as units of a list are replaced. Nothing here speaks of entries.
use Rattle.std.specs.Prelude.{ℕ, ◌+◌, ◌-◌, ◌<◌, ◌≤◌, List, length, nat_le, if◌then◌else◌}
use Rattle.kte_text.specs.Texts.{line_at}
use Rattle.kte_text.specs.Flat.{start_of, splice_at, taken_by}
use Rattle.kte_text.specs.declared.primitive.Primitive.{Primitive}
use Rattle.kte_place.specs.Entry.{is_left_of}
use Rattle.kte_place.specs.declared.place.Place.{Place}
use Rattle.kte_place.specs.declared.place.OnInsert.{OnInsert}

-- the place is on a line of the text, and not beyond that line's end
pub record IsInText (text : List (List ℕ)) (place : Place) : Type 0 where
  pub line : place.line < length text
  pub column : place.column ≤ length (line_at text place.line)

-- how many units and line ends precede a place (KTextEditor's Document::cursorToOffset)
abbrev pub offset : List (List ℕ) → Place → ℕ
offset text place = start_of text place.line + place.column

-- Where an offset goes as so many units at one offset are taken out, and so many put in there: an
-- offset before that one stays, and with Stay so does that one itself; an offset up to the end of
-- what is taken goes to the end of what is put in; a later one moves by the difference
abbrev pub shift : ℕ → ℕ → ℕ → OnInsert → ℕ → ℕ
shift at taken come on x =
    if is_left_of at x on then x
    else if nat_le x (at + taken) then at + come
    else x + come - taken

-- the primitive takes out the unit at this offset
abbrev pub Takes : Primitive → List (List ℕ) → ℕ → Type 0
Takes p text x = (splice_at p text ≤ x) × (x < splice_at p text + taken_by p)
