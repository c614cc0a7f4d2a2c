-- The entry of a primitive: what cursors need to know of it. This project's own record of what
-- KTextEditor's moving interface tells them.
use Rattle.std.specs.Prelude.{ℕ, ◌+◌, ◌-◌, Bool, ◌==◌, List, [], ◌∷◌, length}
use Rattle.std.specs.List.{list_any}
use Rattle.kte_text.specs.Texts.{line_at}
use Rattle.kte_text.specs.declared.primitive.Primitive.{Primitive}
use Rattle.kte_text.specs.declared.primitive.Primitive.TheVariants.{Wrap, Unwrap, Insert, Remove}
use Rattle.kte_place.specs.Entry.{wrap, unwrap, insertion, removal}
use Rattle.kte_place.specs.declared.entry.Entry.{Entry}
use Rattle.kte_place.specs.declared.entry.EntryKind.{EntryKind}
use Rattle.kte_place.specs.declared.entry.EntryKind.TheVariants as kind

-- The entry of a primitive that is applied to a text. For the lines that units are inserted into or
-- that a line is joined to it has their length before
abbrev pub entry : Primitive → List (List ℕ) → Entry
entry (Wrap line column) text = wrap line column
entry (Unwrap line) text = unwrap line (length (line_at text (line - 1)))
entry (Insert line column units) text = insertion line column (length units) (length (line_at text line))
entry (Remove line column count) text = removal line column count

-- the lines that an entry of this kind, at this line, leaves changed: both lines of a cut, and the
-- line that another was joined to
abbrev pub lines_by : EntryKind → ℕ → List ℕ
lines_by kind.Wrap line = line ∷ (line + 1) ∷ []
lines_by kind.Unwrap line = (line - 1) ∷ []
lines_by kind.Insert line = line ∷ []
lines_by kind.Remove line = line ∷ []

-- the lines, of the text after it, that a primitive touched
abbrev pub touched : Entry → List ℕ
touched entry = lines_by entry.kind entry.line

-- a primitive touched this line of the text after it
abbrev pub is_touched : Entry → ℕ → Bool
is_touched entry line = list_any (λ n. n == line) (touched entry)
