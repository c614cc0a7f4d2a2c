-- What a change does to a text as one list of units: a part of the list is replaced.
use Rattle.std.specs.Prelude.{ℕ, ◌+◌, ◌-◌, List, [], ◌∷◌, length}
use Rattle.kte_text.specs.Texts.{line_at}
use Rattle.kte_text.specs.Flat.{flatten, start_of, spliced}
use Rattle.kte_place.specs.Ends.{Ends}
use Rattle.kte_place.specs.Place.{at}
use Rattle.kte_place.specs.Span.{ends}
use Rattle.kte_place.specs.declared.place.Place.{Place}
use Rattle.kte_edit.specs.declared.change.Change.{Change}

-- the offset of a place in the list: the units and line ends before it
abbrev pub offset : List (List ℕ) → Place → ℕ
offset text place = start_of text place.line + place.column

-- The part of the text that a change replaces. A wrap and an insertion replace nothing, at their
-- place; an unwrap replaces the end of the line before its own
abbrev pub part_of : Change → List (List ℕ) → Ends
part_of (Change.Wrap place) text = ends place place
part_of (Change.Unwrap line) text =
    ends (at (line - 1) (length (line_at text (line - 1)))) (at line 0)
part_of (Change.Insert place lines) text = ends place place
part_of (Change.Remove span) text = span
part_of (Change.Replace span lines) text = span

-- the units that a change puts in its place, the lines of a text joined by line ends
abbrev pub put_by : Change → List ℕ
put_by (Change.Wrap place) = 10 ∷ []
put_by (Change.Unwrap line) = []
put_by (Change.Insert place lines) = flatten lines
put_by (Change.Remove span) = []
put_by (Change.Replace span lines) = flatten lines

-- the list of units with these in place of a part
abbrev pub replaced : List (List ℕ) → Ends → List ℕ → List ℕ
replaced text part units =
    spliced (offset text part.start) (offset text part.end - offset text part.start) units
    (flatten text)
