-- The primitives of a change, and which changes fit a text. That every edit is made of wraps, unwraps,
-- insertions and removals is KTextEditor's rule (Document); which ones, their order and the causes of a
-- misfit are this project's own.
use Rattle.std.specs.Prelude.{ℕ, ◌+◌, ◌-◌, ◌==◌, zero, suc, not, IsTrue, List, [], ◌∷◌, ◌++◌, length, Option, None, if◌then◌else◌}
use Rattle.std.specs.List.{filter}
use Rattle.std.specs.Option.{option_or}
use Rattle.kte_text.specs.Texts.{IsText, line_at, size_of}
use Rattle.kte_text.specs.Primitives.{is_empty, after_all, misplaced, oversize, unjoinable}
use Rattle.kte_text.specs.declared.primitive.Primitive.{Primitive}
use Rattle.kte_text.specs.declared.primitive.Primitive.TheVariants.{Wrap, Unwrap, Insert, Remove}
use Rattle.kte_text.specs.declared.primitive.Misfit.{Misfit}
use Rattle.kte_place.specs.Ends.{Ends}
use Rattle.kte_place.specs.Place.{at, is_at_or_before}
use Rattle.kte_place.specs.declared.place.Place.{Place}
use Rattle.kte_edit.specs.declared.change.Change.{Change}

-- these primitives without those that insert or remove nothing
abbrev pub without_empty : List Primitive → List Primitive
without_empty primitives = filter (λ primitive. not (is_empty primitive)) primitives

-- the further lines of an inserted text, the line before them ending at this column: each is inserted
-- on a line of its own, which a wrap makes
abbrev pub further : ℕ → ℕ → List (List ℕ) → List Primitive
further line column [] = []
further line column (units ∷ lines) =
    Wrap line column ∷ Insert (line + 1) 0 units ∷ further (line + 1) (length units) lines

-- the insertion of a text at a place: its first line, and then the further ones
abbrev pub insertion : Place → List (List ℕ) → List Primitive
insertion place [] = []
insertion place (units ∷ lines) =
    Insert place.line place.column units ∷ further place.line (place.column + length units) lines

-- the removal of so many lines after this one, from the last to the first: each is emptied, and the
-- line after it is joined to it
abbrev pub removed_lines : List (List ℕ) → ℕ → ℕ → List Primitive
removed_lines text line zero = []
removed_lines text line (suc count) =
    Remove (line + suc count) 0 (length (line_at text (line + suc count)))
    ∷ Unwrap (line + suc count + 1)
    ∷ removed_lines text line count

-- The removal of a span. Over several lines these are the front of its last line, the lines between,
-- and the rest of its first line, to which what is left of the last line is joined
abbrev pub removal : Ends → List (List ℕ) → List Primitive
removal span text =
    if span.start.line == span.end.line
    then Remove span.start.line span.start.column (span.end.column - span.start.column) ∷ []
    else Remove span.end.line 0 span.end.column
    ∷ (removed_lines text span.start.line (span.end.line - span.start.line - 1)
    ++ Remove span.start.line span.start.column
    (length (line_at text span.start.line) - span.start.column)
    ∷ Unwrap (span.start.line + 1) ∷ [])

-- the primitives of a change of a text, in their order
abbrev pub steps_of : Change → List (List ℕ) → List Primitive
steps_of (Change.Wrap place) text = Wrap place.line place.column ∷ []
steps_of (Change.Unwrap line) text = Unwrap line ∷ []
steps_of (Change.Insert place lines) text = without_empty (insertion place lines)
steps_of (Change.Remove span) text = without_empty (removal span text)
steps_of (Change.Replace span lines) text =
    without_empty (removal span text ++ insertion span.start lines)

-- the places that a change names, the start of a span before its end; an Unwrap names its line
abbrev pub places_of : Change → List Place
places_of (Change.Wrap place) = place ∷ []
places_of (Change.Unwrap line) = at line 0 ∷ []
places_of (Change.Insert place lines) = place ∷ []
places_of (Change.Remove span) = span.start ∷ span.end ∷ []
places_of (Change.Replace span lines) = span.start ∷ span.end ∷ []

-- why the first of these places that is none of the text is none: its line is not there; its column
-- exceeds the line; its column splits a pair
abbrev pub misplaced_among : List Place → List (List ℕ) → Option Misfit
misplaced_among [] text = None
misplaced_among (place ∷ places) text =
    option_or (misplaced place.line (place.column ∷ []) text) (misplaced_among places text)

-- the first line has no line before it to be joined to
abbrev pub unjoinable_by : Change → Option Misfit
unjoinable_by (Change.Wrap place) = None
unjoinable_by (Change.Unwrap line) = unjoinable (Unwrap line)
unjoinable_by (Change.Insert place lines) = None
unjoinable_by (Change.Remove span) = None
unjoinable_by (Change.Replace span lines) = None

-- Why a change does not fit a text, the first cause in this order: one of its places is none of the
-- text, the start of a span before its end; it is the first line that would be joined; the text after
-- the whole change would be too large. `None` where it fits
abbrev pub change_misfit : Change → List (List ℕ) → Option Misfit
change_misfit change text =
    option_or (misplaced_among (places_of change) text)
    (option_or (unjoinable_by change) (oversize (size_of (after_all (steps_of change text) text))))

-- what every change holds: the text that it inserts is a text, and its span is in order
abbrev pub IsChange : Change → Type 0
IsChange (Change.Wrap place) = Unit {0}
IsChange (Change.Unwrap line) = Unit {0}
IsChange (Change.Insert place lines) = IsText lines
IsChange (Change.Remove span) = IsTrue (is_at_or_before span.start span.end)
IsChange (Change.Replace span lines) = IsTrue (is_at_or_before span.start span.end) × IsText lines
