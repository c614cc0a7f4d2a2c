-- The four primitives of a text: which fit it, and what they make of it. Source: KTextEditor's
-- Document, whose editing goes by wrapLine, unwrapLine, insertText and removeText; the causes of a
-- misfit and their order are this project's own.
use Rattle.std.specs.Prelude.{◌≡◌, ℕ, ◌+◌, ◌-◌, ◌^◌, ◌<◌, ◌≤◌, Bool, false, List, [], ◌∷◌, ◌++◌, length, take, drop, slice_set, find, nat_le, nat_lt, nat_eq, Option, Some, None, if◌then◌else◌}
use Rattle.std.specs.Option.{option_map, option_or}
use Rattle.kte_text.specs.Units.{IsLine, IsBoundary, splits_pair}
use Rattle.kte_text.specs.Texts.{line_at, size_of}
use Rattle.kte_text.specs.declared.TheConstants.{MAX_SIZE}
use Rattle.kte_text.specs.declared.primitive.Primitive.{Primitive}
use Rattle.kte_text.specs.declared.primitive.Primitive.TheVariants.{Wrap, Unwrap, Insert, Remove}
use Rattle.kte_text.specs.declared.primitive.Misfit.{Misfit}
use Rattle.kte_text.specs.declared.primitive.Misfit.TheVariants.{NoLine, NoColumn, SplitsPair, FirstLine, TooLarge}

-- the line at which a primitive works
abbrev pub line_of : Primitive → ℕ
line_of (Wrap line column) = line
line_of (Unwrap line) = line
line_of (Insert line column text) = line
line_of (Remove line column units) = line

-- the columns at which it cuts that line
abbrev pub columns_of : Primitive → List ℕ
columns_of (Wrap line column) = column ∷ []
columns_of (Unwrap line) = []
columns_of (Insert line column text) = column ∷ []
columns_of (Remove line column units) = column ∷ (column + units) ∷ []

-- an insertion or a removal of nothing, which changes nothing and is no primitive
abbrev pub is_empty : Primitive → Bool
is_empty (Wrap line column) = false
is_empty (Unwrap line) = false
is_empty (Insert line column text) = nat_eq (length text) 0
is_empty (Remove line column units) = nat_eq units 0

-- the text of an insertion is a line
abbrev pub HasLine : Primitive → Type 0
HasLine (Wrap line column) = Unit {0}
HasLine (Unwrap line) = Unit {0}
HasLine (Insert line column text) = IsLine text
HasLine (Remove line column units) = Unit {0}

-- the last column of a removal is a number of 64 bits
abbrev pub HasEnd : Primitive → Type 0
HasEnd (Wrap line column) = Unit {0}
HasEnd (Unwrap line) = Unit {0}
HasEnd (Insert line column text) = Unit {0}
HasEnd (Remove line column units) = column + units < 2 ^ 64

-- the text after a primitive that fits it
abbrev pub after : Primitive → List (List ℕ) → List (List ℕ)
after (Wrap line column) text =
    take line text ++ take column (line_at text line) ∷ drop column (line_at text line)
    ∷ drop (line + 1) text
after (Unwrap line) text =
    take (line - 1) text ++ (line_at text (line - 1) ++ line_at text line) ∷ drop (line + 1) text
after (Insert line column units) text =
    slice_set text line
    (take column (line_at text line) ++ units ++ drop column (line_at text line))
after (Remove line column units) text =
    slice_set text line
    (take column (line_at text line) ++ drop (column + units) (line_at text line))

-- the text after one primitive and then the next
abbrev pub after_all : List Primitive → List (List ℕ) → List (List ℕ)
after_all [] text = text
after_all (primitive ∷ primitives) text = after_all primitives (after primitive text)

-- the first of these columns that exceeds the line of these units
abbrev pub beyond : ℕ → List ℕ → List ℕ → Option Misfit
beyond line columns units =
    option_map (λ column. NoColumn line column)
    (find (λ column. nat_lt (length units) column) columns)

-- the first of these columns that splits a pair of the line of these units
abbrev pub splitting : ℕ → List ℕ → List ℕ → Option Misfit
splitting line columns units =
    option_map (λ column. SplitsPair line column) (find (splits_pair units) columns)

-- Why a line may not be cut at these columns, the first cause in this order: it is not there; a
-- column exceeds it; a column splits a pair
abbrev pub misplaced : ℕ → List ℕ → List (List ℕ) → Option Misfit
misplaced line columns text =
    if nat_le (length text) line then Some (NoLine line)
    else option_or (beyond line columns (line_at text line))
    (splitting line columns (line_at text line))

-- the first line has no line before it to be joined to
abbrev pub unjoinable : Primitive → Option Misfit
unjoinable (Wrap line column) = None
unjoinable (Unwrap line) = if nat_eq line 0 then Some FirstLine else None
unjoinable (Insert line column text) = None
unjoinable (Remove line column units) = None

-- a text of this size is too large
abbrev pub oversize : ℕ → Option Misfit
oversize size = if nat_lt MAX_SIZE size then Some (TooLarge size) else None

-- Why a primitive does not fit a text, the first cause in this order: its line may not be cut at
-- its columns; it is the first line that would be joined; the text would be too large. `None` where
-- it fits
abbrev pub misfit : Primitive → List (List ℕ) → Option Misfit
misfit primitive text =
    option_or (misplaced (line_of primitive) (columns_of primitive) text)
    (option_or (unjoinable primitive) (oversize (size_of (after primitive text))))

-- the primitives fit one after another, the first of them this text, and none inserts or removes
-- nothing
abbrev pub FitInTurn : List Primitive → List (List ℕ) → Type 0
FitInTurn [] text = Unit {0}
FitInTurn (primitive ∷ primitives) text =
    (misfit primitive text ≡ None) × (is_empty primitive ≡ false)
    × FitInTurn primitives (after primitive text)

-- What fits a text, without the causes: the line is there, it may be cut at the columns, a line
-- that is joined has one before it, and there is room for what is added. A law says that this is
-- where `misfit` is `None`
abbrev pub FitsText : Primitive → List (List ℕ) → Type 0
FitsText (Wrap line column) text =
    (line < length text) × IsBoundary (line_at text line) column
    × (size_of text + 1 ≤ MAX_SIZE)
FitsText (Unwrap line) text = (0 < line) × (line < length text)
FitsText (Insert line column units) text =
    (line < length text) × IsBoundary (line_at text line) column
    × (size_of text + length units ≤ MAX_SIZE)
FitsText (Remove line column units) text =
    (line < length text) × IsBoundary (line_at text line) column
    × IsBoundary (line_at text line) (column + units)
