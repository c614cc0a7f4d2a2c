-- A text as one list of units, and what a primitive does to that list: it puts units in place of
-- others at one offset. An offset counts units and line ends from 0.
use Rattle.std.specs.Prelude.{ℕ, ◌+◌, ◌-◌, List, [], ◌∷◌, ◌++◌, length, take, drop, sum_by}
use Rattle.std.specs.List.{flat_map}
use Rattle.kte_text.specs.Texts.{line_at}
use Rattle.kte_text.specs.declared.primitive.Primitive.{Primitive}
use Rattle.kte_text.specs.declared.primitive.Primitive.TheVariants.{Wrap, Unwrap, Insert, Remove}

-- the lines of a text joined by LF, which no line holds (KTextEditor's Document::text)
abbrev pub flatten : List (List ℕ) → List ℕ
flatten [] = []
flatten (line ∷ lines) = line ++ flat_map (λ next. 10 ∷ next) lines

-- the offset of the start of a line: each line before it counts its units and its line end
abbrev pub start_of : List (List ℕ) → ℕ → ℕ
start_of text line = sum_by (λ units. length units + 1) (take line text)

-- the offset at which a primitive changes the list; an Unwrap does so at the end of the line before
abbrev pub splice_at : Primitive → List (List ℕ) → ℕ
splice_at (Wrap line column) text = start_of text line + column
splice_at (Unwrap line) text = start_of text (line - 1) + length (line_at text (line - 1))
splice_at (Insert line column units) text = start_of text line + column
splice_at (Remove line column units) text = start_of text line + column

-- how many units a primitive takes out there
abbrev pub taken_by : Primitive → ℕ
taken_by (Wrap line column) = 0
taken_by (Unwrap line) = 1
taken_by (Insert line column units) = 0
taken_by (Remove line column units) = units

-- the units that a primitive puts in there
abbrev pub given : Primitive → List ℕ
given (Wrap line column) = 10 ∷ []
given (Unwrap line) = []
given (Insert line column units) = units
given (Remove line column units) = []

-- a list with these units in place of so many of its own from an offset on
abbrev pub spliced : ℕ → ℕ → List ℕ → List ℕ → List ℕ
spliced at taken units flat = take at flat ++ units ++ drop (at + taken) flat
