-- A text as the list of its lines.
use Rattle.std.specs.Prelude.{ℕ, ◌+◌, ◌-◌, ◌<◌, ◌≤◌, List, [], length, sum_by, slice_index_or, All}
use Rattle.kte_text.specs.Units.{IsLine}
use Rattle.kte_text.specs.declared.TheConstants.{MAX_SIZE}

-- the units of a line, counted from 0; a line that is not there has none
abbrev pub line_at : List (List ℕ) → ℕ → List ℕ
line_at text n = slice_index_or text n []

-- the units of all lines together
abbrev pub units_of : List (List ℕ) → ℕ
units_of text = sum_by length text

-- the size of a text: its units, and one for the end between each two lines. This project's own
-- measure
abbrev pub size_of : List (List ℕ) → ℕ
size_of text = units_of text + length text - 1

-- A text: at least one line, and of at most the greatest size. Source: KTextEditor's Document; the
-- greatest size is this project's own
pub record IsText (text : List (List ℕ)) : Type 0 where
  pub whole : All IsLine text
  pub some : 0 < length text
  pub small : size_of text ≤ MAX_SIZE
