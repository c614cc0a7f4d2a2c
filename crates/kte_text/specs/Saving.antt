-- The file that a text is saved as.
use Rattle.std.specs.Prelude.{ℕ, ◌-◌, Bool, List, [], ◌++◌, length, slice_index, replicate, nat_eq, ◌||◌, if◌then◌else◌}
use Rattle.kte_text.specs.Texts.{line_at}
use Rattle.kte_text.specs.Files.{joined, mark_bytes}
use Rattle.kte_text.specs.declared.loading.Eol.{Eol}
use Rattle.kte_text.specs.declared.loading.Eol.TheVariants.{Lf}

-- Whether the byte order mark is written: where the file has one, or where the first unit of the
-- first line is U+FEFF, which would otherwise be read as the mark. This project's own rule
abbrev pub writes_mark : List (List ℕ) → Bool → Bool
writes_mark text mark = mark || nat_eq (slice_index (line_at text 0) 0) 0xFEFF

-- the file: the mark, and the lines joined by the line end. Source: KTextEditor's Document
abbrev pub bytes_of : List (List ℕ) → Eol → Bool → List ℕ
bytes_of text eol mark =
    (if writes_mark text mark then mark_bytes else []) ++ joined text (replicate
    (length text - 1) eol)

-- the line end that is read back: a text of one line has none, and loads with LF
abbrev pub loaded_eol : List (List ℕ) → Eol → Eol
loaded_eol text eol = if nat_eq (length text) 1 then Lf else eol
