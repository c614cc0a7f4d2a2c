-- The report of a state: what is edited, where the ranges are, and the text, line by line. This
-- project's own form.
use Rattle.std.specs.Prelude.{ℕ, ◌+◌, ◌==◌, List, [], ◌∷◌, ◌++◌, length, filter, codes, Option, if◌then◌else◌}
use Rattle.std.specs.List.{flat_map, range_with_len}
use Rattle.std.specs.FinMap.{entries}
use Rattle.hex.specs.Hex.{encode_lower}
use Rattle.kte_text.specs.Units.{utf8_of}
use Rattle.kte_text.specs.Texts.{size_of}
use Rattle.kte_text.specs.Digests.{digest_of}
use Rattle.kte_place.specs.declared.entry.Entry.{Entry}
use Rattle.kte_place.specs.declared.span.Expand.{Expand}
use Rattle.kte_place.specs.declared.span.Empty.{Empty}
use Rattle.kte_place.specs.Ends.{Ends}
use Rattle.kte_history.specs.Locks.{kept}
use Rattle.kte_ranges.specs.declared.info.RangeKind.{RangeKind}
use Rattle.kte_ranges.specs.declared.info.RangeKind.TheVariants.{User, Fold, Job}
use Rattle.kte_doc.specs.Trail.{entries_of}
use Rattle.kte_core.specs.Editing.{Editing, text_of, saved_form, revision_of}
use Rattle.kte_core.specs.State.{State, Range, stands}
use Rattle.kte_core.specs.Folds.{is_line_hidden}
use Rattle.kte_script.specs.Fields.{spell_number, spell_or_invalid, spell_expand, spell_empty}

-- ---- the lines

-- a line of a word and a number
abbrev pub number_line : List ℕ → ℕ → List ℕ
number_line word n = word ++ spell_number n ++ 10 ∷ []

-- how many groups there are to undo, and to redo
abbrev pub groups_line : ℕ → ℕ → List ℕ
groups_line undo redo = codes "undo" ++ spell_number undo ++ spell_number redo ++ 10 ∷ []

-- whose a range is
abbrev pub kind_text : RangeKind → List ℕ
kind_text User = codes " user"
kind_text Fold = codes " fold"
kind_text (Job job) = codes " job" ++ spell_number job

-- a range: its number, whose it is, what it does at a change, and where it is
abbrev pub range_line : ℕ → RangeKind → Expand → Empty → Option Ends → List ℕ
range_line id kind expand empty span =
    codes "range" ++ spell_number id ++ kind_text kind ++ spell_expand expand ++ spell_empty empty
    ++ spell_or_invalid span ++ 10 ∷ []

-- a run of hidden lines, from its first to its last
abbrev pub hide_line : ℕ × ℕ → List ℕ
hide_line run = codes "hide" ++ spell_number run.0 ++ spell_number run.1 ++ 10 ∷ []

-- a digest, in lower-case digits
abbrev pub digits_line : List ℕ → List ℕ
digits_line digest = codes "digest " ++ encode_lower digest ++ 10 ∷ []

-- the digest of a file
abbrev pub digest_line : List ℕ → List ℕ
digest_line file = digits_line (digest_of file)

-- a line of the text: `|` and its UTF-8
abbrev pub line_text : List ℕ → List ℕ
line_text units = 124 ∷ utf8_of units ++ 10 ∷ []

-- the line `text`, and then each line of the text
abbrev pub text_lines : List (List ℕ) → List ℕ
text_lines text = codes "text\n" ++ flat_map line_text text

-- ---- the report of a state

-- the entries of the trail that the locks keep
abbrev pub kept_entries : State → List Entry
kept_entries state =
    kept state.locks (entries_of state.editing.trail state.editing.loaded.text)

-- a range of a state, where the trail puts it
abbrev pub standing_line : Editing → ℕ × Range → List ℕ
standing_line editing (id, range) =
    range_line id range.kind range.expand range.empty (stands editing range)

-- how many ranges there are, and then each range, rising by number
abbrev pub range_lines : State → List ℕ
range_lines state =
    number_line (codes "ranges") (length (entries state.ranges))
    ++ flat_map (standing_line state.editing) (entries state.ranges)

-- a line before runs of later lines: it extends the first run if no line is between them
abbrev pub joined_to : ℕ → List (ℕ × ℕ) → List (ℕ × ℕ)
joined_to line [] = (line, line) ∷ []
joined_to line ((first, last) ∷ runs) =
    if line + 1 == first then (line, last) ∷ runs else (line, line) ∷ (first, last) ∷ runs

-- the maximal runs among rising lines, each as its first line and its last
abbrev pub runs_of : List ℕ → List (ℕ × ℕ)
runs_of [] = []
runs_of (line ∷ lines) = joined_to line (runs_of lines)

-- how many lines are hidden, and then the maximal runs of them
abbrev pub hidden_text : List ℕ → List ℕ
hidden_text lines =
    number_line (codes "hidden") (length lines) ++ flat_map hide_line (runs_of lines)

-- the lines that folds hide now, rising
abbrev pub hidden_lines : State → List ℕ
hidden_lines state =
    filter (is_line_hidden state) (range_with_len 0 (length (text_of state.editing)))

-- how many lines, primitives, and units with line ends there are
abbrev pub size_lines : State → List ℕ
size_lines state =
    number_line (codes "lines") (length (text_of state.editing))
    ++ number_line (codes "revision") (revision_of state.editing)
    ++ number_line (codes "size") (size_of (text_of state.editing))

-- how many groups there are to undo and to redo now
abbrev pub group_lines : State → List ℕ
group_lines state =
    groups_line (length state.editing.edits.undo) (length state.editing.edits.redo)

-- these counts, and between them how many entries are kept
abbrev pub count_lines : State → List ℕ
count_lines state =
    size_lines state ++ number_line (codes "kept") (length (kept_entries state))
    ++ group_lines state

-- the whole report; the digest is that of the file that saving would write now
abbrev pub report : State → List ℕ
report state =
    codes "report\n" ++ count_lines state ++ range_lines state
    ++ hidden_text (hidden_lines state) ++ digest_line (saved_form state.editing)
    ++ text_lines (text_of state.editing)

-- The summary of a run: how many commands and events it had, the counts of the state after it
-- without the kept entries, how many ranges there are, the digest, and how many transactions were
-- recovered from its swap file
abbrev pub summary : ℕ → ℕ → State → ℕ → List ℕ
summary commands events state recovered =
    number_line (codes "commands") commands ++ number_line (codes "events") events
    ++ size_lines state ++ group_lines state
    ++ number_line (codes "ranges") (length (entries state.ranges))
    ++ digest_line (saved_form state.editing) ++ number_line (codes "recovered") recovered
