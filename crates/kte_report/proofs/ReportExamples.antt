-- Worked examples of the definitions.
use Rattle.std.proofs.Common.{◌≡◌, true, false, length, List, [], ◌∷◌, ◌++◌, Some, None, refl, sym, ◌∙◌, arith}
use Rattle.std.specs.Prelude.{codes}
use Rattle.std.specs.Ordering.{nat_cmp}
use Rattle.std.specs.Cmp.{nat_cmp_total}
use Rattle.std.specs.FinMap.{FinMap, entries, empty, insert, get-insert, len-empty, len-entries, entries-insert}
use Rattle.std.proofs.lemmas.Fmt.{decimal_digit}
use Rattle.hex.specs.Hex.{encode_with}
use Rattle.kte_text.specs.declared.loading.Loaded.{Loaded}
use Rattle.kte_text.specs.declared.loading.Eol.TheVariants.{Lf}
use Rattle.kte_text.specs.declared.primitive.Primitive.TheVariants.{Insert}
use Rattle.kte_place.specs.declared.span.Empty.{Empty}
use Rattle.kte_place.specs.declared.span.Empty.TheVariants.{Allow, Void}
use Rattle.kte_place.specs.Ends.{Ends}
use Rattle.kte_place.specs.Examples.{span, expand}
use Rattle.kte_history.specs.declared.lock.Owner.TheVariants.{Editor}
use Rattle.kte_ranges.specs.declared.info.RangeKind.{RangeKind}
use Rattle.kte_ranges.specs.declared.info.RangeKind.TheVariants as kind
use Rattle.kte_core.specs.State.{State, Range}
use Rattle.kte_core.specs.Replay.{beginning}
use Rattle.kte_report.specs.Report.{report, summary, range_line, range_lines, count_lines, runs_of, hidden_text, hidden_lines, digits_line, digest_line, text_lines}
use Rattle.kte_report.proofs.Ascii.{lossy-ascii}

no_length : {A : Type 0} (xs : List A) → length xs ≡ 0 → xs ≡ []
no_length [] e = refl
no_length (x ∷ xs) e = absurd (omega arith)

no_entries : entries (empty {X = Range} {R = nat_cmp}) ≡ []
no_entries = no_length (entries empty) (sym (len-entries empty) ∙ len-empty nat_cmp Range)

-- ---- the report of an empty file, before any change

abbrev empty_file : Loaded
empty_file = record { text = [] ∷ []; eol = Lf; bom = false }

nothing : report (beginning empty_file 8)
    ≡ codes "report\nlines 1\nrevision 0\nsize 0\nkept 0\nundo 0 0\nranges 0\nhidden 0\n"
    ++ digest_line [] ++ codes "text\n|\n"
nothing =
    rw (no_entries, lossy-ascii [] refl, decimal_digit 1 (omega arith), decimal_digit 0 (omega arith)) refl

-- ---- the summary of a search that finds nothing in it, and of the close after it

searched : summary 1 2 (record (beginning empty_file 8) { closed = true }) 0
    ≡ codes "commands 1\nevents 2\nlines 1\nrevision 0\nsize 0\nundo 0 0\nranges 0\n"
    ++ digest_line [] ++ codes "recovered 0\n"
searched = rw (no_entries, lossy-ascii [] refl, decimal_digit 1 (omega arith), decimal_digit 2 (omega arith), decimal_digit 0 (omega arith)) refl

-- ---- the line of a range

users : range_line 1 kind.User (expand false false) Allow (Some (span 0 2 3 4)) ≡ codes "range 1 user none allow 0 2 3 4\n"
users = rw (decimal_digit 1 (omega arith), decimal_digit 0 (omega arith), decimal_digit 2 (omega arith), decimal_digit 3 (omega arith), decimal_digit 4 (omega arith)) refl

folds : range_line 2 kind.Fold (expand true false) Allow None ≡ codes "range 2 fold left allow invalid\n"
folds = rw (decimal_digit 2 (omega arith)) refl

jobs : (range_line 3 (kind.Job 1) (expand false true) Void None ≡ codes "range 3 job 1 right void invalid\n")
    × (range_line 3 (kind.Job 1) (expand true true) Void None ≡ codes "range 3 job 1 both void invalid\n")
jobs = rw (decimal_digit 3 (omega arith), decimal_digit 1 (omega arith)) (refl, refl)

-- ---- ranges stand where the trail puts them, and locks keep the entries since the oldest one

abbrev made_of : RangeKind → Empty → Range
made_of kind empty = record {
  expand = expand false false;
  empty = empty;
  kind = kind;
  origin = record { revision = 0; span = span 0 0 0 3 };
}

-- `abc`, in which `x` and then `y` were inserted in front, with range 7 and then range 2 made at
-- revision 0, and revision 1 locked
abbrev edited : State
edited = record {
  editing = record {
    loaded = record { text = (97 ∷ 98 ∷ 99 ∷ []) ∷ []; eol = Lf; bom = false };
    limit = 8;
    trail = Insert 0 0 (120 ∷ []) ∷ Insert 0 0 (121 ∷ []) ∷ [];
    edits = record { depth = 0; current = []; undo = [] ∷ [] ∷ []; redo = [] ∷ [] };
  };
  ranges = insert (insert empty 7 (made_of kind.User Allow)) 2 (made_of (kind.Job 1) Void);
  next_id = 8;
  locks = record { owner = Editor; revision = 1 } ∷ [];
  jobs = [];
  closed = false;
}

counts : count_lines edited ≡ codes "lines 1\nrevision 2\nsize 5\nkept 1\nundo 2 1\n"
counts = rw (decimal_digit 1 (omega arith), decimal_digit 2 (omega arith), decimal_digit 5 (omega arith)) refl

ranges : range_lines edited ≡ codes "ranges 2\nrange 2 job 1 none void 0 2 0 5\nrange 7 user none allow 0 2 0 5\n"
ranges =
    rw (
      entries-insert nat_cmp_total (insert empty 7 (made_of kind.User Allow)) 2 (made_of (kind.Job 1) Void),
      entries-insert nat_cmp_total empty 7 (made_of kind.User Allow),
      no_entries,
      decimal_digit 2 (omega arith),
      decimal_digit 1 (omega arith),
      decimal_digit 7 (omega arith),
      decimal_digit 0 (omega arith),
      decimal_digit 5 (omega arith),
    ) refl

-- ---- the digest and the text

digest : digits_line (0 ∷ 171 ∷ 255 ∷ []) ≡ codes "digest 00abff\n"
unfolding encode_with
digest = refl

text : text_lines (codes "hello!" ∷ [] ∷ []) ≡ codes "text\n|hello!\n|\n"
text = rw (lossy-ascii (codes "hello!") refl, lossy-ascii [] refl) refl

-- ---- hidden lines

runs : (runs_of [] ≡ []) × (runs_of (1 ∷ 2 ∷ 3 ∷ 7 ∷ 9 ∷ 10 ∷ []) ≡ (1, 3) ∷ (7, 7) ∷ (9, 10) ∷ [])
runs = (refl, refl)

hidden : hidden_text (1 ∷ 2 ∷ 3 ∷ 7 ∷ []) ≡ codes "hidden 4\nhide 1 3\nhide 7 7\n"
hidden = rw (decimal_digit 1 (omega arith), decimal_digit 3 (omega arith), decimal_digit 4 (omega arith), decimal_digit 7 (omega arith)) refl

-- runs that touch are one, and a line between them keeps two apart
touching : (runs_of (1 ∷ 2 ∷ []) ≡ (1, 2) ∷ []) × (runs_of (1 ∷ 3 ∷ []) ≡ (1, 1) ∷ (3, 3) ∷ [])
touching = (refl, refl)

-- `a`, `b`, `c` and `d` on a line each, with these folds
abbrev with_folds : FinMap nat_cmp Range → State
with_folds folds = record {
  editing = record {
    loaded = record { text = codes "a" ∷ codes "b" ∷ codes "c" ∷ codes "d" ∷ []; eol = Lf; bom = false };
    limit = 8;
    trail = [];
    edits = record { depth = 0; current = []; undo = []; redo = [] };
  };
  ranges = folds;
  next_id = 3;
  locks = [];
  jobs = [];
  closed = false;
}

abbrev fold : Ends → Range
fold s = record {
  expand = expand false false;
  empty = Void;
  kind = kind.Fold;
  origin = record { revision = 0; span = s };
}

-- a fold hides the lines after its first
folded : hidden_text (hidden_lines (with_folds (insert empty 1 (fold (span 0 1 2 0))))) ≡ codes "hidden 2\nhide 1 2\n"
folded =
    rw (
      entries-insert nat_cmp_total empty 1 (fold (span 0 1 2 0)),
      no_entries,
      get-insert nat_cmp_total (empty {X = Ends}) 1 (span 0 1 2 0) 1,
      decimal_digit 1 (omega arith),
      decimal_digit 2 (omega arith),
    ) refl

-- two folds that touch hide one run
adjacent : hidden_text (hidden_lines (with_folds (insert (insert empty 2 (fold (span 0 0 1 1))) 1 (fold (span 1 1 3 1))))) ≡ codes "hidden 3\nhide 1 3\n"
adjacent =
    rw (
      entries-insert nat_cmp_total (insert empty 2 (fold (span 0 0 1 1))) 1 (fold (span 1 1 3 1)),
      entries-insert nat_cmp_total empty 2 (fold (span 0 0 1 1)),
      no_entries,
      get-insert nat_cmp_total (insert (empty {X = Ends}) 2 (span 0 0 1 1)) 1 (span 1 1 3 1) 1,
      get-insert nat_cmp_total (insert (empty {X = Ends}) 2 (span 0 0 1 1)) 1 (span 1 1 3 1) 2,
      get-insert nat_cmp_total (empty {X = Ends}) 2 (span 0 0 1 1) 2,
      decimal_digit 1 (omega arith),
      decimal_digit 3 (omega arith),
    ) refl

unfolded : hidden_text (hidden_lines (with_folds empty)) ≡ codes "hidden 0\n"
unfolded = rw (no_entries, decimal_digit 0 (omega arith)) refl
