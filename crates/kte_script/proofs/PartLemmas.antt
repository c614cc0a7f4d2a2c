-- The lines of a text, and the parts of its bytes.
use denote.Ref.{Bor}
use Rattle.std.proofs.Common.{◌≡◌, ℕ, ◌+◌, ◌<◌, ◌≤◌, Bool, true, false, eqb, ltb, List, [], ◌∷◌, ◌++◌, length, take, drop, map, All, Option, None, Some, refl, sym, ap, ◌∙◌, append_assoc, append-nil, arith, inl, inr, ◌⊎◌}
use Rattle.std.specs.List.{position, position_or_len, slice_split, join_with_byte, list_any}
use Rattle.std.specs.Str.{is_utf8}
use Rattle.std.proofs.lemmas.Bool.{or_parts, or_from, ltb-true, lt-ltb, lt-leb, le-leb, cases_lt}
use Rattle.std.proofs.lemmas.List.{length-append, length-map, length-drop, length-take}
use Rattle.std.proofs.lemmas.List.Elements.{All-nil, All-cons, All-head, All-tail}
use Rattle.std.proofs.lemmas.List.Folds.{list_any-append}
use Rattle.std.proofs.lemmas.List.Splits.{slice_split_first, slice_split_none, slice_split_at, length-slice_split, join_with_byte-slice_split}
use Rattle.std.proofs.lemmas.List.Sums.{fails_before_first, sum_by-cons, sum_by-append}
use Rattle.std.proofs.lemmas.Str.{IsUtf8-from_is_utf8}
use Rattle.kte_text.specs.Units.{IsLine, is_line_end, utf8_of}
use Rattle.kte_text.specs.Texts.{IsText, units_of, size_of}
use Rattle.kte_text.specs.declared.TheConstants.{MAX_SIZE}
use Rattle.kte_script.specs.Limits.{IsPattern}
use Rattle.kte_text.specs.Reading.{utf16_of}
use Rattle.kte_text.proofs.CharLemmas.{IsLine-utf16_of, utf8_of-utf16_of}
use Rattle.kte_text.proofs.Utf8Lemmas.{length-utf8_of, width_bounds}
use Rattle.kte_script.specs.Ends.{is_end, parts_of, FirstPart}
use Rattle.kte_script.specs.Strings.{line_in, with_line, lines_in, small, text_in, some_units, pattern_in, utf8_of_text}
use Rattle.kte_script.proofs.WordLemmas.{at_position, at_end, found}
use Rattle.kte_script.proofs.StringLemmas.{line_in-utf8_of, no_ends-utf8}

decide : (b : Bool) → (b ≡ true) ⊎ (b ≡ false)
decide true = inl refl
decide false = inr refl

-- ---- the first part

pub first_part : (bytes : List ℕ) (n : ℕ) → position is_end bytes ≡ Some n
    → (parts_of bytes ≡ take n bytes ∷ parts_of (drop (n + 1) bytes))
    × (length bytes ≡ length (take n bytes) + length (drop (n + 1) bytes) + 1)
first_part bytes n e =
    let same : position_or_len is_end bytes ≡ n = at_position is_end bytes n e in
    let test = (found (ltb (position_or_len is_end bytes) (length bytes)) (position_or_len is_end bytes) n e).0 in
    let there : position_or_len is_end bytes < length bytes = ltb-true _ _ test in
    let parts : slice_split is_end bytes ≡ take n bytes ∷ slice_split is_end (drop (n + 1) bytes) =
    rw same at (slice_split_first is_end bytes 0 there) in
    (parts, omega (arith, length-take n bytes, length-drop (n + 1) bytes))

pub last_part : (bytes : List ℕ) → position is_end bytes ≡ None → parts_of bytes ≡ bytes ∷ []
last_part bytes e =
    let whole = at_end is_end bytes e in
    slice_split_none is_end bytes (λ k d lt. fails_before_first is_end bytes k d (omega arith))

-- ---- lines as parts

no_lf : (bytes : List ℕ) → list_any is_line_end bytes ≡ false → All (λ byte. is_end byte ≡ false) bytes
no_lf [] h = All-nil (λ byte. is_end byte ≡ false)
no_lf (byte ∷ bytes) h =
    let p = or_parts (is_line_end byte) (list_any is_line_end bytes) h in
    let q = or_parts (eqb byte 10) (eqb byte 13) p.0 in
    All-cons (λ b. is_end b ≡ false) byte bytes q.0 (no_lf bytes p.1)

line_plain : (line : List ℕ) → IsLine line → All (λ byte. is_end byte ≡ false) (utf8_of line)
line_plain line whole = no_lf (utf8_of line) (no_ends-utf8 line whole)

parts_again : (text : List (List ℕ)) → All IsLine text → 0 < length text
    → parts_of (utf8_of_text text) ≡ map utf8_of text
parts_again [] all some = absurd (omega arith)
parts_again (line ∷ []) all some =
    slice_split_none is_end (utf8_of line) (line_plain line (All-head IsLine line [] all))
parts_again (line ∷ next ∷ lines) all some =
    let rest = utf8_of_text (next ∷ lines) in
    slice_split_at is_end (utf8_of line) 10 rest (line_plain line (All-head IsLine line (next ∷ lines) all)) refl
    ∙ ap (λ (parts : List (List ℕ)). utf8_of line ∷ parts)
    (parts_again (next ∷ lines) (All-tail IsLine line (next ∷ lines) all) (omega arith))

lines_again : (text : List (List ℕ)) → All IsLine text → lines_in (map utf8_of text) ≡ Some text
lines_again [] all = refl
lines_again (line ∷ lines) all =
    let first = line_in-utf8_of line (All-head IsLine line lines all) in
    let others = lines_again lines (All-tail IsLine line lines all) in
    rw (first, others) refl

-- lines are a text if they are not too large
small_lines : (lines : List (List ℕ)) → size_of lines ≤ MAX_SIZE → small (Some lines) ≡ Some lines
small_lines lines le = rw (le-leb _ _ le) refl

large_lines : (lines : List (List ℕ)) → MAX_SIZE < size_of lines → small (Some lines) ≡ None
large_lines lines lt = rw (lt-leb _ _ lt) refl

-- a text in UTF-8 is read as itself
pub text_in-utf8_of_text : (text : List (List ℕ)) → IsText text → text_in (utf8_of_text text) ≡ Some text
unfolding text_in
text_in-utf8_of_text text is =
    ap small (ap lines_in (parts_again text is.whole is.some) ∙ lines_again text is.whole)
    ∙ small_lines text is.small

-- ---- parts as lines

abbrev no_line : Option (List ℕ)
no_line = None

none_line : (line : List ℕ) → no_line ≡ Some line → ⊥
none_line line e = cc

some_line : (a b : List ℕ) → Some a ≡ Some b → a ≡ b
some_line a b e = cc

line_of_bytes : (bytes line : List ℕ) → line_in bytes ≡ Some line → IsLine line × (utf8_of line ≡ bytes)
unfolding line_in
line_of_bytes bytes line e =
    elim (decide (is_utf8 bytes)) [
      | inl u ↦ elim (decide (list_any is_line_end bytes)) [
        | inl end ↦ absurd (none_line line (rw (u, end) at e))
        | inr none ↦
            let utf8 = IsUtf8-from_is_utf8 bytes u in
            let is : utf16_of bytes ≡ line = some_line (utf16_of bytes) line (rw (u, none) at e) in
            rw (← is) (IsLine-utf16_of bytes utf8 none, utf8_of-utf16_of bytes utf8)
      ]
      | inr u ↦ absurd (none_line line (rw u at e))
    ]

-- a line and others
record Joined (a : Option (List ℕ)) (b : Option (List (List ℕ))) (lines : List (List ℕ)) : Type 0 where
  line : List ℕ
  others : List (List ℕ)
  first : a ≡ Some line
  then : b ≡ Some others
  are : line ∷ others ≡ lines

joined_some : (a : Option (List ℕ)) (b : Option (List (List ℕ))) (lines : List (List ℕ))
    → with_line a b ≡ Some lines → Joined a b lines
joined_some None b lines e = absurd cc
joined_some (Some line) None lines e = absurd cc
joined_some (Some line) (Some others) lines e =
    record { line = line; others = others; first = refl; then = refl; are = cc }

abbrev all_lines : List (List ℕ) → Option (List (List ℕ))
all_lines lines = Some lines

lines_same : (a b : List (List ℕ)) → all_lines a ≡ Some b → a ≡ b
lines_same a b e = cc

abbrev no_lines : Option (List (List ℕ))
no_lines = None

no_text : (text : List (List ℕ)) → no_lines ≡ Some text → ⊥
no_text text e = cc

-- a line that is not empty
units_some : (read : Option (List ℕ)) (units : List ℕ) → some_units read ≡ Some units
    → (read ≡ Some units) × (0 < length units)
units_some None units e = absurd cc
units_some (Some line) units e =
    elim (decide (ltb 0 (length line))) [
      | inl some ↦
          let same : line ≡ units = some_line line units (rw some at e) in
          (ap (λ (l : List ℕ). Some l) same, rw (← same) (ltb-true _ _ some))
      | inr none ↦ absurd (none_line units (rw none at e))
    ]

lines_of_parts : (parts lines : List (List ℕ)) → lines_in parts ≡ Some lines
    → All IsLine lines × (map utf8_of lines ≡ parts)
lines_of_parts [] lines e = rw (← lines_same [] lines e) (All-nil IsLine, refl)
lines_of_parts (part ∷ parts) lines e =
    let j = joined_some (line_in part) (lines_in parts) lines e in
    let first = line_of_bytes part j.line j.first in
    let others = lines_of_parts parts j.others j.then in
    rw (← j.are) (All-cons IsLine j.line j.others first.0 others.0, rw (first.1, others.1) refl)

small_some : (read : Option (List (List ℕ))) (text : List (List ℕ)) → small read ≡ Some text
    → (read ≡ Some text) × (size_of text ≤ MAX_SIZE)
small_some None text e = absurd cc
small_some (Some lines) text e =
    elim (cases_lt MAX_SIZE (size_of lines)) [
      | inl large ↦ absurd (no_text text (rw (large_lines lines large) at e))
      | inr le ↦
          let same : lines ≡ text = lines_same lines text (rw (small_lines lines le) at e) in
          (ap all_lines same, rw (← same) le)
    ]

-- what bytes hold is a text, and has these bytes
pub record Holds (bytes : List ℕ) (lines : List (List ℕ)) : Type 0 where
  pub text : IsText lines
  pub bytes_are : utf8_of_text lines ≡ bytes

pub text_of_bytes : (bytes : List ℕ) (text : List (List ℕ)) → text_in bytes ≡ Some text → Holds bytes text
unfolding text_in
text_of_bytes bytes text e =
    let read = small_some (lines_in (parts_of bytes)) text e in
    let l = lines_of_parts (parts_of bytes) text read.0 in
    let count = length-slice_split is_end bytes in
    let same : length text ≡ length (parts_of bytes) = sym (length-map text utf8_of) ∙ ap length l.1 in
    record {
      text = record { whole = l.0; some = omega (arith, count, same); small = read.1 };
      bytes_are = ap (join_with_byte 10) l.1 ∙ join_with_byte-slice_split 10 bytes;
    }

-- a pattern is a line of these bytes, and not empty
pub pattern_of_bytes : (bytes units : List ℕ) → pattern_in bytes ≡ Some units
    → IsPattern units × (utf8_of units ≡ bytes)
unfolding pattern_in
pattern_of_bytes bytes units e =
    let read = units_some (line_in bytes) units e in
    let l = line_of_bytes bytes units read.0 in
    (record { whole = l.0; some = read.1 }, l.1)

-- .. and is read as itself
pub pattern_in-utf8_of : (units : List ℕ) → IsPattern units → pattern_in (utf8_of units) ≡ Some units
unfolding pattern_in
pattern_in-utf8_of units is = rw (line_in-utf8_of units is.whole, lt-ltb _ _ is.some) refl

-- ---- a text is no larger than its bytes

pub line_size : (line : List ℕ) → IsLine line → length line ≤ length (utf8_of line)
line_size line whole = omega (arith, length-utf8_of line whole, (width_bounds line).0)

measured : (text : List (List ℕ)) → All IsLine text → 0 < length text
    → units_of text + length text ≤ length (utf8_of_text text) + 1
measured [] all some = absurd (omega arith)
measured (line ∷ []) all some =
    let units = sum_by-cons length line [] in
    omega (arith, units, line_size line (All-head IsLine line [] all))
measured (line ∷ next ∷ lines) all some =
    let units = sum_by-cons length line (next ∷ lines) in
    let rest = measured (next ∷ lines) (All-tail IsLine line (next ∷ lines) all) (omega arith) in
    let long = length-append (utf8_of line) (10 ∷ utf8_of_text (next ∷ lines)) in
    omega (arith, units, rest, long, line_size line (All-head IsLine line (next ∷ lines) all))

pub text_size : (text : List (List ℕ)) → All IsLine text → 0 < length text
    → size_of text ≤ length (utf8_of_text text)
text_size text all some = omega (arith, measured text all some)

-- ---- no CR is in a text

abbrev pub is_cr : ℕ → Bool
is_cr byte = eqb byte 13

no_cr : (bytes : List ℕ) → list_any is_line_end bytes ≡ false → list_any is_cr bytes ≡ false
no_cr [] h = refl
no_cr (byte ∷ bytes) h =
    let p = or_parts (is_line_end byte) (list_any is_line_end bytes) h in
    let q = or_parts (eqb byte 10) (eqb byte 13) p.0 in
    or_from (is_cr byte) (list_any is_cr bytes) q.1 (no_cr bytes p.1)

pub no_cr-text : (text : List (List ℕ)) → All IsLine text → list_any is_cr (utf8_of_text text) ≡ false
no_cr-text [] all = refl
no_cr-text (line ∷ []) all = no_cr (utf8_of line) (no_ends-utf8 line (All-head IsLine line [] all))
no_cr-text (line ∷ next ∷ lines) all =
    let rest = utf8_of_text (next ∷ lines) in
    let first = no_cr (utf8_of line) (no_ends-utf8 line (All-head IsLine line (next ∷ lines) all)) in
    let others : list_any is_cr (10 ∷ rest) ≡ false = no_cr-text (next ∷ lines) (All-tail IsLine line (next ∷ lines) all) in
    list_any-append is_cr (utf8_of line) (10 ∷ rest) ∙ or_from (list_any is_cr (utf8_of line)) (list_any is_cr (10 ∷ rest)) first others

-- ---- one part after another

-- these lines, and those that are still read
abbrev pub after_lines : List (List ℕ) → Option (List (List ℕ)) → Option (List (List ℕ))
after_lines front None = None
after_lines front (Some lines) = Some (front ++ lines)

-- the lines that are left
abbrev pub lines_left : Option (Bor (List ℕ)) → Option (List (List ℕ))
lines_left None = Some []
lines_left (Some rest) = lines_in (parts_of rest.now)

-- the bytes that are left, with the LF before them
abbrev pub bytes_left : Option (Bor (List ℕ)) → ℕ
bytes_left None = 0
bytes_left (Some rest) = length rest.now + 1

pub part_size : (bytes part : List ℕ) (more : Option (Bor (List ℕ))) → FirstPart bytes part more
    → length part + bytes_left more ≡ length bytes
part_size bytes part None first = omega (arith, ap length first.1)
part_size bytes part (Some rest) first = omega (arith, first.1)

-- the line of the first part, and the lines that are left
first_lines : (bytes part : List ℕ) (more : Option (Bor (List ℕ))) → FirstPart bytes part more
    → lines_in (parts_of bytes) ≡ with_line (line_in part) (lines_left more)
first_lines bytes part None first = ap lines_in first.0
first_lines bytes part (Some rest) first = ap lines_in first.0

-- the first part is no line
pub no_first : (bytes part : List ℕ) (more : Option (Bor (List ℕ))) → FirstPart bytes part more
    → None ≡ line_in part → None ≡ lines_in (parts_of bytes)
no_first bytes part more first e =
    sym (first_lines bytes part more first ∙ ap (λ (line : Option (List ℕ)). with_line line (lines_left more)) (sym e))

one_line : (line : List ℕ) (lines : Option (List (List ℕ))) → with_line (Some line) lines ≡ after_lines (line ∷ []) lines
one_line line None = refl
one_line line (Some lines) = refl

pub first_read : (bytes part line : List ℕ) (more : Option (Bor (List ℕ))) → FirstPart bytes part more
    → Some line ≡ line_in part → after_lines (line ∷ []) (lines_left more) ≡ lines_in (parts_of bytes)
first_read bytes part line more first e =
    sym (first_lines bytes part more first ∙ ap (λ (l : Option (List ℕ)). with_line l (lines_left more)) (sym e)
    ∙ one_line line (lines_left more))

regroup : (front : List (List ℕ)) (line : List ℕ) (lines : Option (List (List ℕ)))
    → after_lines front (after_lines (line ∷ []) lines) ≡ after_lines (front ++ line ∷ []) lines
regroup front line None = refl
regroup front line (Some lines) = ap (λ (ls : List (List ℕ)). Some ls) (simp append_assoc)

-- the next part is no line
pub no_next : (front : List (List ℕ)) (rest part : List ℕ) (more : Option (Bor (List ℕ)))
    (total : Option (List (List ℕ))) → FirstPart rest part more → None ≡ line_in part
    → after_lines front (lines_in (parts_of rest)) ≡ total → None ≡ total
no_next front rest part more total first e so_far = ap (after_lines front) (no_first rest part more first e) ∙ so_far

pub next_read : (front : List (List ℕ)) (rest part line : List ℕ) (more : Option (Bor (List ℕ)))
    (total : Option (List (List ℕ))) → FirstPart rest part more → Some line ≡ line_in part
    → after_lines front (lines_in (parts_of rest)) ≡ total → after_lines (front ++ line ∷ []) (lines_left more) ≡ total
next_read front rest part line more total first e so_far =
    sym (regroup front line (lines_left more)) ∙ ap (after_lines front) (first_read rest part line more first e) ∙ so_far

-- nothing is left
pub last_read : (front : List (List ℕ)) (total : Option (List (List ℕ)))
    → after_lines front (Some []) ≡ total → Some front ≡ total
last_read front total so_far = ap (λ (ls : List (List ℕ)). Some ls) (sym (append-nil front)) ∙ so_far

-- the size of a text with one line more
pub size_more : (text : List (List ℕ)) (line : List ℕ) → 0 < length text
    → size_of (text ++ line ∷ []) ≡ size_of text + length line + 1
size_more text line some =
    let units = sum_by-append length text (line ∷ []) in
    let one = sum_by-cons length line [] in
    omega (arith, units, one, length-append text (line ∷ []))

pub size_one : (line : List ℕ) → size_of (line ∷ []) ≡ length line
size_one line = omega (arith, sum_by-cons length line [])

-- ---- the text of all lines

pub no_lines-text : (bytes : List ℕ) → None ≡ lines_in (parts_of bytes) → None ≡ text_in bytes
unfolding text_in
no_lines-text bytes e = ap small e

pub lines-text : (bytes : List ℕ) (lines : List (List ℕ)) → Some lines ≡ lines_in (parts_of bytes)
    → size_of lines ≤ MAX_SIZE → Some lines ≡ text_in bytes
unfolding text_in
lines-text bytes lines e le = sym (small_lines lines le) ∙ ap small e

size_longer : (front others : List (List ℕ)) → 0 < length front → size_of front ≤ size_of (front ++ others)
size_longer front others some =
    let units = sum_by-append length front others in
    omega (arith, units, length-append front others)

too_large : (front : List (List ℕ)) (more : Option (List (List ℕ))) → 0 < length front
    → MAX_SIZE < size_of front → None ≡ small (after_lines front more)
too_large front None some lt = refl
too_large front (Some others) some lt = sym (large_lines (front ++ others) (omega (arith, lt, size_longer front others some)))

-- the lines that were read are too large already
pub too_large-text : (bytes : List ℕ) (front : List (List ℕ)) (more : Option (List (List ℕ))) → 0 < length front
    → MAX_SIZE < size_of front → after_lines front more ≡ lines_in (parts_of bytes) → None ≡ text_in bytes
unfolding text_in
too_large-text bytes front more some lt so_far = too_large front more some lt ∙ ap small so_far
