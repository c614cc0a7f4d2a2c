-- Saved texts: how long they are, and how they load.
use Rattle.std.proofs.Common.{◌≡◌, ◌≢◌, ◌∙◌, ℕ, zero, suc, ◌+◌, ◌-◌, ◌*◌, ◌^◌, ◌<◌, ◌≤◌, Bool, true, false, ◌&&◌, ◌||◌, List, [], ◌∷◌, ◌++◌, length, take, drop, slice_index, slice_get, sum_by, All, nat_eq, replicate, Option, Some, None, ◌⊎◌, sym, refl, ap, inl, inr, arith, append_assoc, append-nil, length-append, sub-one, add-one, if◌then◌else◌, cond}
use Rattle.std.proofs.lemmas.Bool.{cases_Bool, and_parts, eqb-true}
use Rattle.std.proofs.lemmas.List.Elements.{All-head, All-tail}
use Rattle.std.proofs.lemmas.List.Sums.{sum_by-cons}
use Rattle.std.proofs.lemmas.List.{length-replicate, drop_more}
use Rattle.std.specs.List.{flat_map, starts_with}
use Rattle.kte_text.specs.Units.{IsLine, utf8_of}
use Rattle.kte_text.specs.Utf8.{width}
use Rattle.kte_text.specs.Texts.{IsText, line_at, units_of, size_of}
use Rattle.kte_text.specs.Files.{end_bytes, mark_bytes, joined, HasWholeEnds, Loads}
use Rattle.kte_text.specs.Saving.{writes_mark, bytes_of}
use Rattle.kte_text.specs.Digests.{blob, blob_head}
use Rattle.kte_text.specs.declared.TheConstants.{MAX_SIZE, MAX_FILE_LENGTH}
use Rattle.kte_text.specs.declared.loading.Eol.{Eol}
use Rattle.kte_text.specs.declared.loading.Eol.TheVariants.{Lf, CrLf, Cr}
use Rattle.kte_text.proofs.Utf8Lemmas.{length-utf8_of, width_bounds}

-- a line end and the line after it
abbrev pub ended : Eol → List ℕ → List ℕ
ended eol line = end_bytes eol ++ utf8_of line

-- lines with one kind of end: the first line, and then each with the end before it
pub joined-first : (line : List ℕ) (lines : List (List ℕ)) (eol : Eol)
    → joined (line ∷ lines) (replicate (length lines) eol) ≡ utf8_of line ++ flat_map (ended eol) lines
joined-first line [] eol = sym (append-nil (utf8_of line))
joined-first line (next ∷ rest) eol = rw (joined-first next rest eol) (simp append_assoc)

-- the mark of a saved text
abbrev pub mark_of : List (List ℕ) → Bool → List ℕ
mark_of text mark = if writes_mark text mark then mark_bytes else []

pub bytes_of-first : (text : List (List ℕ)) (eol : Eol) (mark : Bool) → 0 < length text
    → bytes_of text eol mark ≡ mark_of text mark ++ utf8_of (line_at text 0) ++ flat_map (ended eol) (drop 1 text)
bytes_of-first [] eol mark some = absurd (omega arith)
bytes_of-first (line ∷ lines) eol mark some =
    let n : length (line ∷ lines) - 1 ≡ length lines = omega arith in
    ap (λ k. mark_of (line ∷ lines) mark ++ joined (line ∷ lines) (replicate k eol)) n
    ∙ ap (λ bytes. mark_of (line ∷ lines) mark ++ bytes) (joined-first line lines eol)
    ∙ sym (append_assoc (mark_of (line ∷ lines) mark) (utf8_of line) (flat_map (ended eol) lines))

-- the lines from one on begin with its end and itself
pub ended_more : (eol : Eol) (text : List (List ℕ)) (n : ℕ) → n < length text
    → flat_map (ended eol) (drop n text) ≡ end_bytes eol ++ utf8_of (line_at text n) ++ flat_map (ended eol) (drop (n + 1) text)
ended_more eol text n there = ap (flat_map (ended eol)) (drop_more text n [] there)

-- .. and are put behind what is written so far
pub written_more : (written : List ℕ) (eol : Eol) (text : List (List ℕ)) (n : ℕ) → n < length text
    → written ++ end_bytes eol ++ utf8_of (line_at text n) ++ flat_map (ended eol) (drop (n + 1) text)
    ≡ written ++ flat_map (ended eol) (drop n text)
written_more written eol text n there = rw (ended_more eol text n there) (simp append_assoc)

length-end : (eol : Eol) → length (end_bytes eol) ≤ 2
length-end Lf = omega arith
length-end CrLf = omega arith
length-end Cr = omega arith

-- a line takes at most three bytes a unit
pub length-utf8-le : (units : List ℕ) → IsLine units → length (utf8_of units) ≤ 3 * length units
length-utf8-le units line = omega (arith, length-utf8_of units line, (width_bounds units).1)

length-ended-le : (eol : Eol) (lines : List (List ℕ)) → All IsLine lines
    → length (flat_map (ended eol) lines) ≤ 3 * (units_of lines + length lines)
length-ended-le eol [] h = omega arith
length-ended-le eol (line ∷ lines) h =
    let rest = length-ended-le eol lines (All-tail IsLine line lines h) in
    let one = length-utf8-le line (All-head IsLine line lines h) in
    let a = length-append (ended eol line) (flat_map (ended eol) lines) in
    let b = length-append (end_bytes eol) (utf8_of line) in
    let c = sum_by-cons length line lines in
    let e = length-end eol in
    omega (arith, rest, one, a, b, c, e)

length-mark : (text : List (List ℕ)) (mark : Bool) → length (mark_of text mark) ≤ 3
length-mark text mark =
    elim (cases_Bool (writes_mark text mark)) [ inl t ↦ rw t (omega arith) | inr f ↦ rw f (omega arith) ]

-- a saved text is no longer than the longest file that is loaded
pub length-bytes_of-le : (text : List (List ℕ)) (eol : Eol) (mark : Bool) → IsText text
    → length (bytes_of text eol mark) ≤ MAX_FILE_LENGTH
length-bytes_of-le [] eol mark whole = absurd (omega (arith, whole.some))
length-bytes_of-le (line ∷ lines) eol mark whole =
    let text = line ∷ lines in
    let front = mark_of text mark in
    let rest = flat_map (ended eol) lines in
    let e = ap length (bytes_of-first text eol mark whole.some) in
    let a = length-append (front ++ utf8_of line) rest in
    let b = length-append front (utf8_of line) in
    let m = length-mark text mark in
    let one = length-utf8-le line (All-head IsLine line lines whole.whole) in
    let more = length-ended-le eol lines (All-tail IsLine line lines whole.whole) in
    let c = sum_by-cons length line lines in
    let small = whole.small in
    omega (arith, e, a, b, m, one, more, c, small)

-- the length of a saved text, by the same parts
pub length-bytes_of : (text : List (List ℕ)) (eol : Eol) (mark : Bool) → 0 < length text
    → length (bytes_of text eol mark)
    ≡ length (mark_of text mark) + length (utf8_of (line_at text 0)) + length (flat_map (ended eol) (drop 1 text))
length-bytes_of text eol mark some =
    let front = mark_of text mark in
    let first = utf8_of (line_at text 0) in
    let rest = flat_map (ended eol) (drop 1 text) in
    ap length (bytes_of-first text eol mark some) ∙ length-append (front ++ first) rest
    ∙ ap (λ n. n + length rest) (length-append front first)

pub length-ended_more : (eol : Eol) (text : List (List ℕ)) (n : ℕ) → n < length text
    → length (flat_map (ended eol) (drop n text))
    ≡ length (end_bytes eol) + length (utf8_of (line_at text n)) + length (flat_map (ended eol) (drop (n + 1) text))
length-ended_more eol text n there =
    let rest = flat_map (ended eol) (drop (n + 1) text) in
    ap length (ended_more eol text n there) ∙ length-append (end_bytes eol ++ utf8_of (line_at text n)) rest
    ∙ ap (λ k. k + length rest) (length-append (end_bytes eol) (utf8_of (line_at text n)))

regroup : (a b c d : List ℕ) → a ++ b ++ c ++ d ≡ a ++ (b ++ c ++ d)
regroup a b c d = simp append_assoc

-- what is hashed of a saved text, by the same parts
pub blob-first : (text : List (List ℕ)) (eol : Eol) (mark : Bool) (n : ℕ) → 0 < length text → n ≡ length (bytes_of text eol mark)
    → blob_head n ++ mark_of text mark ++ utf8_of (line_at text 0) ++ flat_map (ended eol) (drop 1 text) ≡ blob (bytes_of text eol mark)
blob-first text eol mark n some e =
    regroup (blob_head n) (mark_of text mark) (utf8_of (line_at text 0)) (flat_map (ended eol) (drop 1 text))
    ∙ ap (λ bytes. blob_head n ++ bytes) (sym (bytes_of-first text eol mark some))
    ∙ ap (λ k. blob_head k ++ bytes_of text eol mark) e
