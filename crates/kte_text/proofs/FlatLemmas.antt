-- A text as one list: what each primitive does to it.
use Rattle.std.proofs.Common.{◌≡◌, ◌≢◌, All, ℕ, ◌+◌, ◌-◌, ◌<◌, ◌≤◌, List, [], ◌∷◌, ◌++◌, length, take, drop, sym, refl, ap, ◌∙◌, append_assoc, length-append, length-drop, take-append-drop, arith, add-one, sum_by, set}
use Rattle.std.proofs.lemmas.List.{drop_more, take_at, drop_at, set_split, length-take-le, drop-drop}
use Rattle.std.proofs.lemmas.List.Sums.{sum_by-cons}
use Rattle.std.proofs.lemmas.List.Elements.{All-head, All-tail, All-weaker}
use Rattle.std.specs.List.{flat_map}
use Rattle.kte_text.specs.Units.{IsLineUnit, IsLine}
use Rattle.kte_text.specs.Texts.{line_at, size_of, IsText}
use Rattle.kte_text.specs.Primitives.{FitsText, after}
use Rattle.kte_text.specs.declared.primitive.Primitive.{Primitive}
use Rattle.kte_text.specs.declared.primitive.Primitive.TheVariants.{Wrap, Unwrap, Insert, Remove}
use Rattle.kte_text.specs.Flat.{flatten, start_of, spliced, splice_at, taken_by, given}

-- lines, each with its line end
abbrev ended : List (List ℕ) → List ℕ
ended lines = flat_map (λ line. line ++ 10 ∷ []) lines

-- lines, each after a line end
abbrev begun : List (List ℕ) → List ℕ
begun lines = flat_map (λ line. 10 ∷ line) lines

begun-around : (front : List (List ℕ)) (line : List ℕ) (back : List (List ℕ))
    → begun (front ++ line ∷ back) ≡ 10 ∷ (ended front ++ (line ++ begun back))
begun-around [] line back = refl
begun-around (x ∷ front) line back = rw (begun-around front line back) (simp append_assoc)

-- a text around one of its lines
flatten-around : (front : List (List ℕ)) (line : List ℕ) (back : List (List ℕ))
    → flatten (front ++ line ∷ back) ≡ ended front ++ (line ++ begun back)
flatten-around [] line back = refl
flatten-around (x ∷ front) line back = rw (begun-around front line back) (simp append_assoc)

length-ended : (lines : List (List ℕ)) → length (ended lines) ≡ sum_by (λ units. length units + 1) lines
length-ended [] = refl
length-ended (x ∷ lines) =
    omega (
      arith,
      length-append (x ++ 10 ∷ []) (ended lines),
      length-append x (10 ∷ []),
      sum_by-cons (λ (units : List ℕ). length units + 1) x lines,
      length-ended lines,
    )

length-begun : (lines : List (List ℕ)) → length (begun lines) ≡ sum_by (λ units. length units) lines + length lines
length-begun [] = refl
length-begun (x ∷ lines) =
    omega (arith, length-append x (begun lines), sum_by-cons (λ (units : List ℕ). length units) x lines, length-begun lines)

-- a text around the line of a number
pub split_at : (text : List (List ℕ)) (n : ℕ) → n < length text → text ≡ take n text ++ line_at text n ∷ drop (n + 1) text
split_at text n within = sym (take-append-drop n text) ∙ ap (λ xs. take n text ++ xs) (drop_more text n [] within)

-- the end of a line is within the text
pub end_within : (text : List (List ℕ)) (n : ℕ) → n < length text → start_of text n + length (line_at text n) ≤ length (flatten text)
end_within text n within =
    let l = line_at text n in
    let front = take n text in
    let back = begun (drop (n + 1) text) in
    let whole : flatten text ≡ ended front ++ (l ++ back) = ap flatten (split_at text n within) ∙ flatten-around front l (drop (n + 1) text) in
    omega (arith, ap length whole, length-append (ended front) (l ++ back), length-append l back, length-ended front)

-- units in place of others, as a splice
splices : (front gone come back : List ℕ) (old new : List ℕ) (at taken : ℕ)
    → old ≡ front ++ (gone ++ back) → new ≡ front ++ (come ++ back) → length front ≡ at → length gone ≡ taken
    → new ≡ spliced at taken come old
splices front gone come back old new at taken was is before cut =
    let first : take at old ≡ front = rw was (take_at front (gone ++ back) at before) in
    let last : drop (at + taken) old ≡ back =
    rw (was, ← append_assoc) (drop_at (front ++ gone) back (at + taken) (omega (arith, length-append front gone))) in
    rw (is, first, last) (sym (append_assoc front come back))

-- a line is cut at a column
cut_at : (front line back : List ℕ) (column : ℕ) → front ++ (line ++ back) ≡ (front ++ take column line) ++ (drop column line ++ back)
cut_at front line back column =
    ap (λ (l : List ℕ). front ++ (l ++ back)) (sym (take-append-drop column line)) ∙ simp append_assoc

-- .. and at a later one
cut_twice : (front line back : List ℕ) (column units : ℕ)
    → front ++ (line ++ back) ≡ (front ++ take column line) ++ (take units (drop column line) ++ (drop (column + units) line ++ back))
cut_twice front line back column units =
    cut_at front line back column
    ∙ ap (λ (l : List ℕ). (front ++ take column line) ++ (l ++ back)) (sym (take-append-drop units (drop column line)))
    ∙ simp (append_assoc, drop-drop)

-- the units up to a column of a line
length_up_to : (text : List (List ℕ)) (line column : ℕ) → column ≤ length (line_at text line)
    → length (ended (take line text) ++ take column (line_at text line)) ≡ start_of text line + column
length_up_to text line column within =
    omega (
      arith,
      length-append (ended (take line text)) (take column (line_at text line)),
      length-ended (take line text),
      length-take-le column (line_at text line) within,
    )

-- another line in place of one
pub set_line : (text : List (List ℕ)) (n : ℕ) (new : List ℕ) → n < length text
    → set text n new ≡ take n text ++ new ∷ drop (n + 1) text
set_line text n new within = rw add-one (set_split text n new within)

-- a text around two lines that follow each other
pub split_two : (text : List (List ℕ)) (m n : ℕ) → m + 1 ≡ n → n < length text
    → text ≡ take m text ++ line_at text m ∷ line_at text n ∷ drop (n + 1) text
split_two text m n next within =
    split_at text m (omega arith)
    ∙ ap (λ xs. take m text ++ line_at text m ∷ xs) (ap (λ k. drop k text) next ∙ drop_more text n [] within)

splice_wrap : (line column : ℕ) (text : List (List ℕ)) → line < length text → column ≤ length (line_at text line)
    → flatten (after (Wrap line column) text) ≡ spliced (start_of text line + column) 0 (10 ∷ []) (flatten text)
splice_wrap line column text inside within =
    let l = line_at text line in
    let front = take line text in
    let back = drop (line + 1) text in
    splices (ended front ++ take column l) [] (10 ∷ []) (drop column l ++ begun back) _ _ _ _
    (ap flatten (split_at text line inside) ∙ flatten-around front l back ∙ cut_at (ended front) l (begun back) column)
    (flatten-around front (take column l) (drop column l ∷ back) ∙ simp append_assoc)
    (length_up_to text line column within)
    refl

splice_insert : (line column : ℕ) (units : List ℕ) (text : List (List ℕ)) → line < length text → column ≤ length (line_at text line)
    → flatten (after (Insert line column units) text) ≡ spliced (start_of text line + column) 0 units (flatten text)
splice_insert line column units text inside within =
    let l = line_at text line in
    let front = take line text in
    let back = drop (line + 1) text in
    let new = take column l ++ units ++ drop column l in
    splices (ended front ++ take column l) [] units (drop column l ++ begun back) _ _ _ _
    (ap flatten (split_at text line inside) ∙ flatten-around front l back ∙ cut_at (ended front) l (begun back) column)
    (ap flatten (set_line text line new inside) ∙ flatten-around front new back ∙ simp append_assoc)
    (length_up_to text line column within)
    refl

splice_remove : (line column units : ℕ) (text : List (List ℕ)) → line < length text → column + units ≤ length (line_at text line)
    → flatten (after (Remove line column units) text) ≡ spliced (start_of text line + column) units [] (flatten text)
splice_remove line column units text inside within =
    let l = line_at text line in
    let front = take line text in
    let back = drop (line + 1) text in
    let new = take column l ++ drop (column + units) l in
    splices (ended front ++ take column l) (take units (drop column l)) [] (drop (column + units) l ++ begun back) _ _ _ _
    (ap flatten (split_at text line inside) ∙ flatten-around front l back ∙ cut_twice (ended front) l (begun back) column units)
    (ap flatten (set_line text line new inside) ∙ flatten-around front new back ∙ simp append_assoc)
    (length_up_to text line column (omega arith))
    (length-take-le units (drop column l) (omega (arith, length-drop column l)))

splice_unwrap : (before line : ℕ) (text : List (List ℕ)) → before + 1 ≡ line → line < length text
    → flatten (take before text ++ (line_at text before ++ line_at text line) ∷ drop (line + 1) text)
    ≡ spliced (start_of text before + length (line_at text before)) 1 [] (flatten text)
splice_unwrap before line text next inside =
    let a = line_at text before in
    let b = line_at text line in
    let front = take before text in
    let back = drop (line + 1) text in
    splices (ended front ++ a) (10 ∷ []) [] (b ++ begun back) _ _ (start_of text before + length a) 1
    (ap flatten (split_two text before line next inside) ∙ flatten-around front a (b ∷ back) ∙ simp append_assoc)
    (flatten-around front (a ++ b) back ∙ simp append_assoc)
    (omega (arith, length-append (ended front) a, length-ended front))
    refl

-- a primitive that fits is one splice
pub is_one_splice : (p : Primitive) (text : List (List ℕ)) → FitsText p text
    → flatten (after p text) ≡ spliced (splice_at p text) (taken_by p) (given p) (flatten text)
is_one_splice (Wrap line column) text (inside, at, small) = splice_wrap line column text inside at.within
is_one_splice (Unwrap line) text (joined, inside) = splice_unwrap (line - 1) line text (omega arith) inside
is_one_splice (Insert line column units) text (inside, at, small) = splice_insert line column units text inside at.within
is_one_splice (Remove line column units) text (inside, at, end) = splice_remove line column units text inside end.within

-- the length of the list
pub length-flatten : (text : List (List ℕ)) → 0 < length text → length (flatten text) ≡ size_of text
length-flatten [] some = absurd (omega arith)
length-flatten (x ∷ lines) some =
    omega (arith, length-append x (begun lines), length-begun lines, sum_by-cons (λ (units : List ℕ). length units) x lines)

-- no unit of a line ends it
abbrev NoEnd : List ℕ → Type 0
NoEnd units = All (λ u. u ≢ 10) units

-- where two lines and what follows them, each part of which begins with a line end, are equal, the
-- lines are
same_line : (a b : List ℕ) (ls ms : List (List ℕ)) → NoEnd a → NoEnd b → a ++ begun ls ≡ b ++ begun ms → (a ≡ b) × (begun ls ≡ begun ms)
same_line [] [] ls ms ha hb same = (refl, same)
same_line [] (y ∷ b) [] ms ha hb same = absurd (cc)
same_line [] (y ∷ b) (l ∷ ls) ms ha hb same =
    let e : 10 ≡ y = cc in
    absurd (All-head (λ u. u ≢ 10) y b hb (sym e))
same_line (x ∷ a) [] ls [] ha hb same = absurd (cc)
same_line (x ∷ a) [] ls (l ∷ ms) ha hb same =
    let e : x ≡ 10 = cc in
    absurd (All-head (λ u. u ≢ 10) x a ha e)
same_line (x ∷ a) (y ∷ b) ls ms ha hb same =
    let e : x ≡ y = cc in
    let f : a ++ begun ls ≡ b ++ begun ms = cc in
    let r = same_line a b ls ms (All-tail (λ u. u ≢ 10) x a ha) (All-tail (λ u. u ≢ 10) y b hb) f in
    (let g = r.0 in cc, r.1)

same_lines_begun : (ls ms : List (List ℕ)) → All NoEnd ls → All NoEnd ms → begun ls ≡ begun ms → ls ≡ ms
same_lines_begun [] [] ha hb same = refl
same_lines_begun [] (b ∷ ms) ha hb same = absurd (cc)
same_lines_begun (a ∷ ls) [] ha hb same = absurd (cc)
same_lines_begun (a ∷ ls) (b ∷ ms) ha hb same =
    let e : a ++ begun ls ≡ b ++ begun ms = cc in
    let r = same_line a b ls ms (All-head NoEnd a ls ha) (All-head NoEnd b ms hb) e in
    let rest = same_lines_begun ls ms (All-tail NoEnd a ls ha) (All-tail NoEnd b ms hb) r.1 in
    let first = r.0 in
    cc

no_ends : (text : List (List ℕ)) → IsText text → All NoEnd text
no_ends text whole =
    All-weaker IsLine NoEnd (λ units line. All-weaker IsLineUnit (λ u. u ≢ 10) (λ u plain. plain.1) units line.plain) text whole.whole

-- a text is known by its list
pub is_known_by_units : (a b : List (List ℕ)) → IsText a → IsText b → flatten a ≡ flatten b → a ≡ b
is_known_by_units [] b ha hb same = absurd (omega (arith, ha.some))
is_known_by_units (x ∷ a) [] ha hb same = absurd (omega (arith, hb.some))
is_known_by_units (x ∷ a) (y ∷ b) ha hb same =
    same_lines_begun (x ∷ a) (y ∷ b) (no_ends (x ∷ a) ha) (no_ends (y ∷ b) hb) (ap (λ xs. 10 ∷ xs) same)
