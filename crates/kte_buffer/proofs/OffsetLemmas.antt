-- How a primitive moves the offset of a place.
use Rattle.std.proofs.Common.{◌≡◌, ℕ, ◌+◌, ◌-◌, ◌<◌, ◌≤◌, List, [], ◌∷◌, ◌++◌, length, take, drop, sym, refl, ap, ◌∙◌, subst, length-append, length-take, length-drop, arith, sum_by}
use Rattle.std.proofs.Math.Seq.{take-append-add}
use Rattle.std.proofs.lemmas.Bool.Decides.{nat_tests}
use Rattle.std.proofs.lemmas.List.{take-append-le, take-take, length-take-le}
use Rattle.std.proofs.lemmas.List.Sums.{sum_by-append, sum_by_more, sum_by-take-le}
use Rattle.kte_text.specs.Texts.{line_at}
use Rattle.kte_text.specs.Primitives.{after}
use Rattle.kte_text.specs.declared.primitive.Primitive.TheVariants.{Wrap, Unwrap, Insert, Remove}
use Rattle.kte_place.specs.Entry.{carry, wrap, unwrap, insertion, removal}
use Rattle.kte_place.specs.declared.place.Place.{Place}
use Rattle.kte_place.specs.declared.place.OnInsert.{OnInsert}
use Rattle.kte_place.specs.declared.place.OnInsert.TheVariants.{Stay, Move}
use Rattle.kte_buffer.specs.Entries.{entry}
use Rattle.kte_text.specs.Flat.{start_of}
use Rattle.kte_buffer.specs.Offset.{offset, shift, IsInText}
use Rattle.kte_buffer.specs.Laws.{CarriesOffsets}
use Rattle.kte_text.proofs.FlatLemmas.{split_at, split_two, set_line}

-- a line with its line end
abbrev width : List ℕ → ℕ
width units = length units + 1

-- an earlier line, with its line end, ends before a later one starts
start_later : (text : List (List ℕ)) (m n : ℕ) → m < n → m < length text → start_of text m + length (line_at text m) + 1 ≤ start_of text n
start_later text m n later within =
    let one = sum_by_more width text m [] within in
    let part = sum_by-take-le width (take n text) (m + 1) in
    let same = take-take (m + 1) n text (omega arith) in
    omega (arith, ap (sum_by width) same)

-- lines up to the one from which two texts differ
start_before : (front rest : List (List ℕ)) (n : ℕ) → n ≤ length front → start_of (front ++ rest) n ≡ start_of front n
start_before front rest n le = ap (sum_by width) (take-append-le n front rest le)

-- lines after those by which two texts differ
start_after : (front mid back : List (List ℕ)) (n : ℕ)
    → start_of (front ++ (mid ++ back)) (length front + (length mid + n)) ≡ sum_by width front + (sum_by width mid + start_of back n)
start_after front mid back n =
    ap (sum_by width) (take-append-add front (mid ++ back) (length mid + n) ∙ ap (λ xs. front ++ xs) (take-append-add mid back n))
    ∙ sum_by-append width front (mid ++ take n back)
    ∙ ap (λ k. sum_by width front + k) (sum_by-append width mid (take n back))

-- Two texts that differ by some lines: where the lines before and after those start
record Differ (old new : List (List ℕ)) (first gone come less more : ℕ) : Type 0 where
  before : (n : ℕ) → n ≤ first → start_of new n ≡ start_of old n
  later : (n m : ℕ) → first + gone ≤ n → m + gone ≡ n + come → start_of new m + less ≡ start_of old n + more

differ : (front gone come back : List (List ℕ)) (old new : List (List ℕ)) (first : ℕ) → length front ≡ first
    → old ≡ front ++ (gone ++ back) → new ≡ front ++ (come ++ back)
    → Differ old new first (length gone) (length come) (sum_by width gone) (sum_by width come)
differ front gone come back old new first long was is =
    record {
      before = λ n le.
          ap (λ t. start_of t n) is ∙ start_before front (come ++ back) n (omega arith)
          ∙ sym (ap (λ t. start_of t n) was ∙ start_before front (gone ++ back) n (omega arith));
      later = λ n m far alike.
          let k = n - (first + length gone) in
          let a : n ≡ length front + (length gone + k) = omega arith in
          let b : m ≡ length front + (length come + k) = omega arith in
          let s = ap (λ t. start_of t n) was ∙ ap (start_of (front ++ (gone ++ back))) a ∙ start_after front gone back k in
          let t = ap (λ t. start_of t m) is ∙ ap (start_of (front ++ (come ++ back))) b ∙ start_after front come back k in
          omega (arith, s, t);
    }

-- how a cut moves the starts of lines and a cursor's offset, over plain numbers
wrap_moves : (f g : ℕ → ℕ) (l k : ℕ) (p : Place) (on : OnInsert)
    → (p.line ≤ l → g p.line ≡ f p.line) → g (l + 1) ≡ f l + k + 1 → (l < p.line → g (p.line + 1) ≡ f p.line + 1)
    → (p.line < l → f p.line + p.column < f l) → (l < p.line → f l + k < f p.line)
    → let q = carry (wrap l k) p on in g q.line + q.column ≡ shift (f l + k) 0 1 on (f p.line + p.column)
wrap_moves f g l k p Stay before next later less more = grind (arith, nat_tests)
wrap_moves f g l k p Move before next later less more = grind (arith, nat_tests)

-- .. with a join
unwrap_moves : (f g : ℕ → ℕ) (l old : ℕ) (p : Place) (on : OnInsert) → 0 < l
    → (p.line ≤ l - 1 → g p.line ≡ f p.line) → g (l - 1) ≡ f (l - 1) → f l ≡ f (l - 1) + old + 1
    → (l < p.line → g (p.line - 1) + 1 ≡ f p.line)
    → (p.line < l - 1 → f p.line + p.column < f (l - 1)) → (p.line ≡ l - 1 → p.column ≤ old) → (l < p.line → f l < f p.line)
    → let q = carry (unwrap l old) p on in
    g q.line + q.column ≡ shift (f (l - 1) + old) 1 0 on (f p.line + p.column)
unwrap_moves f g l old p Stay joined before first next later less here more = grind (arith, nat_tests)
unwrap_moves f g l old p Move joined before first next later less here more = grind (arith, nat_tests)

-- .. with an insertion
insert_moves : (f g : ℕ → ℕ) (l k units old : ℕ) (p : Place) (on : OnInsert)
    → (p.line ≤ l → g p.line ≡ f p.line) → (l < p.line → g p.line ≡ f p.line + units)
    → (p.line < l → f p.line + p.column < f l) → (p.line ≡ l → p.column ≤ old) → (l < p.line → f l + k < f p.line)
    → let q = carry (insertion l k units old) p on in
    g q.line + q.column ≡ shift (f l + k) 0 units on (f p.line + p.column)
insert_moves f g l k units old p Stay before later less here more = grind (arith, nat_tests)
insert_moves f g l k units old p Move before later less here more = grind (arith, nat_tests)

-- .. with a removal
remove_moves : (f g : ℕ → ℕ) (l k units : ℕ) (p : Place) (on : OnInsert)
    → (p.line ≤ l → g p.line ≡ f p.line) → (l < p.line → g p.line + units ≡ f p.line)
    → (p.line < l → f p.line + p.column < f l) → (l < p.line → f l + k + units < f p.line)
    → let q = carry (removal l k units) p on in
    g q.line + q.column ≡ shift (f l + k) units 0 on (f p.line + p.column)
remove_moves f g l k units p Stay before later less more = grind (arith, nat_tests)
remove_moves f g l k units p Move before later less more = grind (arith, nat_tests)

-- a place in a line stands before the end of it
pub before_later : (text : List (List ℕ)) (n : ℕ) (p : Place) → IsInText text p → p.line < n → offset text p < start_of text n
before_later text n p in_text less = omega (arith, start_later text p.line n less in_text.line, in_text.column)

carry_over_wrap : (line column : ℕ) (text : List (List ℕ)) (p : Place) (on : OnInsert)
    → line < length text → column ≤ length (line_at text line) → IsInText text p
    → offset (after (Wrap line column) text) (carry (entry (Wrap line column) text) p on)
    ≡ shift (start_of text line + column) 0 1 on (offset text p)
carry_over_wrap line column text p on inside within in_text =
    let l = line_at text line in
    let front = take line text in
    let back = drop (line + 1) text in
    let new = after (Wrap line column) text in
    let long : length front ≡ line = length-take-le line text (omega arith) in
    let d = differ front (l ∷ []) (take column l ∷ drop column l ∷ []) back text new line long (split_at text line inside) refl in
    let e : length (take column l) + length (drop column l) ≡ length l = omega (arith, length-take column l, length-drop column l) in
    let next : start_of new (line + 1) ≡ start_of text line + column + 1 =
    let s = start_after front (take column l ∷ []) (drop column l ∷ back) 0 in
    let t : length front + (1 + 0) ≡ line + 1 = omega arith in
    omega (arith, s, ap (start_of new) t, length-take-le column l within) in
    wrap_moves (start_of text) (start_of new) line column p on (d.before p.line) next
    (λ far. omega (arith, d.later p.line (p.line + 1) (omega arith) (omega arith), e))
    (before_later text line p in_text)
    (λ far. omega (arith, start_later text line p.line far inside))

carry_over_unwrap : (line : ℕ) (text : List (List ℕ)) (p : Place) (on : OnInsert) → 0 < line → line < length text → IsInText text p
    → offset (after (Unwrap line) text) (carry (entry (Unwrap line) text) p on)
    ≡ shift (start_of text (line - 1) + length (line_at text (line - 1))) 1 0 on (offset text p)
carry_over_unwrap line text p on joined inside in_text =
    let a = line_at text (line - 1) in
    let b = line_at text line in
    let front = take (line - 1) text in
    let back = drop (line + 1) text in
    let new = after (Unwrap line) text in
    let long : length front ≡ line - 1 = length-take-le (line - 1) text (omega arith) in
    let d = differ front (a ∷ b ∷ []) ((a ++ b) ∷ []) back text new (line - 1) long (split_two text (line - 1) line (omega arith) inside) refl in
    let next : start_of text line ≡ start_of text (line - 1) + length a + 1 =
    let t : line ≡ line - 1 + 1 = omega arith in
    omega (arith, ap (start_of text) t, sum_by_more width text (line - 1) [] (omega arith)) in
    unwrap_moves (start_of text) (start_of new) line (length a) p on joined (d.before p.line) (d.before (line - 1) (omega arith)) next
    (λ far. omega (arith, d.later p.line (p.line - 1) (omega arith) (omega arith), length-append a b))
    (before_later text (line - 1) p in_text)
    (λ here. subst (λ n. p.column ≤ length (line_at text n)) here in_text.column)
    (λ far. omega (arith, start_later text line p.line far inside))

carry_over_insert : (line column : ℕ) (units : List ℕ) (text : List (List ℕ)) (p : Place) (on : OnInsert)
    → line < length text → column ≤ length (line_at text line) → IsInText text p
    → offset (after (Insert line column units) text) (carry (entry (Insert line column units) text) p on)
    ≡ shift (start_of text line + column) 0 (length units) on (offset text p)
carry_over_insert line column units text p on inside within in_text =
    let l = line_at text line in
    let come = take column l ++ units ++ drop column l in
    let new = after (Insert line column units) text in
    let d = differ (take line text) (l ∷ []) (come ∷ []) (drop (line + 1) text) text new line
    (length-take-le line text (omega arith)) (split_at text line inside) (set_line text line come inside) in
    let e : length come ≡ length l + length units =
    omega (arith, length-append (take column l ++ units) (drop column l), length-append (take column l) units, length-take column l, length-drop column l) in
    insert_moves (start_of text) (start_of new) line column (length units) (length l) p on (d.before p.line)
    (λ far. omega (arith, d.later p.line p.line (omega arith) refl, e))
    (before_later text line p in_text)
    (λ here. subst (λ n. p.column ≤ length (line_at text n)) here in_text.column)
    (λ far. omega (arith, start_later text line p.line far inside))

carry_over_remove : (line column units : ℕ) (text : List (List ℕ)) (p : Place) (on : OnInsert)
    → line < length text → column + units ≤ length (line_at text line) → IsInText text p
    → offset (after (Remove line column units) text) (carry (entry (Remove line column units) text) p on)
    ≡ shift (start_of text line + column) units 0 on (offset text p)
carry_over_remove line column units text p on inside within in_text =
    let l = line_at text line in
    let come = take column l ++ drop (column + units) l in
    let new = after (Remove line column units) text in
    let d = differ (take line text) (l ∷ []) (come ∷ []) (drop (line + 1) text) text new line
    (length-take-le line text (omega arith)) (split_at text line inside) (set_line text line come inside) in
    let e : length come + units ≡ length l =
    omega (arith, length-append (take column l) (drop (column + units) l), length-take column l, length-drop (column + units) l) in
    remove_moves (start_of text) (start_of new) line column units p on (d.before p.line)
    (λ far. omega (arith, d.later p.line p.line (omega arith) refl, e))
    (before_later text line p in_text)
    (λ far. omega (arith, start_later text line p.line far inside))

pub carries_offsets : CarriesOffsets
carries_offsets (Wrap line column) text p on (inside, at, small) in_text = carry_over_wrap line column text p on inside at.within in_text
carries_offsets (Unwrap line) text p on (joined, inside) in_text = carry_over_unwrap line text p on joined inside in_text
carries_offsets (Insert line column units) text p on (inside, at, small) in_text =
    carry_over_insert line column units text p on inside at.within in_text
carries_offsets (Remove line column units) text p on (inside, at, end) in_text =
    carry_over_remove line column units text p on inside end.within in_text
