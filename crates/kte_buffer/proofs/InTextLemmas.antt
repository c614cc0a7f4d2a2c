-- Places in a text and their offsets.
use Rattle.std.proofs.Common.{◌≡◌, ℕ, suc, ◌+◌, ◌-◌, ◌<◌, ◌≤◌, ⊎_elim, IsTrue, ◌↔◌, List, [], ◌∷◌, ◌++◌, length, take, drop, sym, refl, ap, ◌∙◌, length-append, length-drop, arith}
use Rattle.std.proofs.lemmas.Bool.{cases_lt}
use Rattle.std.proofs.lemmas.Bool.Decides.{nat_tests}
use Rattle.std.proofs.lemmas.List.{get_or_append_left, get_or-append-add, length-take-le}
use Rattle.std.proofs.lemmas.List.Sums.{sum_by-cons}
use Rattle.kte_text.specs.Texts.{line_at}
use Rattle.kte_text.specs.Primitives.{FitsText, after}
use Rattle.kte_text.specs.declared.primitive.Primitive.{Primitive}
use Rattle.kte_text.specs.declared.primitive.Primitive.TheVariants.{Wrap, Unwrap, Insert, Remove}
use Rattle.kte_place.specs.Place.{at, is_at_or_before}
use Rattle.kte_place.specs.Entry.{carry, wrap, unwrap, insertion, removal}
use Rattle.kte_place.specs.declared.place.Place.{Place}
use Rattle.kte_place.specs.declared.place.OnInsert.{OnInsert}
use Rattle.kte_place.specs.declared.place.OnInsert.TheVariants.{Stay, Move}
use Rattle.kte_buffer.specs.Entries.{entry}
use Rattle.kte_buffer.proofs.CallerLemmas.{carried_within}
use Rattle.kte_text.specs.Flat.{flatten, start_of}
use Rattle.kte_buffer.specs.Offset.{offset, IsInText}
use Rattle.kte_buffer.specs.Laws.{IsOrderOfOffsets, IsKnownByOffset, HasPlace, StaysInside}
use Rattle.kte_text.proofs.FlatLemmas.{split_at, split_two, set_line}
use Rattle.kte_buffer.proofs.OffsetLemmas.{before_later}

-- the order of places, by the starts of their lines
order_from_starts : (f : ℕ → ℕ) (p q : Place)
    → (p.line < q.line → f p.line + p.column < f q.line) → (q.line < p.line → f q.line + q.column < f p.line)
    → IsTrue (is_at_or_before p q) ↔ (f p.line + p.column ≤ f q.line + q.column)
order_from_starts f p q less more = (λ h. grind (arith, nat_tests), λ h. grind (arith, nat_tests))

pub is_order_of_offsets : IsOrderOfOffsets
is_order_of_offsets text p q in_p in_q =
    order_from_starts (start_of text) p q (before_later text q.line p in_p) (before_later text p.line q in_q)

same_place : (p q : Place) → p.line ≡ q.line → p.column ≡ q.column → p ≡ q
same_place p q l c = ap (λ n. at n p.column) l ∙ ap (λ k. at q.line k) c

pub is_known_by_offset : IsKnownByOffset
is_known_by_offset text p q in_p in_q same =
    ⊎_elim (λ less. absurd (omega (arith, before_later text q.line p in_p less)))
    (λ le. ⊎_elim (λ less. absurd (omega (arith, before_later text p.line q in_q less)))
    (λ ge.
    let l : p.line ≡ q.line = omega arith in
    let s : start_of text p.line ≡ start_of text q.line = ap (start_of text) l in
    same_place p q l (omega arith))
    (cases_lt q.line p.line))
    (cases_lt p.line q.line)

-- a place in the lines after the first one
after_first : (x : List ℕ) (lines : List (List ℕ)) (p : Place) → IsInText lines p
    → IsInText (x ∷ lines) (at (suc p.line) p.column) × (offset (x ∷ lines) (at (suc p.line) p.column) ≡ length x + 1 + offset lines p)
after_first x lines p in_text = (
  record { line = omega (arith, in_text.line); column = in_text.column },
  omega (arith, sum_by-cons (λ (units : List ℕ). length units + 1) x (take p.line lines)),
)

pub has_place : HasPlace
has_place [] x some within = absurd (omega arith)
has_place (l ∷ []) x some within =
    (at 0 x, record { line = omega arith; column = omega (arith, length-append l []) }, omega arith)
has_place (l ∷ m ∷ lines) x some within =
    ⊎_elim
    (λ later.
    let e : length (flatten (l ∷ m ∷ lines)) ≡ length l + 1 + length (flatten (m ∷ lines)) =
    omega (arith, length-append l (10 ∷ (flatten (m ∷ lines)))) in
    let found = has_place (m ∷ lines) (x - (length l + 1)) (omega arith) (omega arith) in
    let made = after_first l (m ∷ lines) found.0 found.1 in
    (at (suc found.0.line) found.0.column, made.0, omega (arith, made.1, found.2)))
    (λ here. (at 0 x, record { line = omega arith; column = here }, omega arith))
    (cases_lt (length l) x)

-- the lines of two texts that differ by some
line_before : (front rest : List (List ℕ)) (n : ℕ) → n < length front → line_at (front ++ rest) n ≡ line_at front n
line_before front rest n less = get_or_append_left front rest [] n less

line_mid : (front mid back : List (List ℕ)) (n : ℕ) → n < length mid → line_at (front ++ (mid ++ back)) (length front + n) ≡ line_at mid n
line_mid front mid back n less = get_or-append-add front (mid ++ back) n [] ∙ get_or_append_left mid back [] n less

line_later : (front mid back : List (List ℕ)) (n : ℕ)
    → line_at (front ++ (mid ++ back)) (length front + (length mid + n)) ≡ line_at back n
line_later front mid back n = get_or-append-add front (mid ++ back) (length mid + n) [] ∙ get_or-append-add mid back n []

record Lines (old new : List (List ℕ)) (first : ℕ) (gone come : List (List ℕ)) : Type 0 where
  before : (n : ℕ) → n < first → length (line_at new n) ≡ length (line_at old n)
  made : (n k : ℕ) → n ≡ first + k → k < length come → length (line_at new n) ≡ length (line_at come k)
  later : (n m : ℕ) → first + length gone ≤ n → m + length gone ≡ n + length come → length (line_at new m) ≡ length (line_at old n)

lines : (front gone come back : List (List ℕ)) (old new : List (List ℕ)) (first : ℕ) → length front ≡ first
    → old ≡ front ++ (gone ++ back) → new ≡ front ++ (come ++ back) → Lines old new first gone come
lines front gone come back old new first long was is =
    record {
      before = λ n less. ap length
          (ap (λ t. line_at t n) is ∙ line_before front (come ++ back) n (omega arith)
          ∙ sym (ap (λ t. line_at t n) was ∙ line_before front (gone ++ back) n (omega arith)));
      made = λ n k at_k less. ap length
          (ap (λ t. line_at t n) is ∙ ap (line_at (front ++ (come ++ back))) (let e : n ≡ length front + k = omega arith in e)
          ∙ line_mid front come back k less);
      later = λ n m far alike.
          let k = n - (first + length gone) in
          let a : n ≡ length front + (length gone + k) = omega arith in
          let b : m ≡ length front + (length come + k) = omega arith in
          ap length
          (ap (λ t. line_at t m) is ∙ ap (line_at (front ++ (come ++ back))) b ∙ line_later front come back k
          ∙ sym (ap (λ t. line_at t n) was ∙ ap (line_at (front ++ (gone ++ back))) a ∙ line_later front gone back k));
    }

-- the column of a carried cursor is within its line, over plain numbers
wrap_within : (f g : ℕ → ℕ) (l k : ℕ) (p : Place) (on : OnInsert)
    → (p.line < l → g p.line ≡ f p.line) → g l ≡ k → g (l + 1) + k ≡ f l → (l < p.line → g (p.line + 1) ≡ f p.line) → p.column ≤ f p.line
    → let q = carry (wrap l k) p on in q.column ≤ g q.line
wrap_within f g l k p Stay before here next later inside = grind (arith, nat_tests)
wrap_within f g l k p Move before here next later inside = grind (arith, nat_tests)

unwrap_within : (f g : ℕ → ℕ) (l : ℕ) (p : Place) (on : OnInsert) → 0 < l
    → (p.line < l - 1 → g p.line ≡ f p.line) → g (l - 1) ≡ f (l - 1) + f l → (l < p.line → g (p.line - 1) ≡ f p.line)
    → p.column ≤ f p.line → let q = carry (unwrap l (f (l - 1))) p on in q.column ≤ g q.line
unwrap_within f g l p on joined before here later inside = grind (arith, nat_tests)

insert_within : (f g : ℕ → ℕ) (l k units : ℕ) (p : Place) (on : OnInsert)
    → (p.line < l → g p.line ≡ f p.line) → g l ≡ f l + units → (l < p.line → g p.line ≡ f p.line) → p.column ≤ f p.line
    → let q = carry (insertion l k units (f l)) p on in q.column ≤ g q.line
insert_within f g l k units p Stay before here later inside = grind (arith, nat_tests)
insert_within f g l k units p Move before here later inside = grind (arith, nat_tests)

remove_within : (f g : ℕ → ℕ) (l k units : ℕ) (p : Place) (on : OnInsert)
    → (p.line < l → g p.line ≡ f p.line) → g l + units ≡ f l → k + units ≤ f l → (l < p.line → g p.line ≡ f p.line) → p.column ≤ f p.line
    → let q = carry (removal l k units) p on in q.column ≤ g q.line
remove_within f g l k units p on before here fits later inside = grind (arith, nat_tests)

column_in_wrap : (line column : ℕ) (text : List (List ℕ)) (p : Place) (on : OnInsert)
    → line < length text → column ≤ length (line_at text line) → IsInText text p
    → let q = carry (entry (Wrap line column) text) p on in q.column ≤ length (line_at (after (Wrap line column) text) q.line)
column_in_wrap line column text p on inside within in_text =
    let l = line_at text line in
    let new = after (Wrap line column) text in
    let d = lines (take line text) (l ∷ []) (take column l ∷ drop column l ∷ []) (drop (line + 1) text) text new line
    (length-take-le line text (omega arith)) (split_at text line inside) refl in
    wrap_within (λ n. length (line_at text n)) (λ n. length (line_at new n)) line column p on (d.before p.line)
    (omega (arith, d.made line 0 (omega arith) (omega arith), length-take-le column l within))
    (omega (arith, d.made (line + 1) 1 refl (omega arith), length-drop column l))
    (λ far. d.later p.line (p.line + 1) (omega arith) (omega arith))
    in_text.column

column_in_unwrap : (line : ℕ) (text : List (List ℕ)) (p : Place) (on : OnInsert) → 0 < line → line < length text → IsInText text p
    → let q = carry (entry (Unwrap line) text) p on in q.column ≤ length (line_at (after (Unwrap line) text) q.line)
column_in_unwrap line text p on joined inside in_text =
    let a = line_at text (line - 1) in
    let b = line_at text line in
    let new = after (Unwrap line) text in
    let d = lines (take (line - 1) text) (a ∷ b ∷ []) ((a ++ b) ∷ []) (drop (line + 1) text) text new (line - 1)
    (length-take-le (line - 1) text (omega arith)) (split_two text (line - 1) line (omega arith) inside) refl in
    unwrap_within (λ n. length (line_at text n)) (λ n. length (line_at new n)) line p on joined (d.before p.line)
    (omega (arith, d.made (line - 1) 0 (omega arith) (omega arith), length-append a b))
    (λ far. d.later p.line (p.line - 1) (omega arith) (omega arith))
    in_text.column

column_in_insert : (line column : ℕ) (units : List ℕ) (text : List (List ℕ)) (p : Place) (on : OnInsert)
    → line < length text → column ≤ length (line_at text line) → IsInText text p
    → let q = carry (entry (Insert line column units) text) p on in
    q.column ≤ length (line_at (after (Insert line column units) text) q.line)
column_in_insert line column units text p on inside within in_text =
    let l = line_at text line in
    let come = take column l ++ units ++ drop column l in
    let new = after (Insert line column units) text in
    let d = lines (take line text) (l ∷ []) (come ∷ []) (drop (line + 1) text) text new line
    (length-take-le line text (omega arith)) (split_at text line inside) (set_line text line come inside) in
    insert_within (λ n. length (line_at text n)) (λ n. length (line_at new n)) line column (length units) p on (d.before p.line)
    (omega (
      arith,
      d.made line 0 (omega arith) (omega arith),
      length-append (take column l ++ units) (drop column l),
      length-append (take column l) units,
      length-take-le column l within,
      length-drop column l,
    ))
    (λ far. d.later p.line p.line (omega arith) refl)
    in_text.column

column_in_remove : (line column units : ℕ) (text : List (List ℕ)) (p : Place) (on : OnInsert)
    → line < length text → column + units ≤ length (line_at text line) → IsInText text p
    → let q = carry (entry (Remove line column units) text) p on in
    q.column ≤ length (line_at (after (Remove line column units) text) q.line)
column_in_remove line column units text p on inside within in_text =
    let l = line_at text line in
    let come = take column l ++ drop (column + units) l in
    let new = after (Remove line column units) text in
    let d = lines (take line text) (l ∷ []) (come ∷ []) (drop (line + 1) text) text new line
    (length-take-le line text (omega arith)) (split_at text line inside) (set_line text line come inside) in
    remove_within (λ n. length (line_at text n)) (λ n. length (line_at new n)) line column units p on (d.before p.line)
    (omega (
      arith,
      d.made line 0 (omega arith) (omega arith),
      length-append (take column l) (drop (column + units) l),
      length-take-le column l (omega arith),
      length-drop (column + units) l,
    ))
    within
    (λ far. d.later p.line p.line (omega arith) refl)
    in_text.column

column_in : (p : Primitive) (text : List (List ℕ)) (place : Place) (on : OnInsert) → FitsText p text → IsInText text place
    → let q = carry (entry p text) place on in q.column ≤ length (line_at (after p text) q.line)
column_in (Wrap line column) text place on (inside, at, small) in_text = column_in_wrap line column text place on inside at.within in_text
column_in (Unwrap line) text place on (joined, inside) in_text = column_in_unwrap line text place on joined inside in_text
column_in (Insert line column units) text place on (inside, at, small) in_text =
    column_in_insert line column units text place on inside at.within in_text
column_in (Remove line column units) text place on (inside, at, end) in_text =
    column_in_remove line column units text place on inside end.within in_text

pub stays_inside : StaysInside
stays_inside p text place on fits in_text =
    record { line = carried_within p text place on fits in_text.line; column = column_in p text place on fits in_text }
