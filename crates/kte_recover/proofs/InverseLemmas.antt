-- A primitive that fits is taken back by its inverse, which fits the text after it.
use Rattle.std.proofs.Common.{◌≡◌, ℕ, zero, suc, ◌+◌, ◌-◌, ◌<◌, ◌≤◌, true, false, ◌&&◌, List, [], ◌∷◌, ◌++◌, length, take, drop, set, slice_index, nat_lt, nat_eq, Option, None, subst, refl, sym, ap, ◌∙◌, append_assoc, append-nil, take-append-drop, inl, inr, arith, sub-one, add-one}
use Rattle.std.proofs.lemmas.Bool.{cases_Bool, and_left, and_right, and_from, and_parts, lt-ltb, ltb-true}
use Rattle.std.proofs.lemmas.List.{length-append, length-take-le, length-drop, take_at, drop_at, drop-drop, get_or-set_same, get_or-append-add, set-set, length-set}
use Rattle.std.proofs.Math.Seq.{get_or-append_seam, drop-append-add}
use Rattle.std.specs.Char.Utf16.{has_unpaired_surrogate, is_high_surrogate, is_low_surrogate}
use Rattle.kte_text.specs.declared.TheConstants.{MAX_SIZE}
use Rattle.kte_text.specs.Utf8.{is_surrogate}
use Rattle.kte_text.specs.Units.{IsLine, IsBoundary, splits_pair}
use Rattle.kte_text.specs.Texts.{IsText, line_at, size_of}
use Rattle.kte_text.specs.Primitives.{HasLine, FitsText, after, is_empty, misfit}
use Rattle.kte_text.specs.declared.primitive.Primitive.{Primitive}
use Rattle.kte_text.specs.declared.primitive.Primitive.TheVariants.{Wrap, Unwrap, Insert, Remove}
use Rattle.kte_text.proofs.LineLemmas.{no_surrogate-high, unpaired_pair, lone_parts, IsLine-take, IsLine-drop, IsLine-append, IsLine-between}
use Rattle.kte_text.proofs.Utf8Lemmas.{pair_ranges}
use Rattle.kte_text.proofs.FlatLemmas.{split_at, split_two, set_line}
use Rattle.kte_text.proofs.PrimitiveLemmas.{FitsText-from_misfit, misfit-from_FitsText, IsText-after, length-after_wrap, length-after_unwrap, size_of-after_unwrap, size_of-after_remove}
use Rattle.kte_recover.specs.Inverse.{inverse}

splits_step : (u : ℕ) (us : List ℕ) (n : ℕ) → splits_pair (u ∷ us) (suc (suc n)) ≡ splits_pair us (suc n)
splits_step u us n =
    let a : nat_lt 0 (suc (suc n)) ≡ true = lt-ltb _ _ (omega arith) in
    let b : nat_lt 0 (suc n) ≡ true = lt-ltb _ _ (omega arith) in
    rw (a, b, sub-one, sub-one)

low-high : (u : ℕ) → is_low_surrogate u ≡ true → is_high_surrogate u ≡ false
low-high u low =
    elim (cases_Bool (is_high_surrogate u)) [
      | inl high ↦ let r = pair_ranges u u high low in absurd (omega (arith, r.1, r.2))
      | inr f ↦ f
    ]

-- no pair is split where a line ends
seam : (xs ys : List ℕ) → has_unpaired_surrogate xs ≡ false → splits_pair (xs ++ ys) (length xs) ≡ false
seam [] ys h = refl
seam (u ∷ []) ys h =
    let alone : (is_high_surrogate u && false) ≡ false = and_right (is_high_surrogate u) false refl in
    and_left _ _ (no_surrogate-high u (lone_parts u [] alone h).0)
seam (u ∷ v ∷ []) ys h =
    elim (cases_Bool (is_high_surrogate u && is_low_surrogate v)) [
      | inl t ↦ and_left _ _ (low-high v (and_parts _ _ t).1)
      | inr f ↦ rw (splits_step u (v ∷ ys) 0) (seam (v ∷ []) ys (lone_parts u (v ∷ []) f h).1)
    ]
seam (u ∷ v ∷ w ∷ us) ys h =
    elim (cases_Bool (is_high_surrogate u && is_low_surrogate v)) [
      | inl t ↦
          rw (splits_step u (v ∷ w ∷ (us ++ ys)) (suc (length us)), splits_step v (w ∷ (us ++ ys)) (length us))
          (seam (w ∷ us) ys (rw (unpaired_pair u v (w ∷ us) t) at h))
      | inr f ↦
          rw (splits_step u (v ∷ w ∷ (us ++ ys)) (suc (length us)))
          (seam (v ∷ w ∷ us) ys (lone_parts u (v ∷ w ∷ us) f h).1)
    ]

-- a line that goes on may be cut where it ended
pub boundary_at : (xs ys : List ℕ) (n : ℕ) → IsLine xs → n ≡ length xs → IsBoundary (xs ++ ys) n
boundary_at xs ys n line e = record {
  within = omega (arith, e, length-append xs ys);
  whole = ap (splits_pair (xs ++ ys)) e ∙ seam xs ys line.paired;
}

line-of : (text : List (List ℕ)) (n : ℕ) → IsText text → n < length text → IsLine (line_at text n)
line-of text n whole within = whole.whole n [] within

-- the line that was set
line-set : (text : List (List ℕ)) (n : ℕ) (units : List ℕ) → n < length text → line_at (set text n units) n ≡ units
line-set text n units within = get_or-set_same text n units [] within

set-back : (text : List (List ℕ)) (n : ℕ) (units : List ℕ) → n < length text → set (set text n units) n (line_at text n) ≡ text
set-back text n units within =
    set-set text n units (line_at text n) ∙ set_line text n (line_at text n) within ∙ sym (split_at text n within)

-- two lines within a text are joined
join_mid : (front back : List (List ℕ)) (a b : List ℕ)
    → after (Unwrap (length front + 1)) (front ++ a ∷ b ∷ back) ≡ front ++ (a ++ b) ∷ back
join_mid front back a b =
    let text = front ++ a ∷ b ∷ back in
    let before : (length front + 1) - 1 ≡ length front = omega arith in
    let past : (length front + 1) + 1 ≡ length front + 2 = omega arith in
    let first : take ((length front + 1) - 1) text ≡ front =
    ap (λ (n : ℕ). take n text) before ∙ take_at front (a ∷ b ∷ back) (length front) refl in
    let one : line_at text ((length front + 1) - 1) ≡ a =
    ap (λ (n : ℕ). line_at text n) before ∙ get_or-append_seam front a (b ∷ back) [] in
    let two : line_at text (length front + 1) ≡ b = get_or-append-add front (a ∷ b ∷ back) 1 [] in
    let last : drop ((length front + 1) + 1) text ≡ back =
    ap (λ (n : ℕ). drop n text) past ∙ drop-append-add front (a ∷ b ∷ back) 2 in
    rw (first, one, two, last) refl

-- a line within a text is cut
cut_mid : (front back : List (List ℕ)) (a b : List ℕ)
    → after (Wrap (length front) (length a)) (front ++ (a ++ b) ∷ back) ≡ front ++ a ∷ b ∷ back
cut_mid front back a b =
    let text = front ++ (a ++ b) ∷ back in
    let first : take (length front) text ≡ front = take_at front ((a ++ b) ∷ back) (length front) refl in
    let one : line_at text (length front) ≡ a ++ b = get_or-append_seam front (a ++ b) back [] in
    let last : drop (length front + 1) text ≡ back = drop-append-add front ((a ++ b) ∷ back) 1 in
    rw (first, one, last, take_at a b (length a) refl, drop_at a b (length a) refl) refl

-- the line that an Unwrap makes
line_unwrapped : (line : ℕ) (text : List (List ℕ)) → 0 < line → line < length text
    → line_at (after (Unwrap line) text) (line - 1) ≡ line_at text (line - 1) ++ line_at text line
line_unwrapped line text joined inside =
    let front = take (line - 1) text in
    let long : length front ≡ line - 1 = length-take-le (line - 1) text (omega (arith, inside)) in
    ap (λ (n : ℕ). line_at (after (Unwrap line) text) n) (sym long)
    ∙ get_or-append_seam front (line_at text (line - 1) ++ line_at text line) (drop (line + 1) text) []

removed_length : (text : List (List ℕ)) (line column count : ℕ) → column + count ≤ length (line_at text line)
    → length (take count (drop column (line_at text line))) ≡ count
removed_length text line column count within =
    length-take-le count (drop column (line_at text line)) (omega (arith, within, length-drop column (line_at text line)))

fits_back : (p : Primitive) (text : List (List ℕ)) → IsText text → HasLine p → FitsText p text → FitsText (inverse p text) (after p text)
fits_back (Wrap line column) text whole has (inside, at, small) =
    (omega arith, omega (arith, length-after_wrap line column text inside, inside))
fits_back (Unwrap line) text whole has (joined, inside) =
    let a = line_at text (line - 1) in
    let b = line_at text line in (
      omega (arith, length-after_unwrap line text joined inside, joined, inside),
      subst (λ (units : List ℕ). IsBoundary units (length a)) (sym (line_unwrapped line text joined inside))
          (boundary_at a b (length a) (line-of text (line - 1) whole (omega (arith, inside))) refl),
      omega (arith, size_of-after_unwrap line text joined inside, whole.small),
    )
fits_back (Insert line column units) text whole has (inside, at, small) =
    let l = line_at text line in
    let new = take column l ++ units ++ drop column l in
    let front = IsLine-take l column (line-of text line whole inside) at in
    let long = length-take-le column l at.within in
    let same = line-set text line new inside in (
      omega (arith, length-set text line new, inside),
      subst (λ (x : List ℕ). IsBoundary x column) (sym (same ∙ append_assoc (take column l) units (drop column l)))
          (boundary_at (take column l) (units ++ drop column l) column front (sym long)),
      subst (λ (x : List ℕ). IsBoundary x (column + length units)) (sym same)
          (boundary_at (take column l ++ units) (drop column l) (column + length units) (IsLine-append _ _ front has)
          (omega (arith, long, length-append (take column l) units))),
    )
fits_back (Remove line column count) text whole has (inside, at, end) =
    let l = line_at text line in
    let new = take column l ++ drop (column + count) l in
    let front = IsLine-take l column (line-of text line whole inside) at in (
      omega (arith, length-set text line new, inside),
      subst (λ (x : List ℕ). IsBoundary x column) (sym (line-set text line new inside))
          (boundary_at (take column l) (drop (column + count) l) column front (sym (length-take-le column l at.within))),
      omega (arith, size_of-after_remove line column count text inside end.within, removed_length text line column count end.within, whole.small),
    )

after_back : (p : Primitive) (text : List (List ℕ)) → FitsText p text → after (inverse p text) (after p text) ≡ text
after_back (Wrap line column) text (inside, at, small) =
    let l = line_at text line in
    let front = take line text in
    let back = drop (line + 1) text in
    let long : length front ≡ line = length-take-le line text (omega (arith, inside)) in
    ap (λ (n : ℕ). after (Unwrap (n + 1)) (front ++ take column l ∷ drop column l ∷ back)) (sym long)
    ∙ join_mid front back (take column l) (drop column l)
    ∙ ap (λ (x : List ℕ). front ++ x ∷ back) (take-append-drop column l)
    ∙ sym (split_at text line inside)
after_back (Unwrap line) text (joined, inside) =
    let a = line_at text (line - 1) in
    let b = line_at text line in
    let front = take (line - 1) text in
    let back = drop (line + 1) text in
    let long : length front ≡ line - 1 = length-take-le (line - 1) text (omega (arith, inside)) in
    ap (λ (n : ℕ). after (Wrap n (length a)) (front ++ (a ++ b) ∷ back)) (sym long)
    ∙ cut_mid front back a b
    ∙ sym (split_two text (line - 1) line (omega (arith, joined)) inside)
after_back (Insert line column units) text (inside, at, small) =
    let l = line_at text line in
    let new = take column l ++ units ++ drop column l in
    let long = length-take-le column l at.within in
    let first : take column new ≡ take column l =
    ap (take column) (append_assoc (take column l) units (drop column l)) ∙ take_at (take column l) (units ++ drop column l) column long in
    let last : drop (column + length units) new ≡ drop column l =
    drop_at (take column l ++ units) (drop column l) (column + length units) (omega (arith, long, length-append (take column l) units)) in
    ap (λ (x : List ℕ). set (set text line new) line (take column x ++ drop (column + length units) x)) (line-set text line new inside)
    ∙ ap (λ (x : List ℕ). set (set text line new) line (x ++ drop (column + length units) new)) first
    ∙ ap (λ (x : List ℕ). set (set text line new) line (take column l ++ x)) last
    ∙ ap (set (set text line new) line) (take-append-drop column l)
    ∙ set-back text line new inside
after_back (Remove line column count) text (inside, at, end) =
    let l = line_at text line in
    let mid = take count (drop column l) in
    let new = take column l ++ drop (column + count) l in
    let long = length-take-le column l at.within in
    let first : take column new ≡ take column l = take_at (take column l) (drop (column + count) l) column long in
    let last : drop column new ≡ drop (column + count) l = drop_at (take column l) (drop (column + count) l) column long in
    let whole : (take column l ++ mid) ++ drop (column + count) l ≡ l =
    append_assoc (take column l) mid (drop (column + count) l)
    ∙ ap (λ (x : List ℕ). take column l ++ (mid ++ x)) (sym (drop-drop count column l))
    ∙ ap (λ (x : List ℕ). take column l ++ x) (take-append-drop count (drop column l))
    ∙ take-append-drop column l in
    ap (λ (x : List ℕ). set (set text line new) line (take column x ++ mid ++ drop column x)) (line-set text line new inside)
    ∙ ap (λ (x : List ℕ). set (set text line new) line (x ++ mid ++ drop column new)) first
    ∙ ap (λ (x : List ℕ). set (set text line new) line ((take column l ++ mid) ++ x)) last
    ∙ ap (set (set text line new) line) whole
    ∙ set-back text line new inside

-- the inverse fits, changes the text, and leads back
pub inverse_fits : (p : Primitive) (text : List (List ℕ)) → IsText text → HasLine p → misfit p text ≡ None
    → misfit (inverse p text) (after p text) ≡ None
inverse_fits p text whole has fits =
    misfit-from_FitsText (inverse p text) (after p text) (IsText-after p text whole has fits)
    (fits_back p text whole has (FitsText-from_misfit p text fits))

pub inverse_after : (p : Primitive) (text : List (List ℕ)) → misfit p text ≡ None → after (inverse p text) (after p text) ≡ text
inverse_after p text fits = after_back p text (FitsText-from_misfit p text fits)

pub inverse_changes : (p : Primitive) (text : List (List ℕ)) → misfit p text ≡ None → is_empty p ≡ false → is_empty (inverse p text) ≡ false
inverse_changes (Wrap line column) text fits changes = refl
inverse_changes (Unwrap line) text fits changes = refl
inverse_changes (Insert line column units) text fits changes = changes
inverse_changes (Remove line column count) text fits changes =
    let f = FitsText-from_misfit (Remove line column count) text fits in
    ap (λ (n : ℕ). nat_eq n 0) (removed_length text line column count f.2.within) ∙ changes
