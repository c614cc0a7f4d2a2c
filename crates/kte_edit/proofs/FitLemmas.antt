-- The primitives of an insertion and of a removal fit one after another.
use Rattle.std.proofs.Common.{◌≡◌, ℕ, zero, suc, ◌+◌, ◌-◌, ◌<◌, ◌≤◌, ◌==◌, ◌&&◌, true, false, List, [], ◌∷◌, ◌++◌, length, take, drop, slice_index, All, nat_lt, nat_le, sym, refl, ap, subst, ◌∙◌, inl, inr, append_assoc, length-append, append-nil, arith, zero-add}
use Rattle.std.proofs.lemmas.Bool.{cases_Bool, eqb-true, eqb-false, and_left, and_right, and_parts, and_from, lt-leb, le-leb, leb-true, ltb-true}
use Rattle.std.proofs.lemmas.List.{take_at, drop_at, length-take-le, get_or-append_right}
use Rattle.std.proofs.lemmas.List.Elements.{All-head, All-tail}
use Rattle.std.proofs.lemmas.List.Sums.{sum_by-cons}
use Rattle.std.specs.Char.Utf16.{has_unpaired_surrogate, is_high_surrogate, is_low_surrogate}
use Rattle.kte_text.specs.Units.{IsLine, IsBoundary}
use Rattle.kte_text.specs.Utf8.{is_surrogate}
use Rattle.kte_text.specs.Texts.{IsText, line_at, units_of, size_of}
use Rattle.kte_text.specs.Primitives.{HasLine, FitsText, FitInTurn, after, after_all, is_empty}
use Rattle.kte_text.specs.declared.TheConstants.{MAX_SIZE}
use Rattle.kte_text.specs.declared.primitive.Primitive.{Primitive}
use Rattle.kte_text.specs.declared.primitive.Primitive.TheVariants.{Wrap, Unwrap, Insert, Remove}
use Rattle.kte_text.proofs.LineLemmas.{lone_parts, IsLine-nil, IsLine-drop}
use Rattle.kte_text.proofs.PrimitiveLemmas.{after_empty, after_all-append, FitInTurn-append, misfit-from_FitsText, IsText-after, size_of-after_wrap, size_of-after_insert}
use Rattle.kte_place.specs.Ends.{Ends}
use Rattle.kte_edit.specs.Steps.{without_empty, further, removed_lines, removal}
use Rattle.kte_text.proofs.AroundLemmas.{line_around, wrap_around, insert_around, remove_around, unwrap_around, emptied, take_next}
use Rattle.kte_edit.proofs.ListLemmas.{after_all-without_empty, without_empty-append, front_removed, after_removed_lines}

-- the primitives fit in turn, and leave a text
pub record Fine (primitives : List Primitive) (text : List (List ℕ)) : Type 0 where
  pub fit : FitInTurn (without_empty primitives) text
  pub whole : IsText (after_all primitives text)

fine_none : (text : List (List ℕ)) → IsText text → Fine [] text
fine_none text whole = record { fit = tt; whole = whole }

-- one that fits, before others that do
fine_step : (p : Primitive) (ps : List Primitive) (text next : List (List ℕ)) → IsText text → HasLine p → FitsText p text
    → after p text ≡ next → (IsText next → Fine ps next) → Fine (p ∷ ps) text
fine_step p ps text next whole has fits is rest =
    let none = misfit-from_FitsText p text whole fits in
    let later : Fine ps (after p text) = rw is (rest (rw is at (IsText-after p text whole has none))) in
    elim (cases_Bool (is_empty p)) [
      | inl t ↦
          let same = after_empty p text t in
          record { fit = rw t (rw same at later.fit); whole = later.whole }
      | inr f ↦ record { fit = rw f (none, f, later.fit); whole = later.whole }
    ]

pub fine_append : (ps qs : List Primitive) (text : List (List ℕ)) → Fine ps text → Fine qs (after_all ps text) → Fine (ps ++ qs) text
fine_append ps qs text first second = record {
  fit =
      rw (without_empty-append ps qs)
      (FitInTurn-append (without_empty ps) (without_empty qs) text first.fit
      (rw (after_all-without_empty ps text) second.fit));
  whole = rw (after_all-append ps qs text) second.whole;
}

-- the second half of a pair is a surrogate
low_is_surrogate : (u : ℕ) → is_low_surrogate u ≡ true → is_surrogate u ≡ false → ⊥
low_is_surrogate u low none =
    let p = and_parts (nat_le 0xDC00 u) (nat_lt u 0xE000) low in
    let e : is_surrogate u ≡ true = and_from _ _ (le-leb 0xD800 u (omega (arith, leb-true 0xDC00 u p.0))) p.1 in cc

-- a line begins with no second half of a pair
first_not_low : (units : List ℕ) → has_unpaired_surrogate units ≡ false → is_low_surrogate (slice_index units 0) ≡ false
first_not_low [] h = refl
first_not_low (u ∷ us) h =
    elim (cases_Bool (is_high_surrogate u && is_low_surrogate (slice_index us 0))) [
      | inl t ↦
          let high = and_parts (is_high_surrogate u) (is_low_surrogate (slice_index us 0)) t in
          let below = ltb-true u 0xDC00 (and_parts (nat_le 0xD800 u) (nat_lt u 0xDC00) high.0).1 in
          and_left (nat_le 0xDC00 u) (nat_lt u 0xE000) (lt-leb 0xDC00 u below)
      | inr f ↦
          let alone = (lone_parts u us f h).0 in
          elim (cases_Bool (is_low_surrogate u)) [
            | inl t ↦ absurd (low_is_surrogate u t alone)
            | inr low ↦ low
          ]
    ]

-- a line may be cut before a line that is joined to it
pub boundary_between : (units rest : List ℕ) → IsLine rest → IsBoundary (units ++ rest) (length units)
boundary_between units rest line =
    let e : slice_index (units ++ rest) (length units) ≡ slice_index rest 0 =
    get_or-append_right units rest (length units) (length units) 0 refl (omega arith) ∙ ap (slice_index rest) (omega arith) in
    record {
      within = omega (arith, length-append units rest);
      whole = rw e (and_right _ _ (first_not_low rest line.paired));
    }

boundary_at_start : (units : List ℕ) → IsBoundary units 0
boundary_at_start units = record { within = omega arith; whole = refl }

boundary_at_end : (units : List ℕ) → IsBoundary units (length units)
boundary_at_end units = rw append-nil at (boundary_between units [] IsLine-nil)

-- the further lines of an insertion, before a line that is there
pub fine_further : (lines front : List (List ℕ)) (units rest : List ℕ) (back : List (List ℕ)) (n column : ℕ)
    → length front ≡ n → length units ≡ column → All IsLine lines → IsLine rest
    → IsText (front ++ (units ++ rest) ∷ back)
    → size_of (front ++ (units ++ rest) ∷ back) + (units_of lines + length lines) ≤ MAX_SIZE
    → Fine (further n column lines) (front ++ (units ++ rest) ∷ back)
fine_further [] front units rest back n column before is whole end text small = fine_none _ text
fine_further (next ∷ lines) front units rest back n column before is whole end text small =
    let T = front ++ (units ++ rest) ∷ back in
    let here : line_at T n ≡ units ++ rest = line_around front (units ++ rest) back n before in
    let inside : n < length T = omega (arith, length-append front ((units ++ rest) ∷ back)) in
    let cut : IsBoundary (line_at T n) column = rw (here, ← is) (boundary_between units rest end) in
    let U = (front ++ units ∷ []) ++ rest ∷ back in
    let wrapped : after (Wrap n column) T ≡ U =
    wrap_around front (units ++ rest) back n column before
    ∙ rw (take_at units rest column is, drop_at units rest column is) (sym (append_assoc front (units ∷ []) (rest ∷ back))) in
    let sum = sum_by-cons length next lines in
    let larger : size_of U ≡ size_of T + 1 = rw wrapped at (size_of-after_wrap n column T inside cut.within) in
    let long : length (front ++ units ∷ []) ≡ n + 1 = omega (arith, length-append front (units ∷ [])) in
    let there : n + 1 < length U = omega (arith, long, length-append (front ++ units ∷ []) (rest ∷ back)) in
    let V = (front ++ units ∷ []) ++ (next ++ rest) ∷ back in
    let inserted : after (Insert (n + 1) 0 next) U ≡ V = insert_around (front ++ units ∷ []) rest back (n + 1) 0 next long in
    let largest : size_of V ≡ size_of U + length next = rw inserted at (size_of-after_insert (n + 1) 0 next U there) in
    let is_line = All-head IsLine next lines whole in
    fine_step (Wrap n column) _ T U text tt (inside, cut, omega (arith, sum)) wrapped
    (λ u. fine_step (Insert (n + 1) 0 next) _ U V u is_line (there, boundary_at_start _, omega (arith, sum)) inserted
    (λ v. fine_further lines (front ++ units ∷ []) next rest back (n + 1) (length next) long refl (All-tail IsLine next lines whole) end v
    (omega (arith, sum))))

-- a line is removed as a whole, and the next one joined to it
fine_line_removed : (ps : List Primitive) (front : List (List ℕ)) (line rest : List ℕ) (back : List (List ℕ)) (n : ℕ)
    → length front ≡ n → IsText (front ++ line ∷ rest ∷ back)
    → (IsText (front ++ rest ∷ back) → Fine ps (front ++ rest ∷ back))
    → Fine (Remove n 0 (length line) ∷ Unwrap (n + 1) ∷ ps) (front ++ line ∷ rest ∷ back)
fine_line_removed ps front line rest back n before text later =
    let T = front ++ line ∷ rest ∷ back in
    let U = front ++ [] ∷ rest ∷ back in
    let here : line_at T n ≡ line = line_around front line (rest ∷ back) n before in
    let inside : n < length T = omega (arith, length-append front (line ∷ rest ∷ back)) in
    let there : n + 1 < length U = omega (arith, length-append front ([] ∷ rest ∷ back)) in
    let first : after (Remove n 0 (length line)) T ≡ U =
    remove_around front line (rest ∷ back) n 0 (length line) before ∙ ap (λ (new : List ℕ). front ++ new ∷ rest ∷ back) (emptied line) in
    let second : after (Unwrap (n + 1)) U ≡ front ++ rest ∷ back = unwrap_around front [] rest back n before in
    let end : IsBoundary (line_at T n) (0 + length line) = rw (here, zero-add) (boundary_at_end line) in
    fine_step (Remove n 0 (length line)) _ T U text tt (inside, boundary_at_start _, end) first
    (λ u. fine_step (Unwrap (n + 1)) ps U _ u tt (omega arith, there) second later)

-- the lines after one line and before what is left of another
pub fine_removed_lines : (text : List (List ℕ)) (rest : List ℕ) (back : List (List ℕ)) (line count : ℕ)
    → line + count < length text → IsText (take (line + count + 1) text ++ rest ∷ back)
    → Fine (removed_lines text line count) (take (line + count + 1) text ++ rest ∷ back)
fine_removed_lines text rest back line zero inside whole = fine_none _ whole
fine_removed_lines text rest back line (suc count) inside whole =
    let m = line + suc count in
    let next = take_next text m (rest ∷ back) inside in
    let e : m ≡ line + count + 1 = omega arith in
    rw next
    (fine_line_removed (removed_lines text line count) (take m text) (line_at text m) rest back m
    (length-take-le m text (omega arith)) (rw next at whole)
    (λ left. rw e (fine_removed_lines text rest back line count (omega arith) (rw e at left))))

-- the rest of a line is removed, and the next line is joined to it
pub fine_rest_joined : (front : List (List ℕ)) (line rest : List ℕ) (back : List (List ℕ)) (n column : ℕ) → length front ≡ n
    → IsBoundary line column → IsText (front ++ line ∷ rest ∷ back)
    → Fine (Remove n column (length line - column) ∷ Unwrap (n + 1) ∷ []) (front ++ line ∷ rest ∷ back)
fine_rest_joined front line rest back n column before cut text =
    let T = front ++ line ∷ rest ∷ back in
    let left = take column line ++ drop (column + (length line - column)) line in
    let U = front ++ left ∷ rest ∷ back in
    let here : line_at T n ≡ line = line_around front line (rest ∷ back) n before in
    let inside : n < length T = omega (arith, length-append front (line ∷ rest ∷ back)) in
    let there : n + 1 < length U = omega (arith, length-append front (left ∷ rest ∷ back)) in
    let within = cut.within in
    let all : column + (length line - column) ≡ length line = omega arith in
    let starts : IsBoundary (line_at T n) column = rw here cut in
    let end : IsBoundary (line_at T n) (column + (length line - column)) = rw (here, all) (boundary_at_end line) in
    fine_step (Remove n column (length line - column)) _ T U text tt (inside, starts, end)
    (remove_around front line (rest ∷ back) n column (length line - column) before)
    (λ u. fine_step (Unwrap (n + 1)) [] U _ u tt (omega arith, there) (unwrap_around front left rest back n before) (λ v. fine_none _ v))

-- the removal of a span
pub fine_removal : (span : Ends) (text : List (List ℕ)) → span.start.line ≤ span.end.line → span.end.line < length text
    → (span.start.line ≡ span.end.line → span.start.column ≤ span.end.column)
    → IsBoundary (line_at text span.start.line) span.start.column
    → IsBoundary (line_at text span.end.line) span.end.column
    → IsText text → Fine (removal span text) text
fine_removal span text order inside columns starts ends whole =
    let a = span.start.line in
    let b = span.end.line in
    let c = span.start.column in
    elim (cases_Bool (a == b)) [
      | inl t ↦
          let same : a ≡ b = eqb-true a b t in
          let e : c + (span.end.column - c) ≡ span.end.column = let h = columns same in omega arith in
          let end : IsBoundary (line_at text a) (c + (span.end.column - c)) = rw (e, same) ends in
          rw t (fine_step (Remove a c (span.end.column - c)) [] text _ whole tt (omega arith, starts, end) refl (λ u. fine_none _ u))
      | inr f ↦
          let apart = eqb-false a b f in
          let count = b - a - 1 in
          let rest = drop span.end.column (line_at text b) in
          let back = drop (b + 1) text in
          let e : b ≡ a + count + 1 = omega arith in
          let next = take_next text a (rest ∷ back) (omega arith) in
          let between : after_all (removed_lines text a count) (take b text ++ rest ∷ back) ≡ take (a + 1) text ++ rest ∷ back =
          ap (λ n. after_all (removed_lines text a count) (take n text ++ rest ∷ back)) e
          ∙ after_removed_lines text rest back a count (omega arith) in
          let end : IsBoundary (line_at text b) (0 + span.end.column) = rw zero-add ends in
          rw f
          (fine_step (Remove b 0 span.end.column) _ text (take b text ++ rest ∷ back) whole tt (inside, boundary_at_start _, end)
          (front_removed text b span.end.column inside)
          (λ u.
          let lines : Fine (removed_lines text a count) (take b text ++ rest ∷ back) =
          subst (λ k. Fine (removed_lines text a count) (take k text ++ rest ∷ back)) (sym e)
          (fine_removed_lines text rest back a count (omega arith) (subst (λ k. IsText (take k text ++ rest ∷ back)) e u)) in
          let left : IsText (take (a + 1) text ++ rest ∷ back) = rw between at lines.whole in
          fine_append (removed_lines text a count) _ (take b text ++ rest ∷ back) lines
          (rw (between, next)
          (fine_rest_joined (take a text) (line_at text a) rest back a c (length-take-le a text (omega arith)) starts (rw next at left)))))
    ]

-- the insertion of a text
pub fine_insertion : (lines front : List (List ℕ)) (line : List ℕ) (back : List (List ℕ)) (units : List ℕ) (n column : ℕ)
    → length front ≡ n → IsBoundary line column → IsLine line → IsLine units → All IsLine lines
    → IsText (front ++ line ∷ back)
    → size_of (front ++ line ∷ back) + (length units + (units_of lines + length lines)) ≤ MAX_SIZE
    → Fine (Insert n column units ∷ further n (column + length units) lines) (front ++ line ∷ back)
fine_insertion lines front line back units n column before cut whole added others text small =
    let T = front ++ line ∷ back in
    let here : line_at T n ≡ line = line_around front line back n before in
    let inside : n < length T = omega (arith, length-append front (line ∷ back)) in
    let at : IsBoundary (line_at T n) column = rw here cut in
    let U = front ++ (take column line ++ units ++ drop column line) ∷ back in
    let inserted : after (Insert n column units) T ≡ U = insert_around front line back n column units before in
    let larger : size_of U ≡ size_of T + length units = rw inserted at (size_of-after_insert n column units T inside) in
    let long : length (take column line ++ units) ≡ column + length units =
    omega (arith, length-append (take column line) units, length-take-le column line cut.within) in
    fine_step (Insert n column units) _ T U text added (inside, at, omega arith) inserted
    (λ u. fine_further lines front (take column line ++ units) (drop column line) back n (column + length units) before long others
    (IsLine-drop line column whole cut) u (omega (arith, larger)))
