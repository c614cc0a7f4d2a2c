-- The units before and after a carried cursor.
use Rattle.std.proofs.Common.{◌≡◌, ℕ, zero, suc, ◌+◌, ◌-◌, ◌<◌, ◌≤◌, ◌⊎◌, ⊎_elim, inl, inr, List, [], ◌∷◌, ◌++◌, length, take, drop, sym, refl, ap, ◌∙◌, append_assoc, length-append, arith}
use Rattle.std.proofs.lemmas.Bool.{cases_lt}
use Rattle.std.proofs.lemmas.Bool.Decides.{nat_tests}
use Rattle.std.proofs.lemmas.List.{length-take-le}
use Rattle.std.specs.List.{slice_get}
use Rattle.kte_text.specs.Primitives.{FitsText}
use Rattle.kte_text.specs.declared.primitive.Primitive.{Primitive}
use Rattle.kte_text.specs.declared.primitive.Primitive.TheVariants.{Wrap, Unwrap, Insert, Remove}
use Rattle.kte_place.specs.declared.place.OnInsert.{OnInsert}
use Rattle.kte_place.specs.declared.place.OnInsert.TheVariants.{Stay, Move}
use Rattle.kte_text.specs.Flat.{flatten, spliced, splice_at, taken_by, given}
use Rattle.kte_buffer.specs.Offset.{offset, shift}
use Rattle.kte_buffer.specs.Laws.{KeepsNext, KeepsLast}
use Rattle.kte_text.proofs.FlatLemmas.{is_one_splice, end_within}
use Rattle.kte_buffer.proofs.OffsetLemmas.{carries_offsets}

-- the unit at a number of a list made of others
slice_get-left : (xs ys : List ℕ) (i : ℕ) → i < length xs → slice_get (xs ++ ys) i ≡ slice_get xs i
slice_get-left [] ys i h = absurd (omega arith)
slice_get-left (x ∷ xs) ys zero h = refl
slice_get-left (x ∷ xs) ys (suc i) h = slice_get-left xs ys i (omega arith)

slice_get-right : (xs ys : List ℕ) (i : ℕ) → slice_get (xs ++ ys) (length xs + i) ≡ slice_get ys i
slice_get-right [] ys i = ap (slice_get ys) (omega arith)
slice_get-right (x ∷ xs) ys i =
    let e : length (x ∷ xs) + i ≡ suc (length xs + i) = omega arith in
    ap (slice_get (x ∷ xs ++ ys)) e ∙ slice_get-right xs ys i

slice_get-take : (xs : List ℕ) (n i : ℕ) → i < n → slice_get (take n xs) i ≡ slice_get xs i
slice_get-take xs zero i h = absurd (omega arith)
slice_get-take [] (suc n) i h = refl
slice_get-take (x ∷ xs) (suc n) zero h = refl
slice_get-take (x ∷ xs) (suc n) (suc i) h = slice_get-take xs n i (omega arith)

slice_get-drop : (xs : List ℕ) (n i : ℕ) → slice_get (drop n xs) i ≡ slice_get xs (n + i)
slice_get-drop xs zero i = ap (slice_get xs) (omega arith)
slice_get-drop [] (suc n) i = refl
slice_get-drop (x ∷ xs) (suc n) i =
    let e : suc n + i ≡ suc (n + i) = omega arith in
    slice_get-drop xs n i ∙ sym (ap (slice_get (x ∷ xs)) e)

-- units before a splice stay
unit_before : (at taken : ℕ) (come flat : List ℕ) (i : ℕ) → at ≤ length flat → i < at
    → slice_get (spliced at taken come flat) i ≡ slice_get flat i
unit_before at taken come flat i inside before =
    let n = length-take-le at flat inside in
    ap (λ xs. slice_get xs i) (append_assoc (take at flat) come (drop (at + taken) flat))
    ∙ slice_get-left (take at flat) (come ++ drop (at + taken) flat) i (omega arith)
    ∙ slice_get-take flat at i before

-- .. and those after it move
unit_later : (at taken : ℕ) (come flat : List ℕ) (i j : ℕ) → at ≤ length flat → at + taken ≤ i → j + taken ≡ i + length come
    → slice_get (spliced at taken come flat) j ≡ slice_get flat i
unit_later at taken come flat i j inside later alike =
    let front = take at flat ++ come in
    let k = i - (at + taken) in
    let e : j ≡ length front + k = omega (arith, length-append (take at flat) come, length-take-le at flat inside) in
    let f : at + taken + k ≡ i = omega arith in
    ap (slice_get (front ++ drop (at + taken) flat)) e ∙ slice_get-right front (drop (at + taken) flat) k
    ∙ slice_get-drop flat (at + taken) k ∙ ap (slice_get flat) f

-- a shift of an offset that is not within what is taken
shift_before : (at taken come : ℕ) (on : OnInsert) (x : ℕ) → x < at → shift at taken come on x ≡ x
shift_before at taken come on x less = grind (arith, nat_tests)

shift_move : (at taken come x : ℕ) → at + taken ≤ x → shift at taken come Move x + taken ≡ x + come
shift_move at taken come x more = grind (arith, nat_tests)

shift_stay : (at taken come x : ℕ) → x ≤ at → shift at taken come Stay x ≡ x
shift_stay at taken come x le = grind (arith, nat_tests)

shift_later : (at taken come : ℕ) (on : OnInsert) (x : ℕ) → at + taken < x → shift at taken come on x + taken ≡ x + come
shift_later at taken come on x more = grind (arith, nat_tests)

-- a Move cursor and a splice
move_keeps : (at taken : ℕ) (come flat : List ℕ) (x : ℕ) → at ≤ length flat → (x < at) ⊎ (at + taken ≤ x)
    → slice_get (spliced at taken come flat) (shift at taken (length come) Move x) ≡ slice_get flat x
move_keeps at taken come flat x inside (inl before) =
    ap (slice_get (spliced at taken come flat)) (shift_before at taken (length come) Move x before) ∙ unit_before at taken come flat x inside before
move_keeps at taken come flat x inside (inr later) = unit_later at taken come flat x _ inside later (shift_move at taken (length come) x later)

stay_keeps : (at taken : ℕ) (come flat : List ℕ) (x : ℕ) → at ≤ length flat → 0 < x → (x ≤ at) ⊎ (at + taken < x)
    → slice_get (spliced at taken come flat) (shift at taken (length come) Stay x - 1) ≡ slice_get flat (x - 1)
stay_keeps at taken come flat x inside some (inl before) =
    ap (λ n. slice_get (spliced at taken come flat) (n - 1)) (shift_stay at taken (length come) x before)
    ∙ unit_before at taken come flat (x - 1) inside (omega arith)
stay_keeps at taken come flat x inside some (inr later) =
    unit_later at taken come flat (x - 1) _ inside (omega arith) (omega (arith, shift_later at taken (length come) Stay x later))

-- a primitive that fits works within the text
splice_within : (p : Primitive) (text : List (List ℕ)) → FitsText p text → splice_at p text ≤ length (flatten text)
splice_within (Wrap line column) text (inside, at, small) = omega (arith, end_within text line inside, at.within)
splice_within (Unwrap line) text (joined, inside) = end_within text (line - 1) (omega arith)
splice_within (Insert line column units) text (inside, at, small) = omega (arith, end_within text line inside, at.within)
splice_within (Remove line column units) text (inside, at, end) = omega (arith, end_within text line inside, at.within)

-- an offset is before what is taken, or after it
not_taken : (at taken x : ℕ) → ¬ ((at ≤ x) × (x < at + taken)) → (x < at) ⊎ (at + taken ≤ x)
not_taken at taken x apart =
    ⊎_elim (λ less. inl less) (λ more. ⊎_elim (λ less. absurd (apart (more, less))) (λ later. inr later) (cases_lt x (at + taken))) (cases_lt x at)

pub keeps_next : KeepsNext
keeps_next p text place fits in_text apart =
    let at = splice_at p text in
    let x = offset text place in
    rw (is_one_splice p text fits, carries_offsets p text place Move fits in_text)
    (move_keeps at (taken_by p) (given p) (flatten text) x (splice_within p text fits) (not_taken at (taken_by p) x apart))

pub keeps_last : KeepsLast
keeps_last p text place fits in_text some apart =
    let at = splice_at p text in
    let x = offset text place in
    let y : (x ≤ at) ⊎ (at + taken_by p < x) =
    ⊎_elim (λ less. inl (omega arith)) (λ more. inr (omega arith)) (not_taken at (taken_by p) (x - 1) apart) in
    rw (is_one_splice p text fits, carries_offsets p text place Stay fits in_text)
    (stay_keeps at (taken_by p) (given p) (flatten text) x (splice_within p text fits) some y)
