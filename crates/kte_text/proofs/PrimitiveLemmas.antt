-- Primitives: which fit a text, and what they leave of it.
use Rattle.std.proofs.Common.{◌≡◌, ℕ, zero, suc, ◌+◌, ◌-◌, ◌<◌, ◌≤◌, Bool, true, false, List, [], ◌∷◌, ◌++◌, length, take, drop, All, nat_lt, nat_le, nat_eq, sym, refl, ap, ◌∙◌, inl, inr, arith, append-nil, length-append, length-take, length-drop, length-set, take-append-drop, Option, Some, None, find, option_map, add-zero, add-one, sub-one}
use Rattle.std.proofs.lemmas.Bool.{cases_Bool, le-ltb, ltb-false, lt-leb, leb-false, eqb-true, ne_eqb}
use Rattle.std.proofs.lemmas.List.{set-get_or}
use Rattle.std.proofs.lemmas.List.Elements.{All-nil, All-cons, All-head, All-tail, All-append, All-set, All-take, All-drop, All-get_or}
use Rattle.std.proofs.lemmas.List.Sums.{sum_by-append, sum_by-take-le, sum_by-cons, sum_by-take-drop, sum_by-drop_more, sum_by-set}
use Rattle.std.specs.Option.{option_or}
use Rattle.kte_text.specs.Units.{IsLine, splits_pair, IsBoundary}
use Rattle.kte_text.specs.Texts.{line_at, units_of, size_of, IsText}
use Rattle.kte_text.specs.Primitives.{line_of, columns_of, is_empty, HasLine, after, after_all, FitInTurn, beyond, splitting, misplaced, unjoinable, oversize, misfit, FitsText}
use Rattle.kte_text.specs.declared.TheConstants.{MAX_SIZE}
use Rattle.kte_text.specs.declared.primitive.Primitive.{Primitive}
use Rattle.kte_text.specs.declared.primitive.Primitive.TheVariants.{Wrap, Unwrap, Insert, Remove}
use Rattle.kte_text.specs.declared.primitive.Misfit.{Misfit}
use Rattle.kte_text.specs.declared.primitive.Misfit.TheVariants.{NoLine, TooLarge}
use Rattle.kte_text.proofs.LineLemmas.{IsLine-take, IsLine-drop, IsLine-append, IsLine-insert, IsLine-remove}

-- the units of a text are those of one line, of the lines before it and of the lines after it
units-split : (text : List (List ℕ)) (n : ℕ) → n < length text
    → units_of (take n text) + (length (line_at text n) + units_of (drop (n + 1) text)) ≡ units_of text
units-split text n inside =
    ap (λ k. units_of (take n text) + k) (sym (sum_by-drop_more length text n [] inside)) ∙ sum_by-take-drop length text n

units-two : (front : List (List ℕ)) (a b : List ℕ) (back : List (List ℕ))
    → units_of (front ++ a ∷ b ∷ back) ≡ units_of front + (length a + (length b + units_of back))
units-two front a b back = rw (sum_by-append length front (a ∷ b ∷ back), sum_by-cons length a (b ∷ back), sum_by-cons length b back)

units-one : (front : List (List ℕ)) (a : List ℕ) (back : List (List ℕ))
    → units_of (front ++ a ∷ back) ≡ units_of front + (length a + units_of back)
units-one front a back = rw (sum_by-append length front (a ∷ back), sum_by-cons length a back)

-- the same of two lines that follow each other
units-split_two : (text : List (List ℕ)) (n : ℕ) → suc n < length text
    → units_of (take n text) + (length (line_at text n) + (length (line_at text (suc n)) + units_of (drop (suc n + 1) text)))
    ≡ units_of text
units-split_two text n inside =
    let first = units-split text n (omega arith) in
    let second = sum_by-drop_more length text (suc n) [] inside in
    let e : drop (n + 1) text ≡ drop (suc n) text = rw add-one in
    rw (e, second) at first

-- the number of lines after a primitive that fits
pub length-after_wrap : (line column : ℕ) (text : List (List ℕ)) → line < length text
    → length (after (Wrap line column) text) ≡ length text + 1
length-after_wrap line column text inside = simp (length-append, length-take, length-drop) (omega arith)

pub length-after_unwrap : (line : ℕ) (text : List (List ℕ)) → 0 < line → line < length text
    → length (after (Unwrap line) text) + 1 ≡ length text
length-after_unwrap line text joined inside = simp (length-append, length-take, length-drop) (omega arith)

pub length-after_insert : (line column : ℕ) (units : List ℕ) (text : List (List ℕ))
    → length (after (Insert line column units) text) ≡ length text
length-after_insert line column units text = length-set _ _ _

pub length-after_remove : (line column units : ℕ) (text : List (List ℕ))
    → length (after (Remove line column units) text) ≡ length text
length-after_remove line column units text = length-set _ _ _

-- the size after a primitive that fits
pub size_of-after_wrap : (line column : ℕ) (text : List (List ℕ)) → line < length text → column ≤ length (line_at text line)
    → size_of (after (Wrap line column) text) ≡ size_of text + 1
size_of-after_wrap line column text inside within =
    let l = line_at text line in
    let e : length (take column l) + length (drop column l) ≡ length l = simp (length-take, length-drop) (omega arith) in
    let n = length-after_wrap line column text inside in
    let u = units-two (take line text) (take column l) (drop column l) (drop (line + 1) text) in
    let w = units-split text line inside in
    omega (arith, e, n, u, w)

pub size_of-after_unwrap : (line : ℕ) (text : List (List ℕ)) → 0 < line → line < length text
    → size_of (after (Unwrap line) text) + 1 ≡ size_of text
size_of-after_unwrap zero text joined inside = absurd (omega arith)
size_of-after_unwrap (suc line) text joined inside =
    let a = line_at text line in
    let b = line_at text (suc line) in
    let n = rw (sub-one (suc line)) at (length-after_unwrap (suc line) text joined inside) in
    let k = length-append a b in
    let u = units-one (take line text) (a ++ b) (drop (suc line + 1) text) in
    let w = units-split_two text line inside in
    rw (sub-one (suc line)) (omega (arith, n, k, u, w))

pub size_of-after_insert : (line column : ℕ) (units : List ℕ) (text : List (List ℕ)) → line < length text
    → size_of (after (Insert line column units) text) ≡ size_of text + length units
size_of-after_insert line column units text inside =
    let l = line_at text line in
    let new = take column l ++ units ++ drop column l in
    let e : length new ≡ length l + length units = simp (length-append, length-take, length-drop) (omega arith) in
    let n = length-set text line new in
    let u = sum_by-set length text line new [] inside in
    omega (arith, e, n, u)

pub size_of-after_remove : (line column units : ℕ) (text : List (List ℕ)) → line < length text
    → column + units ≤ length (line_at text line)
    → size_of (after (Remove line column units) text) + units ≡ size_of text
size_of-after_remove line column units text inside within =
    let l = line_at text line in
    let new = take column l ++ drop (column + units) l in
    let e : length new + units ≡ length l = simp (length-append, length-take, length-drop) (omega arith) in
    let n = length-set text line new in
    let u = sum_by-set length text line new [] inside in
    omega (arith, e, n, u)

-- a first element that passes is not found exactly where none does
find_none : (p : ℕ → Bool) (xs : List ℕ) → find p xs ≡ None → All (λ x. p x ≡ false) xs
find_none p [] h = All-nil (λ x. p x ≡ false)
find_none p (x ∷ xs) h =
    elim (cases_Bool (p x)) [
      | inl t ↦ let e : Some x ≡ None = rw t at h in cc
      | inr f ↦ All-cons (λ x. p x ≡ false) x xs f (find_none p xs (rw f at h))
    ]

find_none_from : (p : ℕ → Bool) (xs : List ℕ) → All (λ x. p x ≡ false) xs → find p xs ≡ None
find_none_from p [] h = refl
find_none_from p (x ∷ xs) h =
    rw (All-head (λ x. p x ≡ false) x xs h) (find_none_from p xs (All-tail (λ x. p x ≡ false) x xs h))

map_none : (f : ℕ → Misfit) (o : Option ℕ) → option_map f o ≡ None → o ≡ None
map_none f None h = refl
map_none f (Some x) h = cc

or_none : (o p : Option Misfit) → option_or o p ≡ None → (o ≡ None) × (p ≡ None)
or_none None p h = (refl, h)
or_none (Some x) p h = cc

or_none_from : (o p : Option Misfit) → o ≡ None → p ≡ None → option_or o p ≡ None
or_none_from o p first second = rw (first, second)

-- a line may be cut at columns exactly where it is there and each is a boundary of it
pub place-from_misplaced : (line : ℕ) (columns : List ℕ) (text : List (List ℕ)) → misplaced line columns text ≡ None
    → (line < length text) × All (IsBoundary (line_at text line)) columns
place-from_misplaced line columns text h =
    let l = line_at text line in
    elim (cases_Bool (nat_le (length text) line)) [
      | inl t ↦ let e : Some (NoLine line) ≡ None = rw t at h in cc
      | inr f ↦
          let e = or_none (beyond line columns l) (splitting line columns l) (rw f at h) in
          let within = find_none (λ column. nat_lt (length l) column) columns (map_none _ _ e.0) in
          let whole = find_none (splits_pair l) columns (map_none _ _ e.1) in
          (leb-false _ _ f, λ k d i. record { within = ltb-false _ _ (within k d i); whole = whole k d i })
    ]

pub misplaced-from_place : (line : ℕ) (columns : List ℕ) (text : List (List ℕ)) → line < length text
    → All (IsBoundary (line_at text line)) columns → misplaced line columns text ≡ None
misplaced-from_place line columns text inside at =
    let l = line_at text line in
    let f : nat_le (length text) line ≡ false = lt-leb _ _ inside in
    let within = find_none_from (λ column. nat_lt (length l) column) columns (λ k d i. le-ltb _ _ (at k d i).within) in
    let whole = find_none_from (splits_pair l) columns (λ k d i. (at k d i).whole) in
    rw (f, within, whole)

oversize_none : (size : ℕ) → oversize size ≡ None → size ≤ MAX_SIZE
oversize_none size h =
    elim (cases_Bool (nat_lt MAX_SIZE size)) [
      | inl t ↦ let e : Some (TooLarge size) ≡ None = rw t at h in cc
      | inr f ↦ ltb-false _ _ f
    ]

oversize_none_from : (size : ℕ) → size ≤ MAX_SIZE → oversize size ≡ None
oversize_none_from size h = let f : nat_lt MAX_SIZE size ≡ false = le-ltb _ _ h in rw f

unjoinable_none : (line : ℕ) → unjoinable (Unwrap line) ≡ None → 0 < line
unjoinable_none zero h = cc
unjoinable_none (suc line) h = omega arith

-- what is left to judge of a wrap that is at its place
pub misfit-wrap : (line column : ℕ) (text : List (List ℕ)) → misplaced line (column ∷ []) text ≡ None
    → misfit (Wrap line column) text ≡ oversize (size_of text + 1)
misfit-wrap line column text h =
    let at = place-from_misplaced line (column ∷ []) text h in
    let b = All-head (IsBoundary (line_at text line)) column [] at.1 in
    rw (h, size_of-after_wrap line column text at.0 b.within)

-- .. and of a line that is there and has one before it
pub misfit-unwrap : (line : ℕ) (text : List (List ℕ)) → IsText text → misplaced line [] text ≡ None → 0 < line
    → misfit (Unwrap line) text ≡ None
misfit-unwrap line text whole h joined =
    let at = place-from_misplaced line [] text h in
    let e : nat_eq line 0 ≡ false = ne_eqb _ _ (λ z. omega arith) in
    let b = oversize_none_from (size_of (after (Unwrap line) text)) (omega (arith, size_of-after_unwrap line text joined at.0, whole.small)) in
    rw (h, e, b)

-- where `misfit` is `None`, the primitive fits
pub FitsText-from_misfit : (p : Primitive) (text : List (List ℕ)) → misfit p text ≡ None → FitsText p text
FitsText-from_misfit (Wrap line column) text h =
    let e = or_none _ _ h in
    let at = place-from_misplaced line (column ∷ []) text e.0 in
    let b = All-head (IsBoundary (line_at text line)) column [] at.1 in
    let small = oversize_none _ e.1 in
    (at.0, b, rw (size_of-after_wrap line column text at.0 b.within) at small)
FitsText-from_misfit (Unwrap line) text h =
    let e = or_none _ _ h in
    let at = place-from_misplaced line [] text e.0 in
    (unjoinable_none line (or_none _ _ e.1).0, at.0)
FitsText-from_misfit (Insert line column units) text h =
    let e = or_none _ _ h in
    let at = place-from_misplaced line (column ∷ []) text e.0 in
    let b = All-head (IsBoundary (line_at text line)) column [] at.1 in
    let small = oversize_none _ e.1 in
    (at.0, b, rw (size_of-after_insert line column units text at.0) at small)
FitsText-from_misfit (Remove line column units) text h =
    let e = or_none _ _ h in
    let at = place-from_misplaced line (column ∷ (column + units) ∷ []) text e.0 in
    let P = IsBoundary (line_at text line) in
    (at.0, All-head P column ((column + units) ∷ []) at.1, All-head P (column + units) [] (All-tail P column ((column + units) ∷ []) at.1))

-- the other way round, at a text
pub misfit-from_FitsText : (p : Primitive) (text : List (List ℕ)) → IsText text → FitsText p text → misfit p text ≡ None
misfit-from_FitsText (Wrap line column) text whole (inside, at, small) =
    let P = IsBoundary (line_at text line) in
    misfit-wrap line column text (misplaced-from_place line (column ∷ []) text inside (All-cons P column [] at (All-nil P)))
    ∙ oversize_none_from (size_of text + 1) small
misfit-from_FitsText (Unwrap line) text whole (joined, inside) =
    misfit-unwrap line text whole (misplaced-from_place line [] text inside (All-nil (IsBoundary (line_at text line)))) joined
misfit-from_FitsText (Insert line column units) text whole (inside, at, small) =
    let P = IsBoundary (line_at text line) in
    let a = misplaced-from_place line (column ∷ []) text inside (All-cons P column [] at (All-nil P)) in
    let b = oversize_none_from (size_of (after (Insert line column units) text)) (rw (size_of-after_insert line column units text inside) small) in
    rw (a, b)
misfit-from_FitsText (Remove line column units) text whole (inside, at, end) =
    let P = IsBoundary (line_at text line) in
    let a = misplaced-from_place line (column ∷ (column + units) ∷ []) text inside
    (All-cons P column ((column + units) ∷ []) at (All-cons P (column + units) [] end (All-nil P))) in
    let b = oversize_none_from (size_of (after (Remove line column units) text))
    (omega (arith, size_of-after_remove line column units text inside end.within, whole.small)) in
    rw (a, b)

-- an insertion or a removal of nothing leaves the text as it is
pub after_empty : (p : Primitive) (text : List (List ℕ)) → is_empty p ≡ true → after p text ≡ text
after_empty (Wrap line column) text h = cc
after_empty (Unwrap line) text h = cc
after_empty (Insert line column []) text h =
    let e : take column (line_at text line) ++ [] ++ drop column (line_at text line) ≡ line_at text line =
    rw append-nil (take-append-drop column (line_at text line)) in
    rw e (set-get_or text line [])
after_empty (Insert line column (u ∷ us)) text h = absurd (omega (arith, eqb-true (length (u ∷ us)) 0 h))
after_empty (Remove line column units) text h =
    let z : units ≡ 0 = eqb-true units 0 h in
    let e : take column (line_at text line) ++ drop (column + units) (line_at text line) ≡ line_at text line =
    rw (z, add-zero) (take-append-drop column (line_at text line)) in
    rw e (set-get_or text line [])

-- first some primitives and then others
pub after_all-append : (ps qs : List Primitive) (text : List (List ℕ)) → after_all (ps ++ qs) text ≡ after_all qs (after_all ps text)
after_all-append [] qs text = refl
after_all-append (p ∷ ps) qs text = after_all-append ps qs (after p text)

-- .. which fit if the others fit what the first leave
pub FitInTurn-append : (ps qs : List Primitive) (text : List (List ℕ)) → FitInTurn ps text → FitInTurn qs (after_all ps text)
    → FitInTurn (ps ++ qs) text
FitInTurn-append [] qs text front back = back
FitInTurn-append (p ∷ ps) qs text (fits, changes, front) back =
    (fits, changes, FitInTurn-append ps qs (after p text) front back)

-- the text after a primitive that fits has at least one line
some_after : (p : Primitive) (text : List (List ℕ)) → IsText text → FitsText p text → 0 < length (after p text)
some_after (Wrap line column) text whole (inside, at, small) = omega (arith, length-after_wrap line column text inside)
some_after (Unwrap line) text whole (joined, inside) = omega (arith, length-after_unwrap line text joined inside)
some_after (Insert line column units) text whole fits = omega (arith, length-after_insert line column units text, whole.some)
some_after (Remove line column units) text whole fits = omega (arith, length-after_remove line column units text, whole.some)

-- .. is not too large
small_after : (p : Primitive) (text : List (List ℕ)) → IsText text → FitsText p text → size_of (after p text) ≤ MAX_SIZE
small_after p text whole fits = oversize_none _ (or_none _ _ (or_none _ _ (misfit-from_FitsText p text whole fits)).1).1

-- .. and all its lines are lines
whole_after : (p : Primitive) (text : List (List ℕ)) → IsText text → HasLine p → FitsText p text → All IsLine (after p text)
whole_after (Wrap line column) text whole has (inside, at, small) =
    let l = line_at text line in
    let is_line = All-get_or IsLine text line [] inside whole.whole in
    let back = All-cons IsLine (drop column l) (drop (line + 1) text) (IsLine-drop l column is_line at)
    (All-drop IsLine (line + 1) text whole.whole) in
    All-append IsLine (take line text) (take column l ∷ drop column l ∷ drop (line + 1) text) (All-take IsLine line text whole.whole)
    (All-cons IsLine (take column l) (drop column l ∷ drop (line + 1) text) (IsLine-take l column is_line at) back)
whole_after (Unwrap line) text whole has (joined, inside) =
    let a = All-get_or IsLine text (line - 1) [] (omega arith) whole.whole in
    let b = All-get_or IsLine text line [] inside whole.whole in
    All-append IsLine _ _ (All-take IsLine (line - 1) text whole.whole)
    (All-cons IsLine _ _ (IsLine-append _ _ a b) (All-drop IsLine (line + 1) text whole.whole))
whole_after (Insert line column units) text whole has (inside, at, small) =
    let l = All-get_or IsLine text line [] inside whole.whole in
    All-set IsLine text line _ (IsLine-insert _ column units l at has) whole.whole
whole_after (Remove line column units) text whole has (inside, at, end) =
    let l = All-get_or IsLine text line [] inside whole.whole in
    All-set IsLine text line _ (IsLine-remove _ column (column + units) l at end) whole.whole

-- what a primitive that fits leaves is a text
pub IsText-after : (p : Primitive) (text : List (List ℕ)) → IsText text → HasLine p → misfit p text ≡ None → IsText (after p text)
IsText-after p text whole has none =
    let fits = FitsText-from_misfit p text none in
    record { whole = whole_after p text whole has fits; some = some_after p text whole fits; small = small_after p text whole fits }

-- a line at which a primitive that fits works is there
pub line-from_misfit : (p : Primitive) (text : List (List ℕ)) → misfit p text ≡ None → line_of p < length text
line-from_misfit p text h = (place-from_misplaced (line_of p) (columns_of p) text (or_none _ _ h).0).0

-- .. and may be cut at the columns
pub columns-from_misfit : (p : Primitive) (text : List (List ℕ)) → misfit p text ≡ None
    → All (IsBoundary (line_at text (line_of p))) (columns_of p)
columns-from_misfit p text h = (place-from_misplaced (line_of p) (columns_of p) text (or_none _ _ h).0).1

-- a line that is joined has one before it
pub joined-from_misfit : (line : ℕ) (text : List (List ℕ)) → misfit (Unwrap line) text ≡ None → 0 < line
joined-from_misfit line text h = (FitsText-from_misfit (Unwrap line) text h).0

-- the text after a primitive that fits is not too large
pub small-from_misfit : (p : Primitive) (text : List (List ℕ)) → misfit p text ≡ None → size_of (after p text) ≤ MAX_SIZE
small-from_misfit p text h = oversize_none (size_of (after p text)) (or_none _ _ (or_none _ _ h).1).1

-- the first lines of a text are no larger than it
pub size_of-take-le : (n : ℕ) (text : List (List ℕ)) → size_of (take n text) ≤ size_of text
size_of-take-le n text = omega (arith, sum_by-take-le length text n, length-take n text)

-- a text has at most one line more than its size
pub length-le-size_of : (text : List (List ℕ)) → length text ≤ size_of text + 1
length-le-size_of text = omega arith
