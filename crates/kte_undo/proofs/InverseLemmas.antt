-- The inverse of a primitive leads back, and those of primitives applied in turn do.
use Rattle.std.proofs.Common.{map, reverse, ◌≡◌, ℕ, ◌+◌, ◌-◌, ◌<◌, ◌≤◌, ◌&&◌, true, false, List, [], ◌∷◌, ◌++◌, length, take, drop, slice_index, All, nat_lt, nat_le, sym, refl, ap, ◌∙◌, inl, inr, append_assoc, length-append, length-drop, take-append-drop, arith}
use Rattle.std.proofs.lemmas.Bool.{cases_Bool, and_left, and_right, and_parts, and_from, lt-leb, le-leb, leb-true, ltb-true}
use Rattle.std.proofs.lemmas.List.{take_at, drop_at, length-take-le, drop-drop, get_or-append_right, reverse-append, map-append}
use Rattle.std.proofs.lemmas.List.Elements.{All-head, All-tail, All-get_or}
use Rattle.std.specs.Char.Utf16.{has_unpaired_surrogate, is_high_surrogate, is_low_surrogate}
use Rattle.kte_text.specs.Units.{IsLine, IsBoundary}
use Rattle.kte_text.specs.Utf8.{is_surrogate}
use Rattle.kte_text.specs.Texts.{IsText, line_at}
use Rattle.kte_text.specs.Primitives.{HasLine, FitsText, FitInTurn, after, after_all, is_empty}
use Rattle.kte_text.specs.declared.primitive.Primitive.{Primitive}
use Rattle.kte_text.specs.declared.primitive.Primitive.TheVariants.{Wrap, Unwrap, Insert, Remove}
use Rattle.kte_text.proofs.LineLemmas.{lone_parts, IsLine-drop, IsLine-append, IsLine-between}
use Rattle.kte_text.proofs.PrimitiveLemmas.{FitInTurn-append, FitsText-from_misfit, misfit-from_FitsText, IsText-after, after_all-append, length-after_wrap, length-after_unwrap, length-after_insert, length-after_remove, size_of-after_unwrap, size_of-after_remove}
use Rattle.kte_text.proofs.FlatLemmas.{split_at, split_two, set_line}
use Rattle.kte_undo.specs.Steps.{inverse, cut_by, old_of, step, forth_of, back_of, redo_of, undo_of, steps_along}
use Rattle.kte_text.proofs.AroundLemmas.{line_around, wrap_around, unwrap_around, insert_around, remove_around}

-- the lines before one are as many as its number
before : (text : List (List ℕ)) (n : ℕ) → n < length text → length (take n text) ≡ n
before text n inside = length-take-le n text (omega arith)

-- what is after a cut line, cut again at the same column
cut_again : (line units : List ℕ) (column : ℕ) → column ≤ length line
    → (take column (take column line ++ units) ≡ take column line) × (drop column (take column line ++ units) ≡ units)
cut_again line units column within =
    let long = length-take-le column line within in
    (take_at (take column line) units column long, drop_at (take column line) units column long)

wrap_back : (text : List (List ℕ)) (n column : ℕ) → n < length text
    → after (Unwrap (n + 1)) (after (Wrap n column) text) ≡ text
wrap_back text n column inside =
    let l = line_at text n in
    let front = take n text in
    let back = drop (n + 1) text in
    unwrap_around front (take column l) (drop column l) back n (before text n inside)
    ∙ rw (take-append-drop column l) (sym (split_at text n inside))

unwrap_back : (text : List (List ℕ)) (m n : ℕ) → m + 1 ≡ n → n < length text
    → after (Wrap m (length (line_at text m))) (take m text ++ (line_at text m ++ line_at text n) ∷ drop (n + 1) text) ≡ text
unwrap_back text m n next inside =
    let a = line_at text m in
    let b = line_at text n in
    let front = take m text in
    let back = drop (n + 1) text in
    wrap_around front (a ++ b) back m (length a) (before text m (omega arith))
    ∙ rw (take_at a b (length a) refl, drop_at a b (length a) refl) (sym (split_two text m n next inside))

insert_back : (text : List (List ℕ)) (n column : ℕ) (units : List ℕ) → n < length text → column ≤ length (line_at text n)
    → after (Remove n column (length units)) (after (Insert n column units) text) ≡ text
insert_back text n column units inside within =
    let l = line_at text n in
    let front = take n text in
    let back = drop (n + 1) text in
    let new = take column l ++ units ++ drop column l in
    let again = cut_again l (units ++ drop column l) column within in
    let first : take column new ≡ take column l = rw append_assoc again.0 in
    let long = length-take-le column l within in
    let last : drop (column + length units) new ≡ drop column l =
    drop_at (take column l ++ units) (drop column l) (column + length units) (omega (arith, length-append (take column l) units)) in
    ap (after (Remove n column (length units))) (set_line text n new inside)
    ∙ remove_around front new back n column (length units) (before text n inside)
    ∙ rw (first, last, take-append-drop column l) (sym (split_at text n inside))

remove_back : (text : List (List ℕ)) (n column count : ℕ) → n < length text → column + count ≤ length (line_at text n)
    → after (Insert n column (take count (drop column (line_at text n)))) (after (Remove n column count) text) ≡ text
remove_back text n column count inside within =
    let l = line_at text n in
    let front = take n text in
    let back = drop (n + 1) text in
    let new = take column l ++ drop (column + count) l in
    let cut = take count (drop column l) in
    let again = cut_again l (drop (column + count) l) column (omega arith) in
    let whole : take column l ++ cut ++ drop (column + count) l ≡ l =
    append_assoc (take column l) cut (drop (column + count) l)
    ∙ ap (λ (x : List ℕ). take column l ++ (cut ++ x)) (sym (drop-drop count column l ∙ ap (λ n. drop n l) (omega arith)))
    ∙ ap (λ (x : List ℕ). take column l ++ x) (take-append-drop count (drop column l))
    ∙ take-append-drop column l in
    ap (after (Insert n column cut)) (set_line text n new inside)
    ∙ insert_around front new back n column cut (before text n inside)
    ∙ rw (again.0, again.1, whole) (sym (split_at text n inside))

-- the inverse of a primitive leads back
pub leads_back : (p : Primitive) (text : List (List ℕ)) → FitsText p text → after (inverse p text) (after p text) ≡ text
leads_back (Wrap line column) text (inside, at, small) = wrap_back text line column inside
leads_back (Unwrap line) text (joined, inside) = unwrap_back text (line - 1) line (omega arith) inside
leads_back (Insert line column units) text (inside, at, small) = insert_back text line column units inside at.within
leads_back (Remove line column count) text (inside, at, end) = remove_back text line column count inside end.within

-- the second half of a pair is a surrogate
low_is_surrogate : (u : ℕ) → is_low_surrogate u ≡ true → is_surrogate u ≡ false → ⊥
low_is_surrogate u low none =
    let p = and_parts (nat_le 0xDC00 u) (nat_lt u 0xE000) low in
    let e : is_surrogate u ≡ true = and_from _ _ (le-leb 0xD800 u (omega (arith, leb-true 0xDC00 u p.0))) p.1 in cc

-- a line begins with no second half of a pair
first_not_low : (units : List ℕ) → has_unpaired_surrogate units ≡ false → is_low_surrogate (slice_index units 0) ≡ false
first_not_low [] h = refl
first_not_low (u ∷ us) h =
    elim (cases_Bool (is_high_surrogate u && is_low_surrogate (slice_index us 0))) [
      | inl t ↦
          let high = and_parts (is_high_surrogate u) (is_low_surrogate (slice_index us 0)) t in
          let below = ltb-true u 0xDC00 (and_parts (nat_le 0xD800 u) (nat_lt u 0xDC00) high.0).1 in
          and_left (nat_le 0xDC00 u) (nat_lt u 0xE000) (lt-leb 0xDC00 u below)
      | inr f ↦
          let alone = (lone_parts u us f h).0 in
          elim (cases_Bool (is_low_surrogate u)) [ inl t ↦ absurd (low_is_surrogate u t alone) | inr low ↦ low ]
    ]

-- a line may be cut before a line that is joined to it
boundary_between : (units rest : List ℕ) (column : ℕ) → length units ≡ column → IsLine rest → IsBoundary (units ++ rest) column
boundary_between units rest column long line =
    let e : slice_index (units ++ rest) column ≡ slice_index rest 0 =
    get_or-append_right units rest column column 0 long (omega arith) ∙ ap (slice_index rest) (omega arith) in
    record {
      within = omega (arith, length-append units rest);
      whole = rw e (and_right _ _ (first_not_low rest line.paired));
    }

line_is_whole : (text : List (List ℕ)) (n : ℕ) → IsText text → n < length text → IsLine (line_at text n)
line_is_whole text n whole inside = All-get_or IsLine text n [] inside whole.whole

fits_unwrap_back : (text : List (List ℕ)) (m n : ℕ) → m + 1 ≡ n → IsText text → n < length text
    → FitsText (Wrap m (length (line_at text m))) (after (Unwrap n) text)
fits_unwrap_back text m n next whole inside =
    let a = line_at text m in
    let b = line_at text n in
    let front = take m text in
    let e : n - 1 ≡ m = omega arith in
    let is : after (Unwrap n) text ≡ front ++ (a ++ b) ∷ drop (n + 1) text = rw e in
    let here : line_at (after (Unwrap n) text) m ≡ a ++ b =
    ap (λ t. line_at t m) is ∙ line_around front (a ++ b) (drop (n + 1) text) m (before text m (omega arith)) in
    let lines = length-after_unwrap n text (omega arith) inside in
    let size = size_of-after_unwrap n text (omega arith) inside in
    let small = whole.small in
    (omega arith, rw here (boundary_between a b (length a) refl (line_is_whole text n whole inside)), omega arith)

fits_insert_back : (text : List (List ℕ)) (n column : ℕ) (units : List ℕ) → IsText text → IsLine units → n < length text
    → IsBoundary (line_at text n) column → FitsText (Remove n column (length units)) (after (Insert n column units) text)
fits_insert_back text n column units whole added inside at =
    let l = line_at text n in
    let front = take n text in
    let new = take column l ++ units ++ drop column l in
    let here : line_at (after (Insert n column units) text) n ≡ new =
    ap (λ t. line_at t n) (set_line text n new inside) ∙ line_around front new (drop (n + 1) text) n (before text n inside) in
    let rest = IsLine-drop l column (line_is_whole text n whole inside) at in
    let long = length-take-le column l at.within in
    let lines = length-after_insert n column units text in
    let first : IsBoundary new column =
    rw append_assoc (boundary_between (take column l) (units ++ drop column l) column long (IsLine-append units (drop column l) added rest)) in
    let last : IsBoundary new (column + length units) =
    boundary_between (take column l ++ units) (drop column l) (column + length units)
    (omega (arith, length-append (take column l) units)) rest in
    (omega arith, rw here first, rw here last)

fits_remove_back : (text : List (List ℕ)) (n column count : ℕ) → IsText text → n < length text
    → IsBoundary (line_at text n) column → IsBoundary (line_at text n) (column + count)
    → FitsText (Insert n column (take count (drop column (line_at text n)))) (after (Remove n column count) text)
fits_remove_back text n column count whole inside at end =
    let l = line_at text n in
    let front = take n text in
    let new = take column l ++ drop (column + count) l in
    let here : line_at (after (Remove n column count) text) n ≡ new =
    ap (λ t. line_at t n) (set_line text n new inside) ∙ line_around front new (drop (n + 1) text) n (before text n inside) in
    let rest = IsLine-drop l (column + count) (line_is_whole text n whole inside) end in
    let within = end.within in
    let long = length-take-le column l at.within in
    let lines = length-after_remove n column count text in
    let size = size_of-after_remove n column count text inside within in
    let cut = length-take-le count (drop column l) (omega (arith, length-drop column l)) in
    let small = whole.small in
    (omega arith, rw here (boundary_between (take column l) (drop (column + count) l) column long rest), omega arith)

-- .. and fits the text that the primitive leaves
pub fits_back : (p : Primitive) (text : List (List ℕ)) → IsText text → HasLine p → FitsText p text → FitsText (inverse p text) (after p text)
fits_back (Wrap line column) text whole has (inside, at, small) =
    let lines = length-after_wrap line column text inside in
    (omega arith, omega arith)
fits_back (Unwrap line) text whole has (joined, inside) = fits_unwrap_back text (line - 1) line (omega arith) whole inside
fits_back (Insert line column units) text whole has (inside, at, small) = fits_insert_back text line column units whole has inside at
fits_back (Remove line column count) text whole has (inside, at, end) = fits_remove_back text line column count whole inside at end

-- the step keeps what its inverse needs
pub keeps_inverse : (p : Primitive) (text : List (List ℕ)) → FitsText p text
    → (back_of (step p (cut_by p text) (old_of p text)) ≡ inverse p text) × (forth_of (step p (cut_by p text) (old_of p text)) ≡ p)
keeps_inverse (Wrap line column) text fits = (refl, let e : line + 1 - 1 ≡ line = omega arith in ap (λ n. Wrap n column) e)
keeps_inverse (Unwrap line) text fits = (refl, refl)
keeps_inverse (Insert line column units) text fits = (refl, refl)
keeps_inverse (Remove line column count) text (inside, at, end) =
    let l = line_at text line in
    let within = end.within in
    let cut = length-take-le count (drop column l) (omega (arith, length-drop column l)) in
    (refl, ap (λ n. Remove line column n) cut)

-- the inverse of a primitive that changes something changes something
changes_back : (p : Primitive) (text : List (List ℕ)) → FitsText p text → is_empty p ≡ false → is_empty (inverse p text) ≡ false
changes_back (Wrap line column) text fits some = refl
changes_back (Unwrap line) text fits some = refl
changes_back (Insert line column units) text fits some = some
changes_back (Remove line column count) text (inside, at, end) some =
    let l = line_at text line in
    let within = end.within in
    let cut = length-take-le count (drop column l) (omega (arith, length-drop column l)) in
    rw cut some

-- the inverse holds a line
holds_back : (p : Primitive) (text : List (List ℕ)) → IsText text → FitsText p text → HasLine (inverse p text)
holds_back (Wrap line column) text whole fits = tt
holds_back (Unwrap line) text whole fits = tt
holds_back (Insert line column units) text whole fits = tt
holds_back (Remove line column count) text whole (inside, at, end) =
    IsLine-between (line_at text line) column count (line_is_whole text line whole inside) at end

-- primitives that undo others lead back and fit in turn
pub record Undoes (back : List Primitive) (text last : List (List ℕ)) : Type 0 where
  pub leads : after_all back last ≡ text
  pub fit : FitInTurn back last

undo_of-cons : (p : Primitive) (ps : List Primitive) (text : List (List ℕ)) → FitsText p text
    → undo_of (steps_along (p ∷ ps) text) ≡ undo_of (steps_along ps (after p text)) ++ inverse p text ∷ []
undo_of-cons p ps text fits =
    reverse-append (back_of (step p (cut_by p text) (old_of p text)) ∷ []) (map back_of (steps_along ps (after p text)))
    ∙ ap (λ q. undo_of (steps_along ps (after p text)) ++ q ∷ []) (keeps_inverse p text fits).0

pub undoes : (ps : List Primitive) (text : List (List ℕ)) → IsText text → All HasLine ps → FitInTurn ps text
    → Undoes (undo_of (steps_along ps text)) text (after_all ps text)
undoes [] text whole has fit = record { leads = refl; fit = tt }
undoes (p ∷ ps) text whole has (none, some, rest) =
    let fits = FitsText-from_misfit p text none in
    let line = All-head HasLine p ps has in
    let next = IsText-after p text whole line none in
    let ih = undoes ps (after p text) next (All-tail HasLine p ps has) rest in
    let first = undo_of (steps_along ps (after p text)) in
    let q = inverse p text in
    let is = undo_of-cons p ps text fits in
    let lead : after_all (first ++ q ∷ []) (after_all (p ∷ ps) text) ≡ text =
    after_all-append first (q ∷ []) (after_all ps (after p text)) ∙ ap (after q) ih.leads ∙ leads_back p text fits in
    let misfits = misfit-from_FitsText q (after p text) next (fits_back p text whole line fits) in
    let fit : FitInTurn (first ++ q ∷ []) (after_all ps (after p text)) =
    FitInTurn-append first (q ∷ []) (after_all ps (after p text)) ih.fit
    (rw ih.leads (misfits, changes_back p text fits some, tt)) in
    record { leads = rw is lead; fit = rw is fit }

pub redoes : (ps : List Primitive) (text : List (List ℕ)) → FitInTurn ps text → redo_of (steps_along ps text) ≡ ps
redoes [] text fit = refl
redoes (p ∷ ps) text (none, some, rest) =
    let first = (keeps_inverse p text (FitsText-from_misfit p text none)).1 in
    let later = redoes ps (after p text) rest in
    cc

-- some primitives, and then others
pub steps_along-append : (ps qs : List Primitive) (text : List (List ℕ))
    → steps_along (ps ++ qs) text ≡ steps_along ps text ++ steps_along qs (after_all ps text)
steps_along-append [] qs text = refl
steps_along-append (p ∷ ps) qs text = let ih = steps_along-append ps qs (after p text) in cc

pub undo_of-append : (ps qs : List Primitive) (text : List (List ℕ))
    → undo_of (steps_along (ps ++ qs) text) ≡ undo_of (steps_along qs (after_all ps text)) ++ undo_of (steps_along ps text)
undo_of-append ps qs text =
    let first = steps_along ps text in
    let second = steps_along qs (after_all ps text) in
    ap undo_of (steps_along-append ps qs text)
    ∙ ap reverse (map-append back_of first second)
    ∙ reverse-append (map back_of first) (map back_of second)
