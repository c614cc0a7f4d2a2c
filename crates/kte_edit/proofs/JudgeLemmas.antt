-- Why a change does not fit, from its places and its sizes.
use Rattle.std.proofs.Common.{◌≡◌, ℕ, ◌+◌, ◌-◌, ◌<◌, ◌≤◌, false, IsTrue, List, [], ◌∷◌, nat_lt, nat_eq, refl, ap, ◌∙◌, arith, Option, Some, None}
use Rattle.std.proofs.lemmas.Bool.{le-ltb, ne_eqb}
use Rattle.std.specs.Option.{option_or}
use Rattle.kte_text.specs.Texts.{IsText, size_of}
use Rattle.kte_text.specs.Primitives.{after_all, misplaced, oversize}
use Rattle.kte_text.specs.declared.TheConstants.{MAX_SIZE}
use Rattle.kte_text.specs.declared.primitive.Misfit.{Misfit}
use Rattle.kte_text.specs.declared.primitive.Primitive.TheVariants.{Unwrap}
use Rattle.kte_text.proofs.FlatLemmas.{length-flatten, end_within}
use Rattle.kte_text.proofs.PrimitiveLemmas.{length-le-size_of, size_of-after_wrap, size_of-after_unwrap}
use Rattle.kte_place.specs.Ends.{Ends}
use Rattle.kte_place.specs.Place.{at, is_at_or_before}
use Rattle.kte_place.specs.declared.place.Place.{Place}
use Rattle.kte_edit.specs.Steps.{change_misfit, misplaced_among, insertion, removal, without_empty}
use Rattle.kte_edit.specs.Parts.{offset}
use Rattle.kte_edit.specs.declared.change.Change.TheVariants as Change
use Rattle.kte_edit.proofs.ListLemmas.{after_all-without_empty}
use Rattle.kte_edit.proofs.ChangeLemmas.{IsPlaced, in_order, or_none, placed_one, placed_two, size_of-inserted, size_of-removed, size_of-replaced}

oversize_none_from : (size : ℕ) → size ≤ MAX_SIZE → oversize size ≡ None
oversize_none_from size h = let f : nat_lt MAX_SIZE size ≡ false = le-ltb _ _ h in rw f

none_or : (o p : Option Misfit) → o ≡ None → option_or o p ≡ p
none_or o p h = rw h

one_placed : (text : List (List ℕ)) (place : Place) → misplaced place.line (place.column ∷ []) text ≡ None
    → misplaced_among (place ∷ []) text ≡ None
one_placed text place h = rw h

pub judged_wrap : (text : List (List ℕ)) (place : Place) → misplaced place.line (place.column ∷ []) text ≡ None
    → change_misfit (Change.Wrap place) text ≡ oversize (size_of text + 1)
judged_wrap text place h =
    let is = placed_one text place (one_placed text place h) in
    let within = is.cut.within in
    rw (h, size_of-after_wrap place.line place.column text is.inside within)

pub judged_unwrap : (text : List (List ℕ)) (line : ℕ) → IsText text → misplaced line (0 ∷ []) text ≡ None → 0 < line
    → change_misfit (Change.Unwrap line) text ≡ None
judged_unwrap text line whole h joined =
    let is = placed_one text (at line 0) (one_placed text (at line 0) h) in
    let e : nat_eq line 0 ≡ false = ne_eqb _ _ (λ z. omega arith) in
    let small = oversize_none_from (size_of (after_all (Unwrap line ∷ []) text))
    (omega (arith, size_of-after_unwrap line text joined is.inside, whole.small)) in
    rw (h, e, small)

pub judged_insert : (text : List (List ℕ)) (place : Place) (lines : List (List ℕ)) → IsText lines
    → misplaced place.line (place.column ∷ []) text ≡ None
    → change_misfit (Change.Insert place lines) text ≡ oversize (size_of text + size_of lines)
judged_insert text place [] added h = absurd (let s = added.some in omega arith)
judged_insert text place (units ∷ lines) added h =
    let is = placed_one text place (one_placed text place h) in
    let size = ap size_of (after_all-without_empty (insertion place (units ∷ lines)) text) ∙ size_of-inserted text place units lines is in
    none_or _ _ (one_placed text place h) ∙ ap oversize size

remove_is_small : (text : List (List ℕ)) (span : Ends) → IsText text → IsTrue (is_at_or_before span.start span.end)
    → misplaced_among (span.start ∷ span.end ∷ []) text ≡ None
    → oversize (size_of (after_all (without_empty (removal span text)) text)) ≡ None
remove_is_small text span whole order h =
    let size = size_of-removed text span whole (in_order span order) (placed_two text span h) in
    let same = ap size_of (after_all-without_empty (removal span text) text) in
    oversize_none_from _ (omega (arith, size, same, whole.small))

or_none_right : (o p : Option Misfit) → (o ≡ None → p ≡ None) → option_or o p ≡ o
or_none_right None p h = h refl
or_none_right (Some x) p h = refl

pub judged_remove : (text : List (List ℕ)) (span : Ends) → IsText text → IsTrue (is_at_or_before span.start span.end)
    → change_misfit (Change.Remove span) text ≡ misplaced_among (span.start ∷ span.end ∷ []) text
judged_remove text span whole order =
    or_none_right (misplaced_among (span.start ∷ span.end ∷ []) text) _ (remove_is_small text span whole order)

-- what is between the ends of a span, from its two offsets
pub between_is : (text : List (List ℕ)) (span : Ends) (size : ℕ) → IsText text → IsTrue (is_at_or_before span.start span.end)
    → misplaced_among (span.start ∷ span.end ∷ []) text ≡ None → offset text span.start + size ≡ offset text span.end
    → size_of (after_all (removal span text) text) + size ≡ size_of text
between_is text span size whole order h is =
    let removed = size_of-removed text span whole (in_order span order) (placed_two text span h) in
    omega (arith, removed)

pub judged_replace : (text : List (List ℕ)) (span : Ends) (lines : List (List ℕ)) (size : ℕ) → IsText text → IsText lines
    → IsTrue (is_at_or_before span.start span.end) → misplaced_among (span.start ∷ span.end ∷ []) text ≡ None
    → offset text span.start + size ≡ offset text span.end
    → change_misfit (Change.Replace span lines) text ≡ oversize (size_of text - size + size_of lines)
judged_replace text span lines size whole added order h is =
    let left = between_is text span size whole order h is in
    let all = size_of-replaced text span lines whole added (in_order span order) (placed_two text span h) in
    none_or _ _ h ∙ ap oversize (omega (arith, left, all))

-- a place of a text is named by small numbers
pub place_is_small : (text : List (List ℕ)) (place : Place) → IsText text → IsPlaced text place
    → (place.line ≤ MAX_SIZE) × (place.column ≤ MAX_SIZE)
place_is_small text place whole is =
    let inside = is.inside in
    let within = is.cut.within in
    let small = whole.small in
    (omega (arith, length-le-size_of text), omega (arith, end_within text place.line inside, length-flatten text whole.some))

pub insert_is_small : (text : List (List ℕ)) (place : Place) (lines : List (List ℕ)) → IsText text
    → change_misfit (Change.Insert place lines) text ≡ None → (place.line ≤ MAX_SIZE) × (place.column ≤ MAX_SIZE)
insert_is_small text place lines whole none =
    place_is_small text place whole (placed_one text place (or_none (misplaced_among (place ∷ []) text) _ none).0)

pub replace_is_small : (text : List (List ℕ)) (span : Ends) (lines : List (List ℕ)) → IsText text
    → change_misfit (Change.Replace span lines) text ≡ None → (span.start.line ≤ MAX_SIZE) × (span.start.column ≤ MAX_SIZE)
replace_is_small text span lines whole none =
    place_is_small text span.start whole
    (placed_two text span (or_none (misplaced_among (span.start ∷ span.end ∷ []) text) _ none).0).start
