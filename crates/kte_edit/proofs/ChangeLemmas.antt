-- Changes: what they leave of a text, and that their primitives fit in turn.
use Rattle.std.proofs.Common.{subst, ◌≡◌, ℕ, zero, suc, ◌+◌, ◌-◌, ◌<◌, ◌≤◌, false, IsTrue, List, [], ◌∷◌, ◌++◌, length, take, drop, nat_lt, sym, refl, ap, ◌∙◌, inl, inr, append_assoc, append-nil, take-append-drop, length-append, length-drop, arith, add-zero, Option, Some, None}
use Rattle.std.proofs.lemmas.Bool.{cases_Bool, cases_lt, ltb-false}
use Rattle.std.proofs.lemmas.List.{length-take-le, take_at, drop_at, take_all}
use Rattle.std.proofs.lemmas.List.Elements.{All-head, All-tail, All-get_or}
use Rattle.std.proofs.lemmas.List.Sums.{sum_by-append, sum_by-cons}
use Rattle.std.specs.Option.{option_or}
use Rattle.kte_text.specs.Units.{IsLine, IsBoundary}
use Rattle.kte_text.specs.Texts.{IsText, line_at, units_of, size_of}
use Rattle.kte_text.specs.Primitives.{FitInTurn, FitsText, HasLine, is_empty, after, after_all, misplaced, oversize}
use Rattle.kte_text.specs.Flat.{flatten, start_of}
use Rattle.kte_text.specs.declared.TheConstants.{MAX_SIZE}
use Rattle.kte_text.specs.declared.primitive.Primitive.{Primitive}
use Rattle.kte_text.specs.declared.primitive.Primitive.TheVariants.{Wrap, Unwrap}
use Rattle.kte_text.specs.declared.primitive.Misfit.{Misfit}
use Rattle.kte_text.specs.declared.primitive.Misfit.TheVariants.{TooLarge}
use Rattle.kte_text.proofs.LineLemmas.{IsLine-drop}
use Rattle.kte_text.proofs.PrimitiveLemmas.{place-from_misplaced, after_all-append, misfit-from_FitsText, IsText-after, size_of-after_wrap}
use Rattle.kte_text.proofs.FlatLemmas.{split_at, length-flatten, end_within}
use Rattle.kte_place.specs.Ends.{Ends}
use Rattle.kte_place.specs.Place.{at, is_at_or_before}
use Rattle.kte_place.specs.Span.{ends}
use Rattle.kte_place.specs.declared.place.Place.{Place}
use Rattle.kte_edit.specs.Steps.{IsChange, change_misfit, misplaced_among, places_of, steps_of, unjoinable_by, without_empty, insertion, removal}
use Rattle.kte_edit.specs.Parts.{offset, part_of, put_by, replaced}
use Rattle.kte_edit.specs.declared.change.Change.{Change}
use Rattle.kte_text.proofs.AroundLemmas.{line_around}
use Rattle.kte_edit.proofs.ListLemmas.{after_all-without_empty, after_insertion, after_removal, held}
use Rattle.kte_edit.proofs.FlatLemmas.{part_replaced, start_of-next}
use Rattle.kte_edit.proofs.FitLemmas.{Fine, boundary_between, fine_insertion, fine_removal, fine_append}

pub or_none : (o p : Option Misfit) → option_or o p ≡ None → (o ≡ None) × (p ≡ None)
or_none None p h = (refl, h)
or_none (Some x) p h = cc

-- a place is one of the text
pub record IsPlaced (text : List (List ℕ)) (place : Place) : Type 0 where
  pub inside : place.line < length text
  pub cut : IsBoundary (line_at text place.line) place.column

pub placed : (text : List (List ℕ)) (place : Place) → misplaced place.line (place.column ∷ []) text ≡ None → IsPlaced text place
placed text place h =
    let p = place-from_misplaced place.line (place.column ∷ []) text h in
    record { inside = p.0; cut = All-head (IsBoundary (line_at text place.line)) place.column [] p.1 }

-- the two ends of a span are places of the text
pub record IsSpanned (text : List (List ℕ)) (span : Ends) : Type 0 where
  pub start : IsPlaced text span.start
  pub end : IsPlaced text span.end

pub placed_one : (text : List (List ℕ)) (place : Place) → misplaced_among (place ∷ []) text ≡ None → IsPlaced text place
placed_one text place h = placed text place (or_none _ _ h).0

pub placed_two : (text : List (List ℕ)) (span : Ends) → misplaced_among (span.start ∷ span.end ∷ []) text ≡ None → IsSpanned text span
placed_two text span h =
    let e = or_none (misplaced span.start.line (span.start.column ∷ []) text) _ h in
    record { start = placed text span.start e.0; end = placed_one text span.end e.1 }

-- a span in order, by lines and columns
pub record InOrder (span : Ends) : Type 0 where
  pub lines : span.start.line ≤ span.end.line
  pub columns : span.start.line ≡ span.end.line → span.start.column ≤ span.end.column

pub in_order : (span : Ends) → IsTrue (is_at_or_before span.start span.end) → InOrder span
in_order span h = grind (arith, h)

-- a later line starts after the end of an earlier one
start_of-grows : (text : List (List ℕ)) (n k : ℕ) → n + k ≤ length text → start_of text n ≤ start_of text (n + k)
start_of-grows text n zero inside = rw (add-zero n) (omega arith)
start_of-grows text n (suc k) inside =
    let e : n + suc k ≡ n + k + 1 = omega arith in
    rw e (omega (arith, start_of-grows text n k (omega arith), start_of-next text (n + k) (omega arith)))

start_of-later : (text : List (List ℕ)) (a b : ℕ) → a < b → b ≤ length text
    → start_of text a + length (line_at text a) + 1 ≤ start_of text b
start_of-later text a b order inside =
    let e : a + 1 + (b - (a + 1)) ≡ b = omega arith in
    let le = rw e at (start_of-grows text (a + 1) (b - (a + 1)) (omega arith)) in
    omega (arith, le, start_of-next text a (omega arith))

pub offsets_in_order : (text : List (List ℕ)) (span : Ends) → InOrder span → IsSpanned text span
    → offset text span.start ≤ offset text span.end
offsets_in_order text span order places =
    let within = places.start.cut.within in
    elim (cases_lt span.start.line span.end.line) [
      | inl t ↦ omega (arith, start_of-later text span.start.line span.end.line t (let e = places.end.inside in omega arith))
      | inr f ↦
          let same : span.start.line ≡ span.end.line = let l = order.lines in omega arith in
          let c = order.columns same in
          rw same (omega arith)
    ]

-- the sizes of what is held
units_of-held : (units : List ℕ) (lines : List (List ℕ)) (rest : List ℕ)
    → units_of (held units lines rest) ≡ length units + units_of lines + length rest
units_of-held units [] rest = omega (arith, sum_by-cons length (units ++ rest) [], length-append units rest)
units_of-held units (next ∷ lines) rest =
    omega (arith, sum_by-cons length units (held next lines rest), sum_by-cons length next lines, units_of-held next lines rest)

length-held : (units : List ℕ) (lines : List (List ℕ)) (rest : List ℕ) → length (held units lines rest) ≡ 1 + length lines
length-held units [] rest = refl
length-held units (next ∷ lines) rest = omega (arith, length-held next lines rest)

size_of-held : (front : List (List ℕ)) (first units : List ℕ) (lines : List (List ℕ)) (rest : List ℕ) (back : List (List ℕ))
    → size_of (front ++ held (first ++ units) lines rest ++ back)
    ≡ size_of (front ++ (first ++ rest) ∷ back) + size_of (units ∷ lines)
size_of-held front first units lines rest back =
    omega (
      arith,
      sum_by-append length (front ++ held (first ++ units) lines rest) back,
      sum_by-append length front (held (first ++ units) lines rest),
      units_of-held (first ++ units) lines rest,
      length-held (first ++ units) lines rest,
      length-append (front ++ held (first ++ units) lines rest) back,
      length-append front (held (first ++ units) lines rest),
      length-append first units,
      length-append first rest,
      sum_by-append length front ((first ++ rest) ∷ back),
      sum_by-cons length (first ++ rest) back,
      length-append front ((first ++ rest) ∷ back),
      sum_by-cons length units lines,
    )

-- the text that an insertion leaves
pub inserted : (text : List (List ℕ)) (place : Place) (units : List ℕ) (lines : List (List ℕ)) → IsPlaced text place
    → after_all (insertion place (units ∷ lines)) text
    ≡ take place.line text
    ++ held (take place.column (line_at text place.line) ++ units) lines (drop place.column (line_at text place.line))
    ++ drop (place.line + 1) text
inserted text place units lines is =
    let inside = is.inside in
    let within = is.cut.within in
    ap (after_all (insertion place (units ∷ lines))) (split_at text place.line is.inside)
    ∙ after_insertion lines (take place.line text) (line_at text place.line) (drop (place.line + 1) text) units place.line place.column
    (length-take-le place.line text (omega arith)) within

-- a text around the line at a place, cut there
split_placed : (text : List (List ℕ)) (place : Place) → IsPlaced text place
    → take place.line text
    ++ (take place.column (line_at text place.line) ++ drop place.column (line_at text place.line)) ∷ drop (place.line + 1) text
    ≡ text
split_placed text place is =
    rw (take-append-drop place.column (line_at text place.line)) (sym (split_at text place.line is.inside))

pub size_of-inserted : (text : List (List ℕ)) (place : Place) (units : List ℕ) (lines : List (List ℕ)) → IsPlaced text place
    → size_of (after_all (insertion place (units ∷ lines)) text) ≡ size_of text + size_of (units ∷ lines)
size_of-inserted text place units lines is =
    rw (inserted text place units lines is)
    (size_of-held (take place.line text) (take place.column (line_at text place.line)) units lines
    (drop place.column (line_at text place.line)) (drop (place.line + 1) text)
    ∙ ap (λ t. size_of t + size_of (units ∷ lines)) (split_placed text place is))

pub fine_inserted : (text : List (List ℕ)) (place : Place) (lines : List (List ℕ)) → IsText text → IsPlaced text place → IsText lines
    → size_of text + size_of lines ≤ MAX_SIZE → Fine (insertion place lines) text
fine_inserted text place [] whole is added small = absurd (let s = added.some in omega arith)
fine_inserted text place (units ∷ lines) whole is added small =
    let n = place.line in
    let s = split_at text n is.inside in
    let inside = is.inside in
    let fine = fine_insertion lines (take n text) (line_at text n) (drop (n + 1) text) units n place.column
    (length-take-le n text (omega arith)) is.cut (All-get_or IsLine text n [] inside whole.whole)
    (All-head IsLine units lines added.whole) (All-tail IsLine units lines added.whole)
    (subst IsText s whole)
    (subst (λ t. size_of t + (length units + (units_of lines + length lines)) ≤ MAX_SIZE) s
    (omega (arith, sum_by-cons length units lines))) in
    subst (λ t. Fine (insertion place (units ∷ lines)) t) (sym s) fine

-- the text that a removal leaves
pub removed : (text : List (List ℕ)) (span : Ends) → InOrder span → IsSpanned text span
    → after_all (removal span text) text
    ≡ take span.start.line text
    ++ (take span.start.column (line_at text span.start.line) ++ drop span.end.column (line_at text span.end.line))
    ∷ drop (span.end.line + 1) text
removed text span order places =
    after_removal span text order.lines places.end.inside order.columns places.start.cut.within

pub fine_removed : (text : List (List ℕ)) (span : Ends) → IsText text → InOrder span → IsSpanned text span
    → Fine (removal span text) text
fine_removed text span whole order places =
    fine_removal span text order.lines places.end.inside order.columns places.start.cut places.end.cut whole

append_around : (front : List (List ℕ)) (line : List ℕ) (back : List (List ℕ)) → front ++ line ∷ back ≡ front ++ line ∷ [] ++ back
append_around front line back = sym (append_assoc front (line ∷ []) back)

-- a removal, as a part replaced by nothing
pub flatten-removed : (text : List (List ℕ)) (span : Ends) → InOrder span → IsSpanned text span
    → flatten (after_all (removal span text) text) ≡ replaced text span []
flatten-removed text span order places =
    let first = take span.start.column (line_at text span.start.line) in
    let rest = drop span.end.column (line_at text span.end.line) in
    rw (removed text span order places)
    (ap flatten (rw (append-nil first) (append_around (take span.start.line text) (first ++ rest) (drop (span.end.line + 1) text)))
    ∙ part_replaced text span [] [] places.start.inside places.end.inside places.start.cut.within places.end.cut.within
    (offsets_in_order text span order places))

length-replaced : (text : List (List ℕ)) (part : Ends) (units : List ℕ) → offset text part.start ≤ offset text part.end
    → offset text part.end ≤ length (flatten text)
    → length (replaced text part units) + (offset text part.end - offset text part.start) ≡ length (flatten text) + length units
length-replaced text part units order inside =
    let s = offset text part.start in
    let e = offset text part.end in
    omega (
      arith,
      length-append (take s (flatten text) ++ units) (drop (s + (e - s)) (flatten text)),
      length-append (take s (flatten text)) units,
      length-take-le s (flatten text) (omega arith),
      length-drop (s + (e - s)) (flatten text),
    )

pub size_of-removed : (text : List (List ℕ)) (span : Ends) → IsText text → InOrder span → IsSpanned text span
    → size_of (after_all (removal span text) text) + (offset text span.end - offset text span.start) ≡ size_of text
size_of-removed text span whole order places =
    let left = (fine_removed text span whole order places).whole in
    let within = places.end.cut.within in
    let e : length (replaced text span []) ≡ size_of (after_all (removal span text) text) =
    ap length (sym (flatten-removed text span order places)) ∙ length-flatten (after_all (removal span text) text) left.some in
    omega (
      arith,
      e,
      length-replaced text span [] (offsets_in_order text span order places)
          (omega (arith, end_within text span.end.line places.end.inside)),
      length-flatten text whole.some,
    )

-- after a removal its start is a place of what is left
placed_after : (text : List (List ℕ)) (span : Ends) → IsText text → InOrder span → IsSpanned text span
    → IsPlaced (after_all (removal span text) text) span.start
placed_after text span whole order places =
    let a = span.start.line in
    let first = take span.start.column (line_at text a) in
    let rest = drop span.end.column (line_at text span.end.line) in
    let front = take a text in
    let back = drop (span.end.line + 1) text in
    let inside = places.start.inside in
    let before : length front ≡ a = length-take-le a text (omega arith) in
    let long : length first ≡ span.start.column = length-take-le span.start.column (line_at text a) places.start.cut.within in
    let is_line = IsLine-drop (line_at text span.end.line) span.end.column
    (All-get_or IsLine text span.end.line [] places.end.inside whole.whole) places.end.cut in
    let cut : IsBoundary (line_at (front ++ (first ++ rest) ∷ back) a) span.start.column =
    rw (line_around front (first ++ rest) back a before) (rw long at (boundary_between first rest is_line)) in
    let there : a < length (front ++ (first ++ rest) ∷ back) = omega (arith, length-append front ((first ++ rest) ∷ back)) in
    rw (removed text span order places) (record { inside = there; cut = cut })

-- the text that a replacement leaves
replaced_lines : (text : List (List ℕ)) (span : Ends) (units : List ℕ) (lines : List (List ℕ)) → InOrder span → IsSpanned text span
    → after_all (insertion span.start (units ∷ lines)) (after_all (removal span text) text)
    ≡ take span.start.line text
    ++ held (take span.start.column (line_at text span.start.line) ++ units) lines (drop span.end.column (line_at text span.end.line))
    ++ drop (span.end.line + 1) text
replaced_lines text span units lines order places =
    let a = span.start.line in
    let c = span.start.column in
    let first = take c (line_at text a) in
    let rest = drop span.end.column (line_at text span.end.line) in
    let front = take a text in
    let back = drop (span.end.line + 1) text in
    let inside = places.start.inside in
    let before : length front ≡ a = length-take-le a text (omega arith) in
    let long : length first ≡ c = length-take-le c (line_at text a) places.start.cut.within in
    ap (after_all (insertion span.start (units ∷ lines))) (removed text span order places)
    ∙ after_insertion lines front (first ++ rest) back units a c before (omega (arith, length-append first rest))
    ∙ rw (take_at first rest c long, drop_at first rest c long) refl

-- the primitives of a replacement, those that change nothing left out or not
pub after_replacement : (text : List (List ℕ)) (span : Ends) (lines : List (List ℕ))
    → after_all (without_empty (removal span text ++ insertion span.start lines)) text
    ≡ after_all (insertion span.start lines) (after_all (removal span text) text)
after_replacement text span lines =
    after_all-without_empty (removal span text ++ insertion span.start lines) text
    ∙ after_all-append (removal span text) (insertion span.start lines) text

pub size_of-replaced : (text : List (List ℕ)) (span : Ends) (lines : List (List ℕ)) → IsText text → IsText lines → InOrder span
    → IsSpanned text span
    → size_of (after_all (without_empty (removal span text ++ insertion span.start lines)) text)
    ≡ size_of (after_all (removal span text) text) + size_of lines
size_of-replaced text span [] whole added order places = absurd (let s = added.some in omega arith)
size_of-replaced text span (units ∷ lines) whole added order places =
    ap size_of (after_replacement text span (units ∷ lines))
    ∙ size_of-inserted (after_all (removal span text) text) span.start units lines (placed_after text span whole order places)

pub joined_has_one_before : (line : ℕ) → unjoinable_by (Change.Unwrap line) ≡ None → 0 < line
joined_has_one_before zero h = cc
joined_has_one_before (suc line) h = omega arith

wrap_replaces : (text : List (List ℕ)) (place : Place) → IsPlaced text place
    → flatten (after (Wrap place.line place.column) text) ≡ replaced text (ends place place) (10 ∷ [])
wrap_replaces text place is =
    let front = take place.line text in
    let first = take place.column (line_at text place.line) in
    let rest = drop place.column (line_at text place.line) in
    let back = drop (place.line + 1) text in
    let e : front ++ first ∷ rest ∷ back ≡ front ++ held (first ++ []) ([] ∷ []) rest ++ back =
    rw (append-nil first) (sym (append_assoc front (first ∷ rest ∷ []) back)) in
    ap flatten e
    ∙ part_replaced text (ends place place) [] ([] ∷ []) is.inside is.inside is.cut.within is.cut.within (omega arith)

unwrap_replaces : (text : List (List ℕ)) (before line : ℕ) → before + 1 ≡ line → line < length text
    → flatten (take before text ++ (line_at text before ++ line_at text line) ∷ drop (line + 1) text)
    ≡ replaced text (ends (at before (length (line_at text before))) (at line 0)) []
unwrap_replaces text before line next inside =
    let a = line_at text before in
    let b = line_at text line in
    let front = take before text in
    let back = drop (line + 1) text in
    let all : take (length a) a ≡ a = take_all (length a) a (omega arith) in
    let e : front ++ (a ++ b) ∷ back ≡ front ++ held (take (length a) a ++ []) [] b ++ back =
    rw (append-nil (take (length a) a), all) (append_around front (a ++ b) back) in
    ap flatten e
    ∙ part_replaced text (ends (at before (length a)) (at line 0)) [] [] (omega arith) inside (omega arith) (omega arith)
    (omega (arith, start_of-later text before line (omega arith) (omega arith)))

insertion_replaces : (text : List (List ℕ)) (place : Place) (lines : List (List ℕ)) → IsText lines → IsPlaced text place
    → flatten (after_all (without_empty (insertion place lines)) text) ≡ replaced text (ends place place) (flatten lines)
insertion_replaces text place [] added is = absurd (let s = added.some in omega arith)
insertion_replaces text place (units ∷ lines) added is =
    ap flatten (after_all-without_empty (insertion place (units ∷ lines)) text ∙ inserted text place units lines is)
    ∙ part_replaced text (ends place place) units lines is.inside is.inside is.cut.within is.cut.within (omega arith)

replacement_replaces : (text : List (List ℕ)) (span : Ends) (lines : List (List ℕ)) → IsText lines → InOrder span → IsSpanned text span
    → flatten (after_all (without_empty (removal span text ++ insertion span.start lines)) text) ≡ replaced text span (flatten lines)
replacement_replaces text span [] added order places = absurd (let s = added.some in omega arith)
replacement_replaces text span (units ∷ lines) added order places =
    ap flatten (after_replacement text span (units ∷ lines) ∙ replaced_lines text span units lines order places)
    ∙ part_replaced text span units lines places.start.inside places.end.inside places.start.cut.within places.end.cut.within
    (offsets_in_order text span order places)

-- a change replaces its part
pub replaces_part : (change : Change) (text : List (List ℕ)) → IsChange change → misplaced_among (places_of change) text ≡ None
    → unjoinable_by change ≡ None
    → flatten (after_all (steps_of change text) text) ≡ replaced text (part_of change text) (put_by change)
replaces_part (Change.Wrap place) text has is joined = wrap_replaces text place (placed_one text place is)
replaces_part (Change.Unwrap line) text has is joined =
    let before = joined_has_one_before line joined in
    unwrap_replaces text (line - 1) line (omega arith) (placed_one text (at line 0) is).inside
replaces_part (Change.Insert place lines) text has is joined = insertion_replaces text place lines has (placed_one text place is)
replaces_part (Change.Remove span) text has is joined =
    ap flatten (after_all-without_empty (removal span text) text)
    ∙ flatten-removed text span (in_order span has) (placed_two text span is)
replaces_part (Change.Replace span lines) text has is joined =
    replacement_replaces text span lines has.1 (in_order span has.0) (placed_two text span is)

oversize_none : (size : ℕ) → oversize size ≡ None → size ≤ MAX_SIZE
oversize_none size h =
    elim (cases_Bool (nat_lt MAX_SIZE size)) [
      | inl t ↦ let e : Some (TooLarge size) ≡ None = rw t at h in cc
      | inr f ↦ ltb-false _ _ f
    ]

-- the primitives fit in turn and leave a text
pub record Sound (primitives : List Primitive) (text : List (List ℕ)) : Type 0 where
  pub fit : FitInTurn primitives text
  pub whole : IsText (after_all primitives text)

sound_from : (primitives : List Primitive) (text : List (List ℕ)) → Fine primitives text → Sound (without_empty primitives) text
sound_from primitives text fine = record { fit = fine.fit; whole = rw (after_all-without_empty primitives text) fine.whole }

sound_one : (p : Primitive) (text : List (List ℕ)) → IsText text → HasLine p → is_empty p ≡ false → FitsText p text
    → Sound (p ∷ []) text
sound_one p text whole has changes fits =
    let none = misfit-from_FitsText p text whole fits in
    record { fit = (none, changes, tt); whole = IsText-after p text whole has none }

sound_insertion : (text : List (List ℕ)) (place : Place) (lines : List (List ℕ)) → IsText text → IsPlaced text place → IsText lines
    → size_of (after_all (without_empty (insertion place lines)) text) ≤ MAX_SIZE → Sound (without_empty (insertion place lines)) text
sound_insertion text place [] whole is added small = absurd (let s = added.some in omega arith)
sound_insertion text place (units ∷ lines) whole is added small =
    let size = ap size_of (after_all-without_empty (insertion place (units ∷ lines)) text) ∙ size_of-inserted text place units lines is in
    sound_from (insertion place (units ∷ lines)) text (fine_inserted text place (units ∷ lines) whole is added (omega (arith, size)))

sound_replacement : (text : List (List ℕ)) (span : Ends) (lines : List (List ℕ)) → IsText text → InOrder span → IsSpanned text span
    → IsText lines → size_of (after_all (without_empty (removal span text ++ insertion span.start lines)) text) ≤ MAX_SIZE
    → Sound (without_empty (removal span text ++ insertion span.start lines)) text
sound_replacement text span lines whole order places added small =
    let fine = fine_removed text span whole order places in
    let size = size_of-replaced text span lines whole added order places in
    sound_from (removal span text ++ insertion span.start lines) text
    (fine_append (removal span text) (insertion span.start lines) text fine
    (fine_inserted (after_all (removal span text) text) span.start lines fine.whole (placed_after text span whole order places) added
    (omega (arith, size))))

pub sound_change : (change : Change) (text : List (List ℕ)) → IsText text → IsChange change → change_misfit change text ≡ None
    → Sound (steps_of change text) text
sound_change (Change.Wrap place) text whole has none =
    let h = or_none _ _ none in
    let is = placed_one text place h.0 in
    let small = oversize_none _ h.1 in
    let size = size_of-after_wrap place.line place.column text is.inside is.cut.within in
    sound_one (Wrap place.line place.column) text whole tt refl (is.inside, is.cut, omega (arith, size))
sound_change (Change.Unwrap line) text whole has none =
    let h = or_none _ _ none in
    sound_one (Unwrap line) text whole tt refl
    (joined_has_one_before line (or_none _ _ h.1).0, (placed_one text (at line 0) h.0).inside)
sound_change (Change.Insert place lines) text whole has none =
    let h = or_none _ _ none in
    sound_insertion text place lines whole (placed_one text place h.0) has (oversize_none _ h.1)
sound_change (Change.Remove span) text whole has none =
    sound_from (removal span text) text
    (fine_removed text span whole (in_order span has) (placed_two text span (or_none (misplaced_among (places_of (Change.Remove span)) text) _ none).0))
sound_change (Change.Replace span lines) text whole has none =
    let h = or_none (misplaced_among (places_of (Change.Replace span lines)) text) _ none in
    sound_replacement text span lines whole (in_order span has.0) (placed_two text span h.0) has.1 (oversize_none _ h.1)

pub replaces_change : (change : Change) (text : List (List ℕ)) → IsText text → IsChange change → change_misfit change text ≡ None
    → flatten (after_all (steps_of change text) text) ≡ replaced text (part_of change text) (put_by change)
replaces_change change text whole has none =
    let h = or_none _ _ none in
    replaces_part change text has h.0 (or_none _ _ h.1).0
