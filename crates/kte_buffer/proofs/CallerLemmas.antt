-- Lemmas for callers: what holds of the entry of a primitive that fits its text.
use Rattle.std.proofs.Common.{◌≡◌, ℕ, ◌+◌, ◌-◌, ◌<◌, ◌≤◌, List, [], ◌∷◌, length, All, sym, arith}
use Rattle.std.proofs.lemmas.List.Sums.{sum_by-take-drop, sum_by-drop_more}
use Rattle.std.proofs.lemmas.List.Elements.{All-nil, All-cons}
use Rattle.kte_text.specs.Texts.{IsText, line_at, size_of}
use Rattle.kte_text.specs.Primitives.{FitsText, after}
use Rattle.kte_text.proofs.PrimitiveLemmas.{length-after_wrap, length-after_unwrap, length-after_insert, length-after_remove}
use Rattle.kte_text.specs.declared.primitive.Primitive.{Primitive}
use Rattle.kte_text.specs.declared.primitive.Primitive.TheVariants.{Wrap, Unwrap, Insert, Remove}
use Rattle.kte_place.specs.Entry.{EntryFits, carry, lines_after}
use Rattle.kte_place.specs.Laws.{IsWithin}
use Rattle.kte_place.specs.declared.place.Place.{Place}
use Rattle.kte_place.specs.declared.place.OnInsert.{OnInsert}
use Rattle.kte_place.proofs.CarryLemmas.{stays_in_text}
use Rattle.kte_buffer.specs.Entries.{entry, touched}

-- no line is longer than its text
pub length-line_at : (text : List (List ℕ)) (n : ℕ) → n < length text → length (line_at text n) ≤ size_of text
length-line_at text n within = omega (arith, sum_by-take-drop length text n, sum_by-drop_more length text n [] within)

-- the entry of a primitive that fits can be carried over
pub EntryFits-entry : (p : Primitive) (text : List (List ℕ)) → IsText text → FitsText p text → EntryFits (entry p text)
EntryFits-entry (Wrap line column) text whole (inside, at, small) =
    record { length = omega arith; old = omega arith; joined = λ e. absurd (cc) }
EntryFits-entry (Unwrap line) text whole (joined, inside) =
    record { length = omega arith; old = omega (arith, length-line_at text (line - 1) (omega arith), whole.small); joined = λ e. omega arith }
EntryFits-entry (Insert line column units) text whole (inside, at, small) =
    record { length = omega arith; old = omega (arith, length-line_at text line inside, whole.small); joined = λ e. absurd (cc) }
EntryFits-entry (Remove line column units) text whole (inside, at, end) =
    record { length = omega (arith, end.within, length-line_at text line inside, whole.small); old = omega arith; joined = λ e. absurd (cc) }

-- it tells of a line that is there
pub IsWithin-entry : (p : Primitive) (text : List (List ℕ)) → FitsText p text → IsWithin (length text) (entry p text)
IsWithin-entry (Wrap line column) text (inside, at, small) = record { line = inside; joined = λ e. absurd (cc) }
IsWithin-entry (Unwrap line) text (joined, inside) = record { line = inside; joined = λ e. omega arith }
IsWithin-entry (Insert line column units) text (inside, at, small) = record { line = inside; joined = λ e. absurd (cc) }
IsWithin-entry (Remove line column units) text (inside, at, end) = record { line = inside; joined = λ e. absurd (cc) }

-- the number of lines after a primitive that fits, by its entry
pub lines_after-entry : (p : Primitive) (text : List (List ℕ)) → FitsText p text
    → lines_after (entry p text).kind (length text) ≡ length (after p text)
lines_after-entry (Wrap line column) text (inside, at, small) = sym (length-after_wrap line column text inside)
lines_after-entry (Unwrap line) text (joined, inside) = omega (arith, length-after_unwrap line text joined inside)
lines_after-entry (Insert line column units) text (inside, at, small) = sym (length-after_insert line column units text)
lines_after-entry (Remove line column units) text (inside, at, end) = sym (length-after_remove line column units text)

-- a place on a line of the text is carried to one on a line of the text after
pub carried_within : (p : Primitive) (text : List (List ℕ)) (place : Place) (on : OnInsert) → FitsText p text → place.line < length text
    → (carry (entry p text) place on).line < length (after p text)
carried_within p text place on fits within =
    omega (
      arith,
      stays_in_text (length text) (entry p text) place on (IsWithin-entry p text fits) within,
      lines_after-entry p text fits,
    )

-- the touched lines are there after the primitive
pub touched_within : (p : Primitive) (text : List (List ℕ)) → FitsText p text
    → All (λ line. line < length (after p text)) (touched (entry p text))
touched_within (Wrap line column) text (inside, at, small) =
    let n = length-after_wrap line column text inside in
    let P : ℕ → Type 0 = λ k. k < length (after (Wrap line column) text) in
    All-cons P line ((line + 1) ∷ []) (omega (arith, n)) (All-cons P (line + 1) [] (omega (arith, n)) (All-nil P))
touched_within (Unwrap line) text (joined, inside) =
    let P : ℕ → Type 0 = λ k. k < length (after (Unwrap line) text) in
    All-cons P (line - 1) [] (omega (arith, length-after_unwrap line text joined inside)) (All-nil P)
touched_within (Insert line column units) text (inside, at, small) =
    let P : ℕ → Type 0 = λ k. k < length (after (Insert line column units) text) in
    All-cons P line [] (omega (arith, length-after_insert line column units text)) (All-nil P)
touched_within (Remove line column units) text (inside, at, end) =
    let P : ℕ → Type 0 = λ k. k < length (after (Remove line column units) text) in
    All-cons P line [] (omega (arith, length-after_remove line column units text)) (All-nil P)
