-- How far a primitive moves a place.
use Rattle.std.proofs.Common.{◌≡◌, ℕ, ◌+◌, ◌-◌, ◌<◌, ◌≤◌, List, [], length, None, refl, arith}
use Rattle.std.proofs.lemmas.Bool.Decides.{nat_tests}
use Rattle.std.proofs.lemmas.List.Sums.{sum_by-take-drop, sum_by-drop_more}
use Rattle.kte_text.specs.Texts.{line_at, size_of, units_of}
use Rattle.kte_text.specs.Primitives.{FitsText, misfit, after}
use Rattle.kte_text.proofs.PrimitiveLemmas.{FitsText-from_misfit, size_of-after_unwrap, small-from_misfit}
use Rattle.kte_text.specs.declared.TheConstants.{MAX_SIZE}
use Rattle.kte_text.specs.declared.primitive.Primitive.{Primitive}
use Rattle.kte_text.specs.declared.primitive.Primitive.TheVariants.{Wrap, Unwrap, Insert, Remove}
use Rattle.kte_place.specs.declared.place.Place.{Place}
use Rattle.kte_place.specs.declared.place.OnInsert.{OnInsert}
use Rattle.kte_place.specs.declared.entry.Entry.{Entry}
use Rattle.kte_place.specs.declared.entry.EntryKind.{EntryKind}
use Rattle.kte_place.specs.declared.entry.EntryKind.TheVariants as kind
use Rattle.kte_place.specs.Entry.{carry, carry_by}
use Rattle.kte_buffer.specs.Entries.{entry}
use Rattle.kte_buffer.proofs.CallerLemmas.{carried_within}
use Rattle.kte_doc.specs.Within.{IsWithin, farthest_at}

-- no line has more units than the text
length-units : (text : List (List ℕ)) (n : ℕ) → n < length text → length (line_at text n) ≤ units_of text
length-units text n within = omega (arith, sum_by-take-drop length text n, sum_by-drop_more length text n [] within)

-- an entry's lengths push a place
push_by : (k : EntryKind) (e : Entry) (place : Place) (on : OnInsert) (most : ℕ) → (k ≡ kind.Unwrap → e.old ≤ most) → (k ≡ kind.Insert → e.length ≤ most)
    → (carry_by k e place on).column ≤ place.column + most
push_by kind.Wrap e place on most joined inserted = grind (arith, nat_tests)
push_by kind.Unwrap e place on most joined inserted = let old = joined refl in grind (arith, nat_tests)
push_by kind.Insert e place on most joined inserted = let added = inserted refl in grind (arith, nat_tests)
push_by kind.Remove e place on most joined inserted = grind (arith, nat_tests)

push : (e : Entry) (place : Place) (on : OnInsert) (most : ℕ) → (e.kind ≡ kind.Unwrap → e.old ≤ most) → (e.kind ≡ kind.Insert → e.length ≤ most)
    → (carry e place on).column ≤ place.column + most
push e place on most joined inserted = grind (arith, nat_tests, push_by e.kind e place on most joined inserted)

-- a primitive that fits pushes a place by at most the greatest size
pushed : (p : Primitive) (text : List (List ℕ)) (place : Place) (on : OnInsert) → FitsText p text → size_of (after p text) ≤ MAX_SIZE
    → (carry (entry p text) place on).column ≤ place.column + MAX_SIZE
pushed (Wrap line column) text place on fits small =
    push (entry (Wrap line column) text) place on MAX_SIZE (λ e. absurd (cc)) (λ e. absurd (cc))
pushed (Unwrap line) text place on (joined, inside) small =
    push (entry (Unwrap line) text) place on MAX_SIZE
    (λ e. omega (arith, size_of-after_unwrap line text joined inside, length-units text (line - 1) (omega arith)))
    (λ e. absurd (cc))
pushed (Insert line column units) text place on (inside, at, small) _ =
    push (entry (Insert line column units) text) place on MAX_SIZE (λ e. absurd (cc)) (λ e. omega arith)
pushed (Remove line column units) text place on fits small =
    push (entry (Remove line column units) text) place on MAX_SIZE (λ e. absurd (cc)) (λ e. absurd (cc))

-- a place in the text stays in it, and no farther than the next revision allows
pub IsWithin-carried : (p : Primitive) (text : List (List ℕ)) (revision : ℕ) (place : Place) (on : OnInsert) → misfit p text ≡ None
    → IsWithin (length text) (farthest_at revision) place
    → IsWithin (length (after p text)) (farthest_at (revision + 1)) (carry (entry p text) place on)
IsWithin-carried p text revision place on fits within =
    let whole = FitsText-from_misfit p text fits in
    record {
      line = carried_within p text place on whole within.line;
      column = omega (arith, pushed p text place on whole (small-from_misfit p text fits), within.column);
    }
