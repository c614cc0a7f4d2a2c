-- Where the end of a span may come to stand before its start: on a line that the entry touched.
use Rattle.std.proofs.Common.{◌≡◌, ◌<◌, ◌≤◌, ◌==◌, Bool, true, false, refl, arith, IsTrue, nat_lt, if◌then◌else◌}
use Rattle.std.specs.List.{list_any}
use Rattle.std.proofs.lemmas.Bool.Decides.{nat_tests}
use Rattle.kte_place.specs.declared.place.Place.{Place}
use Rattle.kte_place.specs.declared.place.OnInsert.{OnInsert}
use Rattle.kte_place.specs.declared.entry.Entry.{Entry}
use Rattle.kte_place.specs.declared.entry.EntryKind.{EntryKind}
use Rattle.kte_place.specs.declared.entry.EntryKind.TheVariants.{Wrap, Unwrap, Insert, Remove}
use Rattle.kte_place.specs.Place.{is_at_or_before, is_before}
use Rattle.kte_place.specs.Entry.{carry, carry_by}
use Rattle.kte_buffer.specs.Entries.{lines_by, touched}

-- of two places on the entry's line or later ones
crossed_by : (k : EntryKind) (e : Entry) (s t : Place) (a b : OnInsert) → (k ≡ Unwrap → 1 ≤ e.line)
    → e.line ≤ s.line → e.line ≤ t.line → IsTrue (is_at_or_before s t)
    → IsTrue (is_before (carry_by k e t b) (carry_by k e s a))
    → IsTrue (list_any (λ n. n == (carry_by k e s a).line) (lines_by k e.line))
crossed_by Wrap e s t a b j h i in_order crossed = grind (arith, nat_tests)
crossed_by Unwrap e s t a b j h i in_order crossed = let one = j refl in grind (arith, nat_tests)
crossed_by Insert e s t a b j h i in_order crossed = grind (arith, nat_tests)
crossed_by Remove e s t a b j h i in_order crossed = grind (arith, nat_tests)

-- of a place before the entry's line, and one on it or later: only a line that is joined can come before the first
crossed_before : (k : EntryKind) (e : Entry) (s t : Place) (b : OnInsert) → (k ≡ Unwrap → 1 ≤ e.line)
    → s.line < e.line → e.line ≤ t.line → IsTrue (is_before (carry_by k e t b) s)
    → IsTrue (list_any (λ n. n == s.line) (lines_by k e.line))
crossed_before Wrap e s t b j h i crossed = absurd (grind (arith, nat_tests))
crossed_before Unwrap e s t b j h i crossed = let one = j refl in grind (arith, nat_tests)
crossed_before Insert e s t b j h i crossed = absurd (grind (arith, nat_tests))
crossed_before Remove e s t b j h i crossed = absurd (grind (arith, nat_tests))

-- by whether each is before the entry's line
crossed_where : (e : Entry) (s t : Place) (a b : OnInsert) (f g : Bool) → nat_lt s.line e.line ≡ f → nat_lt t.line e.line ≡ g
    → (e.kind ≡ Unwrap → 1 ≤ e.line) → IsTrue (is_at_or_before s t)
    → IsTrue (is_before (if g then t else carry_by e.kind e t b) (if f then s else carry_by e.kind e s a))
    → IsTrue (list_any (λ n. n == (if f then s else carry_by e.kind e s a).line) (touched e))
crossed_where e s t a b true true u v j in_order crossed = absurd (grind (arith, nat_tests))
crossed_where e s t a b true false u v j in_order crossed =
    crossed_before e.kind e s t b j (grind (arith, nat_tests)) (grind (arith, nat_tests)) crossed
crossed_where e s t a b false true u v j in_order crossed = absurd (grind (arith, nat_tests))
crossed_where e s t a b false false u v j in_order crossed =
    crossed_by e.kind e s t a b j (grind (arith, nat_tests)) (grind (arith, nat_tests)) in_order crossed

-- Two places in order: if the second is carried to before the first, the first comes to stand on a line that the entry touched
pub crossed : (e : Entry) (s t : Place) (a b : OnInsert) → (e.kind ≡ Unwrap → 1 ≤ e.line) → IsTrue (is_at_or_before s t)
    → IsTrue (is_before (carry e t b) (carry e s a)) → IsTrue (list_any (λ n. n == (carry e s a).line) (touched e))
crossed e s t a b j in_order over = crossed_where e s t a b _ _ refl refl j in_order over
