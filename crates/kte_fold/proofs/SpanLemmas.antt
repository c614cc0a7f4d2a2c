-- The spans of the worked examples and of the tests.
use Rattle.std.proofs.Common.{◌≡◌, ℕ, ◌==◌, if◌then◌else◌, Bool, true, false, Option, None, Some, refl, sym, subst, arith}
use Rattle.std.proofs.lemmas.Bool.Decides.{nat_tests}
use Rattle.std.specs.FinMap.{get, empty, gets}
use Rattle.kte_place.specs.Ends.{Ends}
use Rattle.kte_fold.specs.Folds.{Spans}
use Rattle.kte_fold.specs.Examples.{with_span, three_spans}

with_one : (spans : Spans) (k id : ℕ) (o : Option Ends) → get spans k ≡ None → get (with_span spans k o) id ≡ (if id == k then o else get spans id)
with_one spans k id None h = grind (arith, nat_tests)
with_one spans k id (Some s) h = grind (arith, nat_tests, gets)

abbrev no_spans : Spans
no_spans = empty

pub none : (id : ℕ) → get no_spans id ≡ None
none id = grind (arith, gets)

pub three_are : (a b c : Option Ends) (id : ℕ) → get (three_spans a b c) id ≡ (if id == 1 then a else if id == 2 then b else if id == 3 then c else None)
three_are a b c id =
    let third = with_one no_spans 3 id c (none 3) in
    let third_2 = with_one no_spans 3 2 c (none 3) in
    let third_1 = with_one no_spans 3 1 c (none 3) in
    let second = with_one (with_span no_spans 3 c) 2 id b (rw third_2 (none 2)) in
    let second_1 = with_one (with_span no_spans 3 c) 2 1 b (rw third_2 (none 2)) in
    let first = with_one (with_span (with_span no_spans 3 c) 2 b) 1 id a (rw (second_1, third_1) (none 1)) in
    rw (first, second, third, none id) refl

-- what holds of each of three ranges, and of an invalid one, holds of the span under each number
pub three_hold : (P : Option Ends → Type 0) (a b c : Option Ends) → P a → P b → P c → P None → (id : ℕ) → P (get (three_spans a b c) id)
three_hold P a b c x y z n id =
    subst P (sym (three_are a b c id)) (by_tests (id == 1) (id == 2) (id == 3)) where
      by_tests : (i j k : Bool) → P (if i then a else if j then b else if k then c else None)
      by_tests true j k = x
      by_tests false true k = y
      by_tests false false true = z
      by_tests false false false = n

-- the spans of three ranges after a change of each, which keeps an invalid one so
pub three_changed : (f : Option Ends → Option Ends) (a b c : Option Ends) → f None ≡ None → (id : ℕ)
    → get (three_spans (f a) (f b) (f c)) id ≡ f (get (three_spans a b c) id)
three_changed f a b c n id =
    rw (three_are (f a) (f b) (f c) id, three_are a b c id) (by_tests (id == 1) (id == 2) (id == 3)) where
      by_tests : (i j k : Bool) → (if i then f a else if j then f b else if k then f c else None)
          ≡ f (if i then a else if j then b else if k then c else None)
      by_tests true j k = refl
      by_tests false true k = refl
      by_tests false false true = refl
      by_tests false false false = sym n
