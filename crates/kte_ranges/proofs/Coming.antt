-- Proofs of the laws.
use Rattle.std.proofs.Common.{◌≡◌, ◌≢◌, ℕ, Bool, true, false, eqb, Some, None, IsTrue, refl, sym, ◌∙◌, subst, ◌⊎◌, ⊎_elim, inl, inr, arith}
use Rattle.std.proofs.lemmas.Bool.Decides.{nat_tests}
use Rattle.std.specs.FinMap.{get, insert, remove, gets}
use Rattle.kte_place.specs.declared.span.Empty.TheVariants.{Allow, Void}
use Rattle.kte_ranges.specs.declared.info.RangeInfo.{RangeInfo}
use Rattle.kte_ranges.specs.Table.{Ranges}
use Rattle.kte_ranges.specs.Cursors.{holds_cursor, Hangs, HoldsTwo}
use Rattle.kte_ranges.specs.Laws.{ComesApart, ComesHung, GoesApart, GoesFree, GoesHung, SettlesOnce}

-- a range of the table without one of its ranges is a range of the table, of another number
left_over : (ranges : Ranges) (id i : ℕ) (x : RangeInfo) → get (remove ranges id) i ≡ Some x → (i ≢ id) × (get ranges i ≡ Some x)
left_over ranges id i x is = by_test (eqb i id) refl where
  by_test : (b : Bool) → eqb i id ≡ b → (i ≢ id) × (get ranges i ≡ Some x)
  by_test true same = absurd (grind (arith, nat_tests, gets))
  by_test false differs = (λ same. grind (arith, nat_tests), grind (arith, nat_tests, gets))

pub goes_apart : GoesApart
goes_apart ranges id apart = record {
  own = λ i x is. apart.own i x (left_over ranges id i x is).1;
  others = λ i j n x y is_x is_y. apart.others i j n x y (left_over ranges id i x is_x).1 (left_over ranges id j y is_y).1;
}

pub goes_hung : GoesHung
goes_hung hung ranges id hang i x is = hang i x (left_over ranges id i x is).1

free_by : (b : Bool) → (IsTrue b → ⊥) → b ≡ false
free_by true never = absurd (never refl)
free_by false never = refl

pub goes_free : GoesFree
goes_free ranges id n info apart here held i x is =
    let other = left_over ranges id i x is in
    free_by (holds_cursor x n) (λ holds. other.0 (apart.others i id n x info other.1 here holds held))

-- a range of the table with one more is that one, or of another number
one_more : (ranges : Ranges) (id i : ℕ) (info x : RangeInfo) → get (insert ranges id info) i ≡ Some x
    → ((i ≡ id) × (x ≡ info)) ⊎ (get (remove ranges id) i ≡ Some x)
one_more ranges id i info x is = by_test (eqb i id) refl where
  by_test : (b : Bool) → eqb i id ≡ b → ((i ≡ id) × (x ≡ info)) ⊎ (get (remove ranges id) i ≡ Some x)
  by_test true same = inl (grind (arith, nat_tests), grind (arith, nat_tests, gets))
  by_test false differs = inr (grind (arith, nat_tests, gets))

pub comes_hung : ComesHung
comes_hung hung ranges id info hang own i x is = ⊎_elim
    (λ it. subst (Hangs hung) (sym it.1) own)
    (λ other. goes_hung hung ranges id hang i x other)
    (one_more ranges id i info x is)

pub comes_apart : ComesApart
comes_apart ranges id info apart two free = record {
  own = λ i x is. ⊎_elim
      (λ it. subst HoldsTwo (sym it.1) two)
      (λ other. (goes_apart ranges id apart).own i x other)
      (one_more ranges id i info x is);
  others = λ i j n x y is_x is_y held_x held_y. ⊎_elim
      (λ first. ⊎_elim
      (λ second. first.0 ∙ sym second.0)
      (λ other. absurd (clash y n held_y (free n (subst (λ x. IsTrue (holds_cursor x n)) first.1 held_x) j y other)))
      (one_more ranges id j info y is_y))
      (λ other. ⊎_elim
      (λ second. absurd (clash x n held_x (free n (subst (λ y. IsTrue (holds_cursor y n)) second.1 held_y) i x other)))
      (λ both. (goes_apart ranges id apart).others i j n x y other both held_x held_y)
      (one_more ranges id j info y is_y))
      (one_more ranges id i info x is_x);
}
  where
    clash : (x : RangeInfo) (n : ℕ) → IsTrue (holds_cursor x n) → holds_cursor x n ≡ false → ⊥
    clash x n held free = grind arith

pub settles_once : SettlesOnce
settles_once empty None = refl
settles_once Allow (Some s) = grind (arith, nat_tests)
settles_once Void (Some s) = grind (arith, nat_tests)
