-- Cursors that come and go, one after another.
use Rattle.std.proofs.Common.{◌≡◌, ◌≢◌, ℕ, if◌then◌else◌, None, Some, IsSome, inl, inr, sym, ap, ◌∙◌, subst, arith}
use Rattle.std.proofs.lemmas.Bool.{cases_eq}
use Rattle.std.proofs.lemmas.Bool.Decides.{nat_tests}
use Rattle.std.specs.Cmp.{nat_cmp_total}
use Rattle.std.specs.FinMap.{get, insert, remove, same_map, nat_cmp-IsAntisymmetric, gets}
use Rattle.kte_place.specs.Cursors.{Hanging}
use Rattle.kte_place.specs.declared.span.Expand.{Expand}
use Rattle.kte_place.specs.Ends.{Ends}
use Rattle.kte_place.specs.Span.{start_on, end_on}
use Rattle.kte_buffer.specs.Cursors.{hanging}
use Rattle.kte_ranges.specs.Cursors.{Hung, is_among}
use Rattle.kte_doc.specs.Hanging.{HungAt}

-- a cursor that has come hangs
pub come_hangs : (old new : Hung) (id : ℕ) (h : Hanging) → new ≡ insert old id h → IsSome (get new id)
come_hangs old new id h is = subst (λ (m : Hung). IsSome (get m id)) (sym is) (grind (arith, nat_tests, gets))

-- a cursor that came and goes leaves the others as they were
pub come_and_gone : (old mid new : Hung) (id : ℕ) (h : Hanging) → get old id ≡ None → mid ≡ insert old id h → new ≡ remove mid id → new ≡ old
come_and_gone old mid new id h free come gone =
    same_map nat_cmp_total nat_cmp-IsAntisymmetric _ _ (λ q.
    ap (λ (m : Hung). get m q) (gone ∙ ap (λ (m : Hung). remove m id) come)
    ∙ elim (cases_eq q id) [
      | inl here ↦ let none : get old q ≡ None = ap (get old) here ∙ free in grind (arith, nat_tests, gets)
      | inr apart ↦ grind (arith, nat_tests, gets)
    ])

-- two cursors came
pub come_both : (old mid new : Hung) (expand : Expand) (span : Ends) (start end : ℕ) (a b : Hanging) → a ≡ hanging span.start (start_on expand)
    → b ≡ hanging span.end (end_on expand) → get old start ≡ None → mid ≡ insert old start a → get mid end ≡ None → new ≡ insert mid end b
    → HungAt old new expand (start, end) span
come_both old mid new expand span start end a b is_a is_b free first free_then second =
    let at_end : get (insert old start a) end ≡ None = ap (λ (m : Hung). get m end) (sym first) ∙ free_then in
    let two : start ≢ end = λ same. absurd (grind (arith, nat_tests, gets)) in
    record {
      start_free = free;
      end_free = grind (arith, nat_tests, gets);
      two = two;
      hung = second ∙ ap (λ (m : Hung). insert m end b) first
          ∙ ap (λ (h : Hanging). insert (insert old start h) end b) is_a
          ∙ ap (λ (h : Hanging). insert (insert old start (hanging span.start (start_on expand))) end h) is_b;
    }

-- one of two cursors went, and the other still hangs
pub other_left : (old new : Hung) (start end : ℕ) → new ≡ remove old start → start ≢ end → IsSome (get old end) → IsSome (get new end)
other_left old new start end gone apart some =
    subst (λ (m : Hung). IsSome (get m end)) (sym gone) (grind (arith, nat_tests, gets))

-- both went
pub both_gone : (old mid new : Hung) (start end n : ℕ) → mid ≡ remove old start → new ≡ remove mid end
    → get new n ≡ (if is_among (Some (start, end)) n then None else get old n)
both_gone old mid new start end n first second =
    ap (λ (m : Hung). get m n) (second ∙ ap (λ (m : Hung). remove m end) first) ∙ grind (arith, nat_tests, gets)
