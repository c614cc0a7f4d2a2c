-- The index from cursors to the ranges that start with them.
use Rattle.std.proofs.Common.{◌≡◌, ℕ, ◌<◌, ◌≤◌, Bool, true, false, List, length, get_or, slice_index, Option, Some, None, IsTrue, IfNone, All, refl, sym, ◌∙◌, subst, ⊎_elim, arith}
use Rattle.std.proofs.lemmas.Bool.{false≢true, cases_lt}
use Rattle.std.proofs.lemmas.Bool.Decides.{nat_tests}
use Rattle.std.proofs.lemmas.List.{get_or_default}
use Rattle.std.specs.Bool.{then_some}
use Rattle.std.specs.Ordering.{nat_cmp}
use Rattle.std.specs.FinMap as map
use Rattle.kte_ranges.specs.declared.info.RangeInfo.{RangeInfo}
use Rattle.kte_ranges.specs.Cursors.{holds_cursor}
use Rattle.kte_ranges.specs.Rows.{IsRising, IsAt}
use Rattle.kte_ranges.specs.Starts.{Rows, is_first, starts_with, LeadTo}
use Rattle.kte_ranges.proofs.Settled.{first_is_held}
use Rattle.kte_ranges.proofs.Tables.{at_its_place}

-- the cursors of a range that starts with a cursor
pub starts : (info : RangeInfo) (n : ℕ) → starts_with info n ≡ true → (c : ℕ × ℕ) × (info.cursors ≡ Some c) × (c.0 ≡ n)
starts info n is = by_cursors info.cursors refl is where
  by_cursors : (o : Option (ℕ × ℕ)) → info.cursors ≡ o → is_first o n ≡ true → (c : ℕ × ℕ) × (info.cursors ≡ Some c) × (c.0 ≡ n)
  by_cursors None at is = absurd (false≢true is)
  by_cursors (Some c) at is = (c, at, grind (arith, nat_tests))

pub starts_hold : (info : RangeInfo) (n : ℕ) → starts_with info n ≡ true → IsTrue (holds_cursor info n)
starts_hold info n is = let at = starts info n is in subst (λ m. IsTrue (holds_cursor info m)) at.2 (first_is_held info at.0 at.1)

pub starts_at : (info : RangeInfo) (n : ℕ) (c : ℕ × ℕ) → info.cursors ≡ Some c → c.0 ≡ n → starts_with info n ≡ true
starts_at info n c at same = rw at (grind (arith, nat_tests))

-- where the index leads from the start
pub led_to : (ids : List ℕ) (row : ℕ × RangeInfo) (n : ℕ) → LeadTo ids row → starts_with row.1 n ≡ true
    → (n < length ids) × (slice_index ids n ≡ row.0)
led_to ids row n leads is =
    let at = starts row.1 n is in (
      subst (λ m. m < length ids) at.2 (leads.inside at.0 at.1),
      subst (λ m. slice_index ids m ≡ row.0) at.2 (leads.leads at.0 at.1),
    )

free_by : (b : Bool) → (b ≡ true → ⊥) → b ≡ false
free_by true never = absurd (never refl)
free_by false never = refl

-- no range starts with the cursor
module _ (ids : List ℕ) (n : ℕ) (rows : Rows) (led : All (LeadTo ids) rows) where
  absent_by : ((k : ℕ) (d : ℕ × RangeInfo) → k < length rows → n < length ids → slice_index ids n ≡ (get_or rows k d).0
      → starts_with (get_or rows k d).1 n ≡ true → ⊥) → All (λ row. starts_with row.1 n ≡ false) rows
  absent_by never = λ k d lt. free_by (starts_with (get_or rows k d).1 n) (λ is.
      let to = led_to ids (get_or rows k d) n (led k d lt) is in never k d lt to.0 to.1 is)

  -- as the index ends before it
  pub absent_beyond : length ids ≤ n → All (λ row. starts_with row.1 n ≡ false) rows
  absent_beyond beyond = absent_by (λ k d lt inside id is. omega (arith, inside, beyond))

  -- as the index leads to no range
  pub absent_stale : (id : ℕ) → IsRising rows → (n < length ids → slice_index ids n ≡ id)
      → map.get (map.from_entries {R = nat_cmp} rows) id ≡ None → All (λ row. starts_with row.1 n ≡ false) rows
  absent_stale id rising at none = absent_by (λ k d lt inside here is.
      let found = at_its_place rows rising k d lt in
      let same : (get_or rows k d).0 ≡ id = sym here ∙ at inside in
      some_none (sym (subst (λ m. map.get (map.from_entries {R = nat_cmp} rows) m ≡ Some (get_or rows k d).1) same found) ∙ none)) where
        some_none : {A : Type 0} {a : A} → Some a ≡ None → ⊥
        some_none e = cc

  -- as it leads to one that starts elsewhere
  pub absent_other : (id i : ℕ) → IsRising rows → (n < length ids → slice_index ids n ≡ id) → i < length rows
      → ((d : ℕ × RangeInfo) → (get_or rows i d).0 ≡ id) → ((d : ℕ × RangeInfo) → starts_with (get_or rows i d).1 n ≡ false)
      → All (λ row. starts_with row.1 n ≡ false) rows
  absent_other id i rising at inside_rows number elsewhere = absent_by (λ k d lt inside here is.
      let same : (get_or rows k d).0 ≡ (get_or rows i d).0 = sym here ∙ at inside ∙ sym (number d) in
      ⊎_elim
      (λ before. let less = rising k i d before inside_rows in omega arith)
      (λ from. ⊎_elim
      (λ after. let less = rising i k d after lt in omega arith)
      (λ until. let there : k ≡ i = omega (arith, from, until) in
      false≢true (sym (elsewhere d) ∙ subst (λ j. starts_with (get_or rows j d).1 n ≡ true) there is))
      (cases_lt i k))
      (cases_lt k i))

  pub other_place : (id i : ℕ) → IsRising rows → (n < length ids → slice_index ids n ≡ id) → IsAt rows id i
      → (d : ℕ × RangeInfo) (test : Bool) → test ≡ starts_with (get_or rows i d).1 n → (r : Option ℕ) → r ≡ then_some test i
      → IfNone r (All (λ row. starts_with row.1 n ≡ false) rows)
  other_place id i rising at found d true is r e = rw e tt
  other_place id i rising at found d false is r e =
      rw e (absent_other id i rising at found.in_range found.has_number
      (λ x. subst (λ row. starts_with row.1 n ≡ false) (get_or_default rows i d x found.in_range) (sym is)))
