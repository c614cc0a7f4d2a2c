-- The findings that start before a place, and those that start before a later one.
use Rattle.std.proofs.Common.{◌≡◌, ◌∙◌, ℕ, zero, suc, ◌≤◌, List, [], ◌∷◌, ◌++◌, length, take, get_or, IsTrue, Contains, ◌⊎◌, inl, inr, refl, ap, subst, arith}
use Rattle.std.proofs.lemmas.List.{length-take}
use Rattle.std.proofs.lemmas.List.Elements.{Contains-get_or, Contains-append_left, Contains-push, Contains-push_cases}
use Rattle.std.proofs.lemmas.List.Quantifiers.{all_pairs_push}
use Rattle.kte_place.specs.declared.place.Place.{Place}
use Rattle.kte_place.specs.Ends.{Ends}
use Rattle.kte_place.specs.Place.{at, is_before}
use Rattle.kte_find.specs.declared.found.TheConstants.{MAX_FINDINGS}
use Rattle.kte_find.specs.Inside.{StartsBefore, AreFirst}
use Rattle.kte_find.proofs.PlaceLemmas.{none_before_start}

-- what is cut off once does not count
pub take-take-append : {A : Type 0} (n : ℕ) (xs ys : List A) → take n (take n xs ++ ys) ≡ take n (xs ++ ys)
take-take-append zero xs ys = refl
take-take-append (suc n) [] ys = refl
take-take-append (suc n) (x ∷ xs) ys = ap (λ rest. x ∷ rest) (take-take-append n xs ys)

-- no span with the property starts before the first place
pub none_first : (P : Ends → Type 0) → AreFirst P (at 0 0) []
none_first P = record {
  all = [];
  are_all = record {
    each = λ span. (λ h. absurd (omega (arith, h.1)), λ h. absurd (none_before_start span.start h.before));
    ordered = λ i j d h k. absurd (omega arith);
  };
  first = refl;
}

-- as far as a later place, where no span with the property starts on the way
pub advance_none : (P : Ends → Type 0) (a b : Place) (spans : List Ends) → AreFirst P a spans
    → ((p : Place) → IsTrue (is_before p a) → IsTrue (is_before p b))
    → ((s : Ends) → P s → IsTrue (is_before s.start b) → IsTrue (is_before s.start a))
    → AreFirst P b spans
advance_none P a b spans h on none = record {
  all = h.all;
  are_all = record {
    each = λ s. (
      λ t. let u = (h.are_all.each s).0 t in record { has = u.has; before = on s.start u.before },
      λ t. (h.are_all.each s).1 (record { has = t.has; before = none s t.has t.before }),
    );
    ordered = h.are_all.ordered;
  };
  first = h.first;
}

-- as far as a later place, where one span with the property starts on the way
pub advance_one : (P : Ends → Type 0) (a b : Place) (spans : List Ends) (one : Ends) → AreFirst P a spans
    → ((p : Place) → IsTrue (is_before p a) → IsTrue (is_before p b))
    → P one → IsTrue (is_before one.start b)
    → ((p : Place) → IsTrue (is_before p a) → IsTrue (is_before p one.start))
    → ((s : Ends) → P s → IsTrue (is_before s.start b) → IsTrue (is_before s.start a) ⊎ (one ≡ s))
    → AreFirst P b (take MAX_FINDINGS (spans ++ one ∷ []))
advance_one P a b spans one h on is here later only = record {
  all = h.all ++ one ∷ [];
  are_all = record {
    each = λ s. (
      λ t. elim (Contains-push_cases h.all one s t) [
        | inl u ↦ let v = (h.are_all.each s).0 u in record { has = v.has; before = on s.start v.before }
        | inr e ↦ subst (λ x. StartsBefore P b x) e (record { has = is; before = here })
      ],
      λ t. elim (only s t.has t.before) [
        | inl u ↦ Contains-append_left h.all (one ∷ []) s ((h.are_all.each s).1 (record { has = t.has; before = u }))
        | inr e ↦ subst (λ x. Contains (h.all ++ one ∷ []) x) e (Contains-push h.all one)
      ],
    );
    ordered = all_pairs_push (λ x y. IsTrue (is_before x.start y.start)) h.all one h.are_all.ordered
        (λ k d u. later _ (((h.are_all.each (get_or h.all k d)).0 (Contains-get_or h.all k d u)).before));
  };
  first = ap (λ xs. take MAX_FINDINGS (xs ++ one ∷ [])) h.first ∙ take-take-append MAX_FINDINGS h.all (one ∷ []);
}

pub first_few : (P : Ends → Type 0) (place : Place) (spans : List Ends) → AreFirst P place spans → length spans ≤ MAX_FINDINGS
first_few P place spans h = rw h.first (simp length-take (omega arith))

pub take_few : {A : Type 0} (n : ℕ) (xs : List A) → length (take n xs) ≤ n
take_few n xs = simp length-take (omega arith)
