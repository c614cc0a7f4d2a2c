-- Sums over lists that change at one place.
use Rattle.std.proofs.Common.{◌≡◌, ◌≢◌, ℕ, zero, suc, ◌+◌, ◌<◌, ◌≤◌, List, [], ◌∷◌, ◌++◌, set, sym, refl, ap, subst, arith, cond, eqb, eq-eqb, ne_eqb, lt-ltb, le-ltb, Contains}
use mathlib.Core.Logic.{dite}
use native.Mathlib.Decide.{ℕ_discrete, dec_le}
use mathlib.Core.Option.{some, some-injective, some-ne-none}
use lib.ListN.{get_elem?}
use Rattle.kte_turn.specs.Sums.{total, times, once_below}

module _ {A : Type 0} where
  pub total-append : (f : A → ℕ) (xs ys : List A) → total f (xs ++ ys) ≡ total f xs + total f ys
  total-append f [] ys = omega arith
  total-append f (x ∷ xs) ys = omega (arith, total-append f xs ys)

  pub total-set : (f : A → ℕ) (l : List A) (j : ℕ) (old new : A) → get_elem? l j ≡ some old → total f (set l j new) + f old ≡ total f l + f new
  total-set f [] j old new at = absurd (some-ne-none old (sym at))
  total-set f (x ∷ xs) zero old new at = omega (arith, ap f (some-injective x old at))
  total-set f (x ∷ xs) (suc j) old new at = omega (arith, total-set f xs j old new at)

  -- a term is at most the sum
  pub term_le : (f : A → ℕ) (l : List A) (j : ℕ) (v : A) → get_elem? l j ≡ some v → f v ≤ total f l
  term_le f [] j v at = absurd (some-ne-none v (sym at))
  term_le f (x ∷ xs) zero v at = omega (arith, ap f (some-injective x v at))
  term_le f (x ∷ xs) (suc j) v at = omega (arith, term_le f xs j v at)

  -- and so are two terms at different places
  pub terms_le : (f : A → ℕ) (l : List A) (i j : ℕ) (v u : A) → j ≢ i → get_elem? l i ≡ some v → get_elem? l j ≡ some u → f v + f u ≤ total f l
  terms_le f [] i j v u apart at there = absurd (some-ne-none v (sym at))
  terms_le f (x ∷ xs) zero zero v u apart at there = absurd (apart refl)
  terms_le f (x ∷ xs) zero (suc j) v u apart at there = omega (arith, ap f (some-injective x v at), term_le f xs j u there)
  terms_le f (x ∷ xs) (suc i) zero v u apart at there = omega (arith, ap f (some-injective x u there), term_le f xs i v at)
  terms_le f (x ∷ xs) (suc i) (suc j) v u apart at there = omega (arith, terms_le f xs i j v u (λ e. apart (ap suc e)) at there)

  total_le : (f g : A → ℕ) (l : List A) → ((k : ℕ) (u : A) → get_elem? l k ≡ some u → f u ≤ g u) → total f l ≤ total g l
  total_le f g [] le = omega arith
  total_le f g (x ∷ xs) le = omega (arith, le 0 x refl, total_le f g xs (λ k u z. le (suc k) u z))

  -- where f is at most g everywhere, the sums lie at least as far apart as the terms at one place
  pub total_apart : (f g : A → ℕ) (l : List A) (j : ℕ) (v : A) (d : ℕ) → ((k : ℕ) (u : A) → get_elem? l k ≡ some u → f u ≤ g u) → get_elem? l j ≡ some v → f v + d ≤ g v → total f l + d ≤ total g l
  total_apart f g [] j v d le at h = absurd (some-ne-none v (sym at))
  total_apart f g (x ∷ xs) zero v d le at h =
      let here : f x + d ≤ g x = subst (λ u. f u + d ≤ g u) (sym (some-injective x v at)) h in
      omega (arith, here, total_le f g xs (λ k u z. le (suc k) u z))
  total_apart f g (x ∷ xs) (suc j) v d le at h = omega (arith, le 0 x refl, total_apart f g xs j v d (λ k u z. le (suc k) u z) at h)

  total_none : (f g : A → ℕ) (l : List A) → ((k : ℕ) (u : A) → get_elem? l k ≡ some u → g u ≡ 0 → f u ≡ 0) → total g l ≡ 0 → total f l ≡ 0
  total_none f g [] zeros e = refl
  total_none f g (x ∷ xs) zeros e = omega (arith, zeros 0 x refl (omega arith), total_none f g xs (λ k u z. zeros (suc k) u z) (omega arith))

  -- where one place has all of g, and f is 0 where g is, that place has all of f
  pub total_only : (f g : A → ℕ) (l : List A) (j : ℕ) (v : A) → get_elem? l j ≡ some v → total g l ≡ g v → ((k : ℕ) (u : A) → get_elem? l k ≡ some u → g u ≡ 0 → f u ≡ 0) → total f l ≡ f v
  total_only f g [] j v at all zeros = absurd (some-ne-none v (sym at))
  total_only f g (x ∷ xs) zero v at all zeros =
      let same = some-injective x v at in omega (arith, ap f same, total_none f g xs (λ k u z. zeros (suc k) u z) (omega (arith, ap g same)))
  total_only f g (x ∷ xs) (suc j) v at all zeros =
      let part = term_le g xs j v at in omega (arith, zeros 0 x refl (omega arith), total_only f g xs j v at (omega arith) (λ k u z. zeros (suc k) u z))

  -- a sum of 1 is one term
  pub one_term : (f : A → ℕ) (l : List A) → total f l ≡ 1 → (j : ℕ) × ((v : A) × (get_elem? l j ≡ some v) × (f v ≡ 1))
  one_term f [] e = absurd (omega arith)
  one_term f (x ∷ xs) e = dite (ℕ_discrete (f x) 0)
      (λ none. let r = one_term f xs (omega arith) in (suc r.0, r.1))
      (λ there. (0, (x, refl, omega arith)))

  -- where a sum is not 0, a term is not
  pub some_term : (f : A → ℕ) (l : List A) → 0 < total f l → (j : ℕ) × ((v : A) × (get_elem? l j ≡ some v) × (0 < f v))
  some_term f [] e = absurd (omega arith)
  some_term f (x ∷ xs) e = dite (ℕ_discrete (f x) 0)
      (λ none. let r = some_term f xs (omega arith) in (suc r.0, r.1))
      (λ there. (0, (x, refl, omega arith)))

pub once_below-lt : (k n : ℕ) → k < n → once_below k n ≡ 1
once_below-lt k n h = ap (λ b. cond b 1 0) (lt-ltb k n h)

pub once_below-ge : (k n : ℕ) → n ≤ k → once_below k n ≡ 0
once_below-ge k n h = ap (λ b. cond b 1 0) (le-ltb k n h)

pub once_below-pos : (k n : ℕ) → 0 < once_below k n → k < n
once_below-pos k n h = dite (dec_le n k) (λ le. absurd (omega (arith, once_below-ge k n le))) (λ nle. omega arith)

pub once_below-le : (k n : ℕ) → once_below k n ≤ 1
once_below-le k n = dite (dec_le n k) (λ le. omega (arith, once_below-ge k n le)) (λ nle. omega (arith, once_below-lt k n (omega arith)))

-- 1 where two numbers are the same
abbrev pub same_bit : ℕ → ℕ → ℕ
same_bit n k = cond (eqb n k) 1 0

pub same_bit-eq : (n k : ℕ) → n ≡ k → same_bit n k ≡ 1
same_bit-eq n k e = ap (λ b. cond b 1 0) (eq-eqb n k e)

pub same_bit-ne : (n k : ℕ) → n ≢ k → same_bit n k ≡ 0
same_bit-ne n k e = ap (λ b. cond b 1 0) (ne_eqb n k e)

pub once_below-more : (k n : ℕ) → once_below k (n + 1) ≡ once_below k n + same_bit n k
once_below-more k n = dite (ℕ_discrete n k)
    (λ e. omega (arith, once_below-lt k (n + 1) (omega arith), once_below-ge k n (omega arith), same_bit-eq n k e))
    (λ ne. dite (dec_le n k)
    (λ le. omega (arith, once_below-ge k (n + 1) (omega arith), once_below-ge k n le, same_bit-ne n k ne))
    (λ gt. omega (arith, once_below-lt k (n + 1) (omega arith), once_below-lt k n (omega arith), same_bit-ne n k ne)))

pub times-append : (k : ℕ) (xs ys : List ℕ) → times k (xs ++ ys) ≡ times k xs + times k ys
times-append k [] ys = omega arith
times-append k (x ∷ xs) ys = omega (arith, times-append k xs ys)

pub times-other : (k x : ℕ) → x ≢ k → times k (x ∷ []) ≡ 0
times-other k x n = ap (λ b. cond b 1 0 + 0) (ne_eqb x k n)

-- a number stands in a list where it does so some times
pub times-Contains : (k : ℕ) (xs : List ℕ) → Contains xs k → 0 < times k xs
times-Contains k [] h = absurd (omega (arith, h.1))
times-Contains k (x ∷ xs) (zero, lt, e) = omega (arith, same_bit-eq x k e)
times-Contains k (x ∷ xs) (suc i, lt, e) = omega (arith, times-Contains k xs (i, omega (arith, lt), e))

pub Contains-times : (k : ℕ) (xs : List ℕ) → 0 < times k xs → Contains xs k
Contains-times k [] h = absurd (omega arith)
Contains-times k (x ∷ xs) h = dite (ℕ_discrete x k)
    (λ e. (0, omega arith, e))
    (λ ne. let r = Contains-times k xs (omega (arith, same_bit-ne x k ne)) in (suc r.0, omega (arith, r.1), r.2))
