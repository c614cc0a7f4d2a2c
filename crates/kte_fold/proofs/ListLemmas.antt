-- Numbers of a list, by their places.
use Rattle.std.proofs.Common.{◌≡◌, ◌≢◌, ℕ, zero, suc, ◌<◌, Bool, true, false, ◌||◌, ◌==◌, List, [], ◌∷◌, length, slice_index, refl, arith}
use Rattle.std.proofs.lemmas.Bool.Decides.{nat_tests}
use Rattle.std.specs.List.{list_any}
use Rattle.kte_fold.specs.Folds.{is_fold}

-- no number passes the test
pub any_none : (test : ℕ → Bool) (xs : List ℕ) → ((k : ℕ) → k < length xs → test (slice_index xs k) ≡ false) → list_any test xs ≡ false
any_none test [] h = refl
any_none test (x ∷ xs) h =
    let first : test x ≡ false = h 0 (omega arith) in
    rw first (any_none test xs (λ k l. h (suc k) (omega arith)))

-- the number at a place passes it
pub any_at : (test : ℕ → Bool) (xs : List ℕ) (k : ℕ) → k < length xs → test (slice_index xs k) ≡ true → list_any test xs ≡ true
any_at test [] k l h = absurd (omega arith)
any_at test (x ∷ xs) zero l h = rw h refl
any_at test (x ∷ xs) (suc k) l h = or_true (test x) (list_any test xs) (any_at test xs k (omega arith) h) where
  or_true : (a b : Bool) → b ≡ true → (a || b) ≡ true
  or_true true b h = refl
  or_true false b h = h

pub record Passes (test : ℕ → Bool) (xs : List ℕ) : Type 0 where
  pub place : ℕ
  pub bounded : place < length xs
  pub passes : test (slice_index xs place) ≡ true

-- some number passes it
pub any_found : (test : ℕ → Bool) (xs : List ℕ) → list_any test xs ≡ true → Passes test xs
any_found test [] h = absurd (cc)
any_found test (x ∷ xs) h = by_first (test x) refl h (any_found test xs) where
  by_first : (b : Bool) → test x ≡ b → (b || list_any test xs) ≡ true → (list_any test xs ≡ true → Passes test xs) → Passes test (x ∷ xs)
  by_first true e h later = record { place = 0; bounded = omega arith; passes = e }
  by_first false e h later =
      let rest = later h in
      record { place = suc rest.place; bounded = let b = rest.bounded in omega arith; passes = rest.passes }

pub not_fold : (numbers : List ℕ) (id : ℕ) → ((k : ℕ) → k < length numbers → slice_index numbers k ≢ id) → is_fold numbers id ≡ false
not_fold numbers id h = any_none (λ n. n == id) numbers (λ k l. let other = h k l in grind (arith, nat_tests))

pub fold_at : (numbers : List ℕ) (id k : ℕ) → k < length numbers → slice_index numbers k ≡ id → is_fold numbers id ≡ true
fold_at numbers id k l e = any_at (λ n. n == id) numbers k l (grind (arith, nat_tests))

pub record Place (numbers : List ℕ) (id : ℕ) : Type 0 where
  pub place : ℕ
  pub bounded : place < length numbers
  pub is_number : slice_index numbers place ≡ id

pub place_of : (numbers : List ℕ) (id : ℕ) → is_fold numbers id ≡ true → Place numbers id
place_of numbers id h =
    let p = any_found (λ n. n == id) numbers h in
    let t = p.passes in
    record { place = p.place; bounded = p.bounded; is_number = grind (arith, nat_tests) }
