-- Prefixes of a story, and the events of a seat in them.
use Rattle.std.proofs.Common.{◌≡◌, ◌≢◌, ℕ, ◌<◌, ◌≤◌, Bool, List, [], ◌∷◌, ◌++◌, length, sym, refl, ap, ◌∙◌, subst, arith, cond, eqb, ne_eqb, lt-ltb, le-ltb, append_assoc, length-append, Option, Some, None}
use Rattle.std.proofs.lemmas.List.Elements.{filter-append}
use mathlib.Core.Logic.{dite}
use native.Mathlib.Decide.{dec_le}
use mathlib.Core.List.{IsPrefix}
use Rattle.kte_turn.specs.Known.{events_of, news, longer, shorter}
use Rattle.kte_turn.specs.Steps.{last_of}

module _ {A : Type 0} where
  pub append-nil : (xs : List A) → xs ++ [] ≡ xs
  append-nil [] = refl
  append-nil (x ∷ xs) = ap (λ r. x ∷ r) (append-nil xs)

  pub nil_from_length : (xs : List A) → length xs ≡ 0 → xs ≡ []
  nil_from_length [] e = refl
  nil_from_length (x ∷ xs) e = absurd (omega arith)

  pub news-append : (xs ys : List A) → news xs (xs ++ ys) ≡ ys
  news-append [] ys = refl
  news-append (x ∷ xs) ys = news-append xs ys

  pub IsPrefix-self : (xs : List A) → IsPrefix xs xs
  IsPrefix-self xs = ([], append-nil xs)

  pub IsPrefix-append : (xs ys zs : List A) → IsPrefix xs ys → IsPrefix xs (ys ++ zs)
  IsPrefix-append xs ys zs p = (p.0 ++ zs, sym (append_assoc xs p.0 zs) ∙ ap (λ w. w ++ zs) p.1)

  -- of two prefixes of one list the shorter is one of the longer
  pub IsPrefix-shorter : (xs ys zs : List A) → IsPrefix xs zs → IsPrefix ys zs → length xs ≤ length ys → IsPrefix xs ys
  IsPrefix-shorter [] ys zs p q le = (ys, refl)
  IsPrefix-shorter (x ∷ xs) [] zs p q le = absurd (omega arith)
  IsPrefix-shorter (x ∷ xs) (y ∷ ys) [] p q le = absurd (cc (p.1))
  IsPrefix-shorter (x ∷ xs) (y ∷ ys) (z ∷ zs) p q le =
      let heads : x ≡ y = cc (p.1, q.1) in
      let rest = IsPrefix-shorter xs ys zs (p.0, cc (p.1)) (q.0, cc (q.1)) (omega arith) in
      (rest.0, cc (heads, rest.1))

  -- what is shown of the longer and the shorter of two lists, for either order
  pub by_length : (P : List A → List A → Type 0) (xs ys : List A) → (length ys ≤ length xs → P xs ys) → (length xs < length ys → P ys xs) → P (longer xs ys) (shorter xs ys)
  by_length P xs ys first second = dite (dec_le (length ys) (length xs))
      (λ le. subst (λ (b : Bool). P (cond b ys xs) (cond b xs ys)) (sym (le-ltb (length xs) (length ys) le)) (first le))
      (λ gt. let lt : length xs < length ys = omega arith in subst (λ (b : Bool). P (cond b ys xs) (cond b xs ys)) (sym (lt-ltb (length xs) (length ys) lt)) (second lt))

  pub shorter_le : (xs ys : List A) → length (shorter xs ys) ≤ length (longer xs ys)
  shorter_le xs ys = by_length (λ long short. length short ≤ length long) xs ys (λ le. le) (λ lt. omega (arith, lt))

  -- where the shorter is a prefix of the longer, both are
  pub both_prefixes : (xs ys : List A) → IsPrefix (shorter xs ys) (longer xs ys) → IsPrefix xs (longer xs ys) × IsPrefix ys (longer xs ys)
  both_prefixes xs ys = by_length (λ long short. IsPrefix short long → IsPrefix xs long × IsPrefix ys long) xs ys
      (λ _ p. (IsPrefix-self xs, p)) (λ _ p. (p, IsPrefix-self ys))

  pub last_of-push : (xs : List A) (x : A) → last_of (xs ++ x ∷ []) ≡ Some x
  last_of-push [] x = refl
  last_of-push (y ∷ []) x = refl
  last_of-push (y ∷ z ∷ xs) x = last_of-push (z ∷ xs) x

  abbrev some_or : A → Option A → A
  some_or d None = d
  some_or d (Some x) = x

  pub Some-injective : (a b : A) → Some a ≡ Some b → a ≡ b
  Some-injective a b e = ap (some_or a) e

module _ {E : Type 0} (seat_of : E → ℕ) where
  pub events_of-append : (k : ℕ) (xs ys : List E) → events_of seat_of k (xs ++ ys) ≡ events_of seat_of k xs ++ events_of seat_of k ys
  events_of-append k xs ys = filter-append (λ e. eqb (seat_of e) k) xs ys

  pub events_of-other : (k : ℕ) (xs : List E) (e : E) → seat_of e ≢ k → events_of seat_of k (xs ++ e ∷ []) ≡ events_of seat_of k xs
  events_of-other k xs e n =
      events_of-append k xs (e ∷ []) ∙ (ap (λ t. events_of seat_of k xs ++ cond t (e ∷ []) []) (ne_eqb (seat_of e) k n) ∙ append-nil (events_of seat_of k xs))

  -- what a list has of a seat, where it has none, its prefixes have none of
  pub events_of-none : (k : ℕ) (xs ys : List E) → IsPrefix xs ys → events_of seat_of k ys ≡ [] → events_of seat_of k xs ≡ []
  events_of-none k xs ys p none =
      nil_from_length (events_of seat_of k xs) (omega (arith, ap length (events_of-append k xs p.0), ap (λ l. length (events_of seat_of k l)) p.1, ap length none, length-append (events_of seat_of k xs) (events_of seat_of k p.0)))

  -- where a prefix has all that a list has of a seat, nothing of it comes after
  pub events_of-rest : (k : ℕ) (xs ys : List E) (p : IsPrefix xs ys) → events_of seat_of k ys ≡ events_of seat_of k xs → events_of seat_of k p.0 ≡ []
  events_of-rest k xs ys p same =
      nil_from_length (events_of seat_of k p.0) (omega (arith, ap length (events_of-append k xs p.0), ap (λ l. length (events_of seat_of k l)) p.1, ap length same, length-append (events_of seat_of k xs) (events_of seat_of k p.0)))

  -- between two lists that have the same of a seat, all have the same of it
  pub events_of-between : (k : ℕ) (xs ys zs : List E) → IsPrefix xs ys → IsPrefix ys zs → events_of seat_of k zs ≡ events_of seat_of k xs → events_of seat_of k ys ≡ events_of seat_of k xs
  events_of-between k xs ys zs p q same =
      let first = events_of-append k xs p.0 in
      let second = events_of-append k ys q.0 in
      let none : events_of seat_of k p.0 ≡ [] = nil_from_length (events_of seat_of k p.0) (omega (arith, ap length first, ap length second, ap (λ l. length (events_of seat_of k l)) p.1, ap (λ l. length (events_of seat_of k l)) q.1, ap length same, length-append (events_of seat_of k xs) (events_of seat_of k p.0), length-append (events_of seat_of k ys) (events_of seat_of k q.0))) in
      ap (events_of seat_of k) (sym p.1) ∙ (first ∙ (ap (λ l. events_of seat_of k xs ++ l) none ∙ append-nil (events_of seat_of k xs)))
