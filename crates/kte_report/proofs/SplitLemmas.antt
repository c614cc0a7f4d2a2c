-- The first line of bytes.
use Rattle.std.proofs.Common.{◌≡◌, ℕ, suc, ◌+◌, ◌<◌, ◌≤◌, Bool, true, false, cond, ltb, nat_eq, List, [], ◌∷◌, ◌++◌, length, take, drop, None, Some, refl, sym, ap, arith, inl, inr, add-one}
use Rattle.std.specs.Prelude.{not}
use Rattle.std.specs.List.{position, position_or_len}
use Rattle.std.proofs.lemmas.Bool.{ltb-true, ltb-false, eqb-true}
use Rattle.std.proofs.lemmas.List.Sums.{prefix_len-le-length}
use Rattle.kte_report.specs.Lines.{is_end, is_in_line}
use Rattle.kte_report.proofs.LineLemmas.{decide}

found : (b : Bool) (n i : ℕ) → cond b (Some n) None ≡ Some i → (b ≡ true) × (n ≡ i)
found true n i e = (refl, cc)
found false n i e = absurd cc

missed : (b : Bool) (n : ℕ) → cond b (Some n) None ≡ None → b ≡ false
missed true n e = absurd cc
missed false n e = refl

one : (n : ℕ) → 1 + n ≡ suc n
one n = omega arith

shorter : (byte : ℕ) (bytes : List ℕ) → nat_eq byte 10 ≡ false → position_or_len is_end (byte ∷ bytes) < length (byte ∷ bytes) → position_or_len is_end bytes < length bytes
shorter byte bytes e h = let k = rw e at h in omega arith

same_len : (byte : ℕ) (bytes : List ℕ) → nat_eq byte 10 ≡ false → position_or_len is_end (byte ∷ bytes) ≡ length (byte ∷ bytes) → position_or_len is_end bytes ≡ length bytes
same_len byte bytes e h = let k = rw e at h in omega arith

stopped : (byte : ℕ) (bytes : List ℕ) → nat_eq byte 10 ≡ true → position_or_len is_end (byte ∷ bytes) ≡ length (byte ∷ bytes) → ⊥
stopped byte bytes e h = let k = rw e at h in omega arith

-- a line and its end
pub record IsFirst (bytes line after : List ℕ) : Type 0 where
  pub parts : bytes ≡ line ++ 10 ∷ after
  pub inside : is_in_line line ≡ true

at_end : (bytes : List ℕ) (n : ℕ) → n ≡ position_or_len is_end bytes → n < length bytes → IsFirst bytes (take n bytes) (drop (suc n) bytes)
at_end [] n e h = absurd (omega arith)
at_end (byte ∷ bytes) n e h = elim (decide (nat_eq byte 10)) [
  | inl t ↦ rw (e, t) (record { parts = ap (λ (x : ℕ). x ∷ bytes) (eqb-true byte 10 t); inside = refl })
  | inr f ↦
      let less : position_or_len is_end bytes < length bytes = shorter byte bytes f (rw (sym e) h) in
      let r = at_end bytes (position_or_len is_end bytes) refl less in
      rw (e, f, one (position_or_len is_end bytes)) (record { parts = ap (λ (xs : List ℕ). byte ∷ xs) r.parts; inside = rw (f, r.inside) refl })
]

pub first_line_of : (bytes line after : List ℕ) (n : ℕ) → position is_end bytes ≡ Some n → line ≡ take n bytes → after ≡ drop (n + 1) bytes → IsFirst bytes line after
first_line_of bytes line after n e l r =
    let p = found (ltb (position_or_len is_end bytes) (length bytes)) (position_or_len is_end bytes) n e in
    let less : position_or_len is_end bytes < length bytes = ltb-true _ _ p.0 in
    let is = at_end bytes n (sym p.1) (rw (sym p.1) less) in
    rw (l, r, add-one n) is

none_there : (bytes : List ℕ) → position_or_len is_end bytes ≡ length bytes → is_in_line bytes ≡ true
none_there [] h = refl
none_there (byte ∷ bytes) h = elim (decide (nat_eq byte 10)) [
  | inl t ↦ absurd (stopped byte bytes t h)
  | inr f ↦ rw (f, none_there bytes (same_len byte bytes f h)) refl
]

pub no_line_of : (bytes : List ℕ) → position is_end bytes ≡ None → is_in_line bytes ≡ true
no_line_of bytes e =
    let past : length bytes ≤ position_or_len is_end bytes = ltb-false _ _ (missed (ltb (position_or_len is_end bytes) (length bytes)) (position_or_len is_end bytes) e) in
    none_there bytes (omega (arith, prefix_len-le-length (λ x. not (is_end x)) bytes))
