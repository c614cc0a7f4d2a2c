-- Lines: what is cut and joined of them.
use Rattle.std.proofs.Common.{◌≡◌, ℕ, zero, suc, ◌+◌, ◌-◌, true, false, ◌&&◌, ◌||◌, List, [], ◌∷◌, ◌++◌, take, drop, slice_index, All, nat_lt, nat_le, refl, ◌∙◌, inl, inr, arith, sub-one, length-drop}
use Rattle.std.proofs.lemmas.List.{get_or-drop}
use Rattle.std.proofs.lemmas.Bool.{cases_Bool, or_parts, and_left, and_right, and_from, and_parts, lt-ltb, ltb-true, lt-leb}
use Rattle.std.proofs.lemmas.List.Elements.{All-nil, All-weaker, All-head, All-tail, All-append, All-take, All-drop}
use Rattle.std.specs.Char.Utf16.{utf16_chars, has_unpaired_surrogate, is_high_surrogate, is_low_surrogate}
use Rattle.kte_text.specs.Units.{IsLineUnit, IsPrintable, IsLine, splits_pair, IsBoundary}
use Rattle.kte_text.specs.Utf8.{is_surrogate}

pub no_surrogate-high : (u : ℕ) → is_surrogate u ≡ false → is_high_surrogate u ≡ false
no_surrogate-high u h =
    elim (cases_Bool (is_high_surrogate u)) [
      | inl t ↦ let p = and_parts _ _ t in
          let e : is_surrogate u ≡ true = and_from _ _ p.0 (lt-ltb u 0xE000 (omega (arith, ltb-true u 0xDC00 p.1))) in cc
      | inr f ↦ f
    ]

pub unpaired_pair : (u v : ℕ) (us : List ℕ) → (is_high_surrogate u && is_low_surrogate v) ≡ true
    → has_unpaired_surrogate (u ∷ v ∷ us) ≡ has_unpaired_surrogate us
unfolding utf16_chars
unpaired_pair u v us h = rw h

pub unpaired_lone : (u : ℕ) (us : List ℕ) → (is_high_surrogate u && is_low_surrogate (slice_index us 0)) ≡ false
    → has_unpaired_surrogate (u ∷ us) ≡ (is_surrogate u || has_unpaired_surrogate us)
unfolding utf16_chars
unpaired_lone u [] h = elim (cases_Bool (is_surrogate u)) [ inl t ↦ rw t | inr f ↦ rw f ]
unpaired_lone u (v ∷ us) h = rw h (elim (cases_Bool (is_surrogate u)) [ inl t ↦ rw t | inr f ↦ rw f ])

-- a unit in front that begins no pair is no surrogate, and what follows is as it was
pub lone_parts : (u : ℕ) (us : List ℕ) → (is_high_surrogate u && is_low_surrogate (slice_index us 0)) ≡ false
    → has_unpaired_surrogate (u ∷ us) ≡ false → (is_surrogate u ≡ false) × (has_unpaired_surrogate us ≡ false)
lone_parts u us alone h = or_parts (is_surrogate u) (has_unpaired_surrogate us) (rw (unpaired_lone u us alone) at h)

splits_step : (u : ℕ) (us : List ℕ) (n : ℕ) → splits_pair (u ∷ us) (suc (suc n)) ≡ splits_pair us (suc n)
splits_step u us n =
    let a : nat_lt 0 (suc (suc n)) ≡ true = lt-ltb _ _ (omega arith) in
    let b : nat_lt 0 (suc n) ≡ true = lt-ltb _ _ (omega arith) in
    rw (a, b, sub-one, sub-one)

-- two steps on, where the first two units are a pair
splits_after : (u v : ℕ) (us : List ℕ) (n : ℕ) → splits_pair (u ∷ v ∷ us) (suc (suc n)) ≡ false → splits_pair us n ≡ false
splits_after u v us zero h = refl
splits_after u v us (suc n) h = rw (splits_step u (v ∷ us) (suc n), splits_step v us n) at h

unpaired-append : (xs ys : List ℕ) → has_unpaired_surrogate xs ≡ false → has_unpaired_surrogate ys ≡ false
    → has_unpaired_surrogate (xs ++ ys) ≡ false
unpaired-append [] ys hx hy = hy
unpaired-append (u ∷ []) ys hx hy =
    let s : (is_high_surrogate u && false) ≡ false = and_right (is_high_surrogate u) false refl in
    let p = lone_parts u [] s hx in
    let e : (is_high_surrogate u && is_low_surrogate (slice_index ys 0)) ≡ false = and_left _ _ (no_surrogate-high u p.0) in
    rw (unpaired_lone u ys e, p.0, hy)
unpaired-append (u ∷ v ∷ us) ys hx hy =
    elim (cases_Bool (is_high_surrogate u && is_low_surrogate v)) [
      | inl t ↦ rw (unpaired_pair u v (us ++ ys) t) (unpaired-append us ys (rw (unpaired_pair u v us t) at hx) hy)
      | inr f ↦
          let p = lone_parts u (v ∷ us) f hx in
          rw (unpaired_lone u (v ∷ (us ++ ys)) f, p.0) (unpaired-append (v ∷ us) ys p.1 hy)
    ]

pub unpaired-take : (n : ℕ) (xs : List ℕ) → has_unpaired_surrogate xs ≡ false → splits_pair xs n ≡ false
    → has_unpaired_surrogate (take n xs) ≡ false
unfolding utf16_chars
unpaired-take zero xs hx hs = refl
unpaired-take (suc n) [] hx hs = refl
unpaired-take (suc zero) (u ∷ xs) hx hs =
    let p = lone_parts u xs hs hx in
    rw (unpaired_lone u [] (and_right (is_high_surrogate u) false refl), p.0)
unpaired-take (suc (suc n)) (u ∷ []) hx hs = hx
unpaired-take (suc (suc n)) (u ∷ v ∷ us) hx hs =
    elim (cases_Bool (is_high_surrogate u && is_low_surrogate v)) [
      | inl t ↦ rw (unpaired_pair u v (take n us) t)
          (unpaired-take n us (rw (unpaired_pair u v us t) at hx) (splits_after u v us n hs))
      | inr f ↦
          let p = lone_parts u (v ∷ us) f hx in
          rw (unpaired_lone u (v ∷ take n us) f, p.0) (unpaired-take (suc n) (v ∷ us) p.1 (rw (splits_step u (v ∷ us) n) at hs))
    ]

pub unpaired-drop : (n : ℕ) (xs : List ℕ) → has_unpaired_surrogate xs ≡ false → splits_pair xs n ≡ false
    → has_unpaired_surrogate (drop n xs) ≡ false
unfolding utf16_chars
unpaired-drop zero xs hx hs = hx
unpaired-drop (suc n) [] hx hs = refl
unpaired-drop (suc zero) (u ∷ xs) hx hs = (lone_parts u xs hs hx).1
unpaired-drop (suc (suc n)) (u ∷ []) hx hs = refl
unpaired-drop (suc (suc n)) (u ∷ v ∷ us) hx hs =
    elim (cases_Bool (is_high_surrogate u && is_low_surrogate v)) [
      | inl t ↦ unpaired-drop n us (rw (unpaired_pair u v us t) at hx) (splits_after u v us n hs)
      | inr f ↦ unpaired-drop (suc n) (v ∷ us) (lone_parts u (v ∷ us) f hx).1 (rw (splits_step u (v ∷ us) n) at hs)
    ]

-- a line cut at a boundary gives two lines
pub IsLine-take : (units : List ℕ) (column : ℕ) → IsLine units → IsBoundary units column → IsLine (take column units)
IsLine-take units column line at =
    record { plain = All-take IsLineUnit column units line.plain; paired = unpaired-take column units line.paired at.whole }

pub IsLine-drop : (units : List ℕ) (column : ℕ) → IsLine units → IsBoundary units column → IsLine (drop column units)
IsLine-drop units column line at =
    record { plain = All-drop IsLineUnit column units line.plain; paired = unpaired-drop column units line.paired at.whole }

-- two lines joined are a line
pub IsLine-append : (xs ys : List ℕ) → IsLine xs → IsLine ys → IsLine (xs ++ ys)
IsLine-append xs ys first second =
    record { plain = All-append IsLineUnit xs ys first.plain second.plain; paired = unpaired-append xs ys first.paired second.paired }

-- a line put into another at a boundary leaves a line
pub IsLine-insert : (units : List ℕ) (column : ℕ) (added : List ℕ) → IsLine units → IsBoundary units column → IsLine added
    → IsLine (take column units ++ added ++ drop column units)
IsLine-insert units column added line at more =
    IsLine-append _ _ (IsLine-append _ _ (IsLine-take units column line at) more) (IsLine-drop units column line at)

-- a line without the units between two boundaries is a line
pub IsLine-remove : (units : List ℕ) (first last : ℕ) → IsLine units → IsBoundary units first → IsBoundary units last
    → IsLine (take first units ++ drop last units)
IsLine-remove units first last line at end =
    IsLine-append _ _ (IsLine-take units first line at) (IsLine-drop units last line end)

-- no units are a line
pub IsLine-nil : IsLine []
unfolding utf16_chars
IsLine-nil = record { plain = All-nil IsLineUnit; paired = refl }

-- the printable characters of ASCII are a line
no_surrogates : (units : List ℕ) → All IsPrintable units → has_unpaired_surrogate units ≡ false
unfolding utf16_chars
no_surrogates [] h = refl
no_surrogates (u ∷ us) h =
    let small = All-head IsPrintable u us h in
    let first : nat_le 0xD800 u ≡ false = lt-leb _ _ (omega arith) in
    let no_pair : (is_high_surrogate u && is_low_surrogate (slice_index us 0)) ≡ false = and_left _ _ (and_left _ _ first) in
    let alone : is_surrogate u ≡ false = and_left _ _ first in
    rw (unpaired_lone u us no_pair, alone) (no_surrogates us (All-tail IsPrintable u us h))

pub IsLine-printable : (units : List ℕ) → All IsPrintable units → IsLine units
IsLine-printable units h = record {
  plain = All-weaker IsPrintable IsLineUnit (λ u p. (omega arith, (λ e. omega arith), (λ e. omega arith))) units h;
  paired = no_surrogates units h;
}

-- a boundary of a line is one of its rest
splits-drop : (units : List ℕ) (n k : ℕ) → splits_pair (drop n units) (k + 1) ≡ splits_pair units (n + (k + 1))
splits-drop units n k =
    let a : nat_lt 0 (k + 1) ≡ true = lt-ltb _ _ (omega arith) in
    let b : nat_lt 0 (n + (k + 1)) ≡ true = lt-ltb _ _ (omega arith) in
    let s : n + (k + 1) - 1 ≡ n + k = omega arith in
    let t : k + 1 - 1 ≡ k = omega arith in
    let x : slice_index (drop n units) k ≡ slice_index units (n + k) = get_or-drop n units k 0 in
    let y : slice_index (drop n units) (k + 1) ≡ slice_index units (n + (k + 1)) = get_or-drop n units (k + 1) 0 in
    rw (a, b, s, t, x, y)

pub IsBoundary-drop : (units : List ℕ) (n k : ℕ) → IsBoundary units (n + k) → IsBoundary (drop n units) k
IsBoundary-drop units n zero at = record { within = omega arith; whole = refl }
IsBoundary-drop units n (suc k) at =
    let e : suc k ≡ k + 1 = omega arith in
    record { within = omega (arith, length-drop n units, at.within); whole = rw e (splits-drop units n k ∙ (rw e at at.whole)) }

-- the units between two boundaries are a line
pub IsLine-between : (units : List ℕ) (n k : ℕ) → IsLine units → IsBoundary units n → IsBoundary units (n + k)
    → IsLine (take k (drop n units))
IsLine-between units n k line from to =
    IsLine-take (drop n units) k (IsLine-drop units n line from) (IsBoundary-drop units n k to)
