-- The stack of opening brackets while units are read.
use Rattle.std.proofs.Common.{◌≡◌, ◌∙◌, ℕ, true, false, ◌==◌, ◌&&◌, ◌||◌, List, [], ◌∷◌, ◌++◌, Option, Some, None, ◌⊎◌, inl, inr, refl, sym, ap, subst, append_assoc}
use Rattle.std.proofs.lemmas.Bool.{or_cases, or_parts, and_parts, eqb-true, cases_Bool, cond-true, cond-false}
use Rattle.kte_find.specs.Brackets.{Placed, is_opening, is_closing, is_bracket, closes, Balanced}
use Rattle.kte_find.specs.Brackets.Balanced.{empty, plain, nested}
use Rattle.kte_find.specs.Reading.{taken_off, stacked, stack_after, IsOpen}

-- what the two brackets of a pair are
pub record Kinds (o c : ℕ) : Type 0 where
  pub opens : is_opening o ≡ true
  pub never_closes : is_closing o ≡ false
  pub never_opens : is_opening c ≡ false
  pub closes : is_closing c ≡ true

kinds_at : (o c p q : ℕ) → (o == p && c == q) ≡ true → Kinds p q → Kinds o c
kinds_at o c p q h k =
    let e = and_parts (o == p) (c == q) h in
    subst (λ x. Kinds x c) (sym (eqb-true o p e.0)) (subst (λ x. Kinds p x) (sym (eqb-true c q e.1)) k)

pub kinds : (o c : ℕ) → closes o c ≡ true → Kinds o c
kinds o c h = elim (or_cases ((o == 40 && c == 41) || (o == 91 && c == 93)) (o == 123 && c == 125) h) [
  | inl t ↦ elim (or_cases (o == 40 && c == 41) (o == 91 && c == 93) t) [
    | inl u ↦ kinds_at o c 40 41 u (record { opens = refl; never_closes = refl; never_opens = refl; closes = refl })
    | inr u ↦ kinds_at o c 91 93 u (record { opens = refl; never_closes = refl; never_opens = refl; closes = refl })
  ]
  | inr u ↦ kinds_at o c 123 125 u (record { opens = refl; never_closes = refl; never_opens = refl; closes = refl })
]

closing_at : (u p : ℕ) → (u == p) ≡ true → is_opening p ≡ false → is_opening u ≡ false
closing_at u p h k = subst (λ x. is_opening x ≡ false) (sym (eqb-true u p h)) k

pub closing_never_opens : (u : ℕ) → is_closing u ≡ true → is_opening u ≡ false
closing_never_opens u h = elim (or_cases (u == 41 || u == 93) (u == 125) h) [
  | inl t ↦ elim (or_cases (u == 41) (u == 93) t) [ inl e ↦ closing_at u 41 e refl | inr e ↦ closing_at u 93 e refl ]
  | inr e ↦ closing_at u 125 e refl
]

pub stacked-plain : (s : List Placed) (u : Placed) → is_bracket u.unit ≡ false → stacked s u ≡ Some s
stacked-plain s u h =
    let p = or_parts (is_opening u.unit) (is_closing u.unit) h in
    cond-false (is_opening u.unit) (Some (u ∷ s)) _ p.0 ∙ cond-false (is_closing u.unit) (taken_off s u) (Some s) p.1

pub stacked-opening : (s : List Placed) (u : Placed) → is_opening u.unit ≡ true → stacked s u ≡ Some (u ∷ s)
stacked-opening s u h = cond-true (is_opening u.unit) (Some (u ∷ s)) _ h

pub stacked-closing : (s : List Placed) (u : Placed) → is_closing u.unit ≡ true → stacked s u ≡ taken_off s u
stacked-closing s u h =
    cond-false (is_opening u.unit) (Some (u ∷ s)) _ (closing_never_opens u.unit h) ∙ cond-true (is_closing u.unit) (taken_off s u) (Some s) h

pub stacked-pair : (s : List Placed) (o c : Placed) → closes o.unit c.unit ≡ true → stacked (o ∷ s) c ≡ Some s
stacked-pair s o c h =
    stacked-closing (o ∷ s) c ((kinds o.unit c.unit h).closes) ∙ cond-true (closes o.unit c.unit) (Some s) None h

pub stacked-other : (s : List Placed) (o c : Placed) → is_closing c.unit ≡ true → closes o.unit c.unit ≡ false → stacked (o ∷ s) c ≡ None
stacked-other s o c k h = stacked-closing (o ∷ s) c k ∙ cond-false (closes o.unit c.unit) (Some s) None h

pub stack_after-append : (s : Option (List Placed)) (xs ys : List Placed)
    → stack_after s (xs ++ ys) ≡ stack_after (stack_after s xs) ys
stack_after-append None xs ys = refl
stack_after-append (Some s) [] ys = refl
stack_after-append (Some s) (x ∷ xs) ys = stack_after-append (stacked s x) xs ys

-- a balanced text leaves the stack as it was
pub balanced_reads : {us : List Placed} → Balanced us → (s : List Placed) → stack_after (Some s) us ≡ Some s
balanced_reads empty s = refl
balanced_reads (plain u rest h b) s = ap (λ t. stack_after t rest) (stacked-plain s u h) ∙ balanced_reads b s
balanced_reads (nested o c inside rest h b d) s =
    ap (λ t. stack_after t (inside ++ c ∷ rest)) (stacked-opening s o ((kinds o.unit c.unit h).opens))
    ∙ stack_after-append (Some (o ∷ s)) inside (c ∷ rest)
    ∙ ap (λ t. stack_after t (c ∷ rest)) (balanced_reads b (o ∷ s))
    ∙ ap (λ t. stack_after t rest) (stacked-pair s o c h)
    ∙ balanced_reads d s

pub option_cases : {A : Type 0} (o : Option A) → (o ≡ None) ⊎ ((x : A) × (o ≡ Some x))
option_cases None = inl refl
option_cases (Some x) = inr (x, refl)

pub none_or_some : {A : Type 0} (o : Option A) (x : A) → o ≡ None → o ≡ Some x → ⊥
none_or_some o x n h = cc

pub some_same : {A : Type 0} (x y : A) → Some x ≡ Some y → x ≡ y
some_same x y h = cc

-- brackets further down on the stack do not matter
taken_off_below : (s t : List Placed) (u : Placed) (r : List Placed) → taken_off s u ≡ Some r → taken_off (s ++ t) u ≡ Some (r ++ t)
taken_off_below [] t u r h = cc
taken_off_below (o ∷ s) t u r h = elim (cases_Bool (closes o.unit u.unit)) [
  | inl e ↦
      let same : s ≡ r = some_same s r (sym (cond-true (closes o.unit u.unit) (Some s) None e) ∙ h) in
      cond-true (closes o.unit u.unit) (Some (s ++ t)) None e ∙ ap (λ x. Some (x ++ t)) same
  | inr e ↦ absurd (none_or_some _ r (cond-false (closes o.unit u.unit) (Some s) None e) h)
]

pub stacked_below : (s t : List Placed) (u : Placed) (r : List Placed) → stacked s u ≡ Some r → stacked (s ++ t) u ≡ Some (r ++ t)
stacked_below s t u r h = elim (cases_Bool (is_bracket u.unit)) [
  | inr e ↦
      let same : s ≡ r = some_same s r (sym (stacked-plain s u e) ∙ h) in
      stacked-plain (s ++ t) u e ∙ ap (λ x. Some (x ++ t)) same
  | inl e ↦ elim (or_cases (is_opening u.unit) (is_closing u.unit) e) [
    | inl k ↦
        let same : u ∷ s ≡ r = some_same (u ∷ s) r (sym (stacked-opening s u k) ∙ h) in
        stacked-opening (s ++ t) u k ∙ ap (λ x. Some (x ++ t)) same
    | inr k ↦ stacked-closing (s ++ t) u k ∙ taken_off_below s t u r (sym (stacked-closing s u k) ∙ h)
  ]
]

pub stack_after_below : (us s t r : List Placed) → stack_after (Some s) us ≡ Some r → stack_after (Some (s ++ t)) us ≡ Some (r ++ t)
stack_after_below [] s t r h = ap (λ x. Some (x ++ t)) (some_same s r h)
stack_after_below (u ∷ us) s t r h = elim (option_cases (stacked s u)) [
  | inl e ↦ absurd (none_or_some _ r (ap (λ o. stack_after o us) e) h)
  | inr e ↦
      ap (λ o. stack_after o us) (stacked_below s t u e.0 e.1)
      ∙ stack_after_below us e.0 t r (sym (ap (λ o. stack_after o us) e.1) ∙ h)
]

pub none_below : (s t : List Placed) (u : Placed) → stacked (s ++ t) u ≡ None → stacked s u ≡ None
none_below s t u h = elim (option_cases (stacked s u)) [
  | inl e ↦ e
  | inr e ↦ absurd (none_or_some _ (e.0 ++ t) h (stacked_below s t u e.0 e.1))
]

-- a stack with these opening brackets put onto it, the first one first
abbrev pub pushed : List Placed → List Placed → List Placed
pushed [] s = s
pushed (o ∷ os) s = pushed os (o ∷ s)

pub pushed-last : (os s : List Placed) (o : Placed) → pushed (os ++ o ∷ []) s ≡ o ∷ pushed os s
pushed-last [] s o = refl
pushed-last (p ∷ os) s o = pushed-last os (p ∷ s) o

pub pushed_below : (os s t : List Placed) → pushed os (s ++ t) ≡ pushed os s ++ t
pushed_below [] s t = refl
pushed_below (o ∷ os) s t = pushed_below os (o ∷ s) t

-- opening brackets that no closing one follows stand on the stack
pub open_reads : (os us : List Placed) → IsOpen os us → (s : List Placed) → stack_after (Some s) us ≡ Some (pushed os s)
open_reads [] us h s = balanced_reads h s
open_reads (o ∷ os) us (before, after, e, b, k, rest) s =
    ap (λ x. stack_after (Some s) x) e
    ∙ stack_after-append (Some s) before (o ∷ after)
    ∙ ap (λ t. stack_after t (o ∷ after)) (balanced_reads b s)
    ∙ ap (λ t. stack_after t after) (stacked-opening s o k)
    ∙ open_reads os after rest (o ∷ s)

pub balanced_append : {xs ys : List Placed} → Balanced xs → Balanced ys → Balanced (xs ++ ys)
balanced_append empty d = d
balanced_append (plain u rest h b) d = plain u _ h (balanced_append b d)
balanced_append {ys = ys} (nested o c inside rest h b r) d =
    subst (λ x. Balanced (o ∷ x)) (sym (append_assoc inside (c ∷ rest) ys)) (nested o c inside (rest ++ ys) h b (balanced_append r d))

-- two ways to cut a list: the second cut comes at or after the first, or before it
pub cut_twice : {A : Type 0} (a b c d : List A) → a ++ b ≡ c ++ d
    → ((m : List A) × (c ≡ a ++ m) × (b ≡ m ++ d)) ⊎ ((m : List A) × (a ≡ c ++ m) × (d ≡ m ++ b))
cut_twice [] b c d e = inl (c, refl, e)
cut_twice (x ∷ a) b [] d e = inr (x ∷ a, refl, sym e)
cut_twice (x ∷ a) b (y ∷ c) d e =
    let first : x ≡ y = cc in
    let rest : a ++ b ≡ c ++ d = cc in
    elim (cut_twice a b c d rest) [
      | inl t ↦ inl (t.0, (let f : c ≡ a ++ t.0 = t.1 in cc), t.2)
      | inr t ↦ inr (t.0, (let f : a ≡ c ++ t.0 = t.1 in cc), t.2)
    ]
