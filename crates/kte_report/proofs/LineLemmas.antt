-- Texts of lines are cut into their lines in one way.
use Rattle.std.proofs.Common.{◌≡◌, ℕ, ◌+◌, Bool, true, false, cond, nat_eq, List, [], ◌∷◌, ◌++◌, length, refl, sym, ap, ◌∙◌, subst, append_assoc, arith, inl, inr, ◌⊎◌, ◌&&◌}
use Rattle.std.specs.Prelude.{not}
use Rattle.std.specs.List.{AllByRecursion}
use Rattle.std.proofs.lemmas.List.Sums.{sum_by-append, sum_by-cons}
use Rattle.kte_report.specs.Lines.{is_end, is_in_line, ends_in, text_of_lines}

pub both : (a b : Bool) → (a && b) ≡ true → (a ≡ true) × (b ≡ true)
both true b e = (refl, e)
both false b e = absurd cc

pub decide : (b : Bool) → (b ≡ true) ⊎ (b ≡ false)
decide true = inl refl
decide false = inr refl

abbrev pub InLines : List (List ℕ) → Type 0
InLines lines = AllByRecursion (λ line. is_in_line line ≡ true) lines

no_end : (others : List ℕ) → is_in_line (10 ∷ others) ≡ true → ⊥
no_end others h = cc

head_same : (a b : ℕ) (x y : List ℕ) → a ∷ x ≡ b ∷ y → (a ≡ b) × (x ≡ y)
head_same a b x y e = (cc, cc)

-- a line and its end
pub first_line : (a b x y : List ℕ) → is_in_line a ≡ true → is_in_line b ≡ true → a ++ 10 ∷ x ≡ b ++ 10 ∷ y → (a ≡ b) × (x ≡ y)
first_line [] [] x y p q e = (refl, (head_same 10 10 x y e).1)
first_line [] (c ∷ b) x y p q e =
    let same : 10 ≡ c = (head_same 10 c x (b ++ 10 ∷ y) e).0 in
    absurd (no_end b (subst (λ (n : ℕ). is_in_line (n ∷ b) ≡ true) (sym same) q))
first_line (c ∷ a) [] x y p q e =
    let same : c ≡ 10 = (head_same c 10 (a ++ 10 ∷ x) y e).0 in
    absurd (no_end a (subst (λ (n : ℕ). is_in_line (n ∷ a) ≡ true) same p))
first_line (c ∷ a) (d ∷ b) x y p q e =
    let h = head_same c d (a ++ 10 ∷ x) (b ++ 10 ∷ y) e in
    let r = first_line a b x y (both _ (is_in_line a) p).1 (both _ (is_in_line b) q).1 h.1 in
    (cc (h.0, r.0), r.1)

pub with_line : (line : List ℕ) (lines : List (List ℕ)) (x : List ℕ) → text_of_lines (line ∷ lines) ++ x ≡ line ++ 10 ∷ (text_of_lines lines ++ x)
with_line line lines x = simp append_assoc

nothing_left : (line : List ℕ) (x : List ℕ) → [] ≡ line ++ 10 ∷ x → ⊥
nothing_left [] x e = cc
nothing_left (c ∷ line) x e = cc

-- a text of lines that begins with others has their lines first
pub cut : (front all : List (List ℕ)) (x : List ℕ) → InLines front → InLines all → text_of_lines all ≡ text_of_lines front ++ x → (others : List (List ℕ)) × (all ≡ front ++ others) × (x ≡ text_of_lines others)
cut [] all x p q e = (all, refl, sym e)
cut (line ∷ front) [] x p q e = absurd (nothing_left line (text_of_lines front ++ x) (e ∙ with_line line front x))
cut (line ∷ front) (first ∷ all) x p q e =
    let whole : first ++ 10 ∷ text_of_lines all ≡ line ++ 10 ∷ (text_of_lines front ++ x) = sym (append_assoc first (10 ∷ []) (text_of_lines all)) ∙ e ∙ with_line line front x in
    let r = first_line first line (text_of_lines all) (text_of_lines front ++ x) q.0 p.0 whole in
    let others = cut front all x p.1 q.1 r.1 in
    (others.0, cc (r.0, others.1), others.2)

pub text-append : (a b : List (List ℕ)) → text_of_lines (a ++ b) ≡ text_of_lines a ++ text_of_lines b
text-append [] b = refl
text-append (line ∷ a) b = ap (λ (xs : List ℕ). (line ++ 10 ∷ []) ++ xs) (text-append a b) ∙ sym (append_assoc (line ++ 10 ∷ []) (text_of_lines a) (text_of_lines b))

pub InLines-append : (a b : List (List ℕ)) → InLines a → InLines b → InLines (a ++ b)
InLines-append [] b p q = q
InLines-append (line ∷ a) b p q = (p.0, InLines-append a b p.1 q)

-- ---- the number of ends

pub ends-append : (a b : List ℕ) → ends_in (a ++ b) ≡ ends_in a + ends_in b
ends-append a b = sum_by-append (λ x. cond (is_end x) 1 0) a b

none_added : (b : Bool) (m total : ℕ) → not b ≡ true → m ≡ 0 → total ≡ cond b 1 0 + m → total ≡ 0
none_added true m total e f h = absurd cc
none_added false m total e f h = omega arith

pub no_ends : (line : List ℕ) → is_in_line line ≡ true → ends_in line ≡ 0
no_ends [] p = refl
no_ends (byte ∷ line) p =
    let h = both (not (nat_eq byte 10)) (is_in_line line) p in
    none_added (nat_eq byte 10) (ends_in line) (ends_in (byte ∷ line)) h.0 (no_ends line h.1) (sum_by-cons (λ x. cond (is_end x) 1 0) byte line)

pub ends_of_lines : (lines : List (List ℕ)) → InLines lines → ends_in (text_of_lines lines) ≡ length lines
ends_of_lines [] p = refl
ends_of_lines (line ∷ lines) p =
    let e : ends_in (text_of_lines (line ∷ lines)) ≡ ends_in (line ++ 10 ∷ []) + ends_in (text_of_lines lines) = ends-append (line ++ 10 ∷ []) (text_of_lines lines) in
    let f : ends_in (line ++ 10 ∷ []) ≡ ends_in line + 1 = ends-append line (10 ∷ []) in
    let n : ends_in line ≡ 0 = no_ends line p.0 in
    let r : ends_in (text_of_lines lines) ≡ length lines = ends_of_lines lines p.1 in
    omega arith
