-- Matches of a pattern in a line.
use Rattle.std.proofs.Common.{◌≡◌, ◌∙◌, ◌↔◌, ℕ, ◌+◌, ◌≤◌, Bool, true, false, not, ◌&&◌, ◌||◌, List, [], ◌∷◌, length, take, drop, map, nat_le, nat_eq, sym, refl, ap, inl, inr, arith}
use Rattle.std.proofs.lemmas.Bool.{cases_Bool, and_parts, and_from, or_parts, eqb-true, eq-eqb, leb-true, le-leb}
use Rattle.std.proofs.lemmas.List.{length-map, take-map}
use Rattle.std.specs.List.{starts_with}
use Rattle.std.specs.Cmp.Lexicographic.{pointwise}
use Rattle.kte_text.specs.Words.{compared, has_word_before, has_word_at, MatchesAt, matches}

-- a match of a whole word is a match
pub MatchesAt-whole : (fold : Bool) (pattern units : List ℕ) (column : ℕ)
    → MatchesAt fold true pattern units column → MatchesAt fold false pattern units column
MatchesAt-whole fold pattern units column h = record { within = h.within; same = h.same; alone = λ e. h.alone refl }

exactly : (units : List ℕ) → map (compared false) units ≡ units
exactly [] = refl
exactly (u ∷ us) = ap (λ rest. u ∷ rest) (exactly us)

-- a match with case is a match without
pub MatchesAt-case : (whole : Bool) (pattern units : List ℕ) (column : ℕ)
    → MatchesAt false whole pattern units column → MatchesAt true whole pattern units column
MatchesAt-case whole pattern units column h =
    let part = take (length pattern) (drop column units) in
    let same : part ≡ pattern = sym (exactly part) ∙ h.same ∙ exactly pattern in
    record { within = h.within; same = ap (map (compared true)) same; alone = h.alone }

pointwise_same : (xs ys : List ℕ) → pointwise nat_eq xs ys ≡ true → xs ≡ ys
pointwise_same [] [] h = refl
pointwise_same [] (y ∷ ys) h = cc
pointwise_same (x ∷ xs) [] h = cc
pointwise_same (x ∷ xs) (y ∷ ys) h =
    let p = and_parts _ _ h in
    let first = eqb-true x y p.0 in
    let rest = pointwise_same xs ys p.1 in cc

pointwise_refl : (xs : List ℕ) → pointwise nat_eq xs xs ≡ true
pointwise_refl [] = refl
pointwise_refl (x ∷ xs) = and_from _ _ (eq-eqb x x refl) (pointwise_refl xs)

not_true : (b : Bool) → not b ≡ true → b ≡ false
not_true false h = refl
not_true true h = cc

-- the test of a match
pub MatchesAt-matches : (fold whole : Bool) (pattern units : List ℕ) (column : ℕ)
    → matches fold whole pattern units column ≡ true → MatchesAt fold whole pattern units column
MatchesAt-matches fold whole pattern units column h =
    let f = compared fold in
    let p = and_parts _ _ h in
    let q = and_parts _ _ p.0 in
    let n = length-map pattern f in
    let same : map f pattern ≡ take (length (map f pattern)) (map f (drop column units)) = pointwise_same _ _ q.1 in
    let there : take (length pattern) (map f (drop column units)) ≡ map f (take (length pattern) (drop column units)) =
    take-map f (length pattern) (drop column units) in
    record {
      within = leb-true (column + length pattern) (length units) q.0;
      same = sym there ∙ sym (rw n at same);
      alone = λ is_whole. or_parts _ _ (rw is_whole at (not_true _ p.1));
    }

pub matches-MatchesAt : (fold whole : Bool) (pattern units : List ℕ) (column : ℕ)
    → MatchesAt fold whole pattern units column → matches fold whole pattern units column ≡ true
matches-MatchesAt fold whole pattern units column h =
    let f = compared fold in
    let n = length-map pattern f in
    let there : take (length pattern) (map f (drop column units)) ≡ map f pattern =
    take-map f (length pattern) (drop column units) ∙ h.same in
    let begins : starts_with nat_eq (map f (drop column units)) (map f pattern) ≡ true =
    rw (n, there) (pointwise_refl (map f pattern)) in
    let inside : nat_le (column + length pattern) (length units) ≡ true = le-leb (column + length pattern) (length units) h.within in
    and_from _ _ (and_from _ _ inside begins)
    (elim (cases_Bool whole) [
      | inl t ↦ let a = h.alone t in rw (t, a.0, a.1)
      | inr e ↦ rw e
    ])
