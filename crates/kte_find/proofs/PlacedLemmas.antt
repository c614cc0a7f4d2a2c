-- The units of a text with their places: as far as lines and columns go, and in order.
use Rattle.std.proofs.Common.{◌≡◌, ◌∙◌, ℕ, zero, suc, ◌+◌, ◌<◌, ◌≤◌, List, [], ◌∷◌, ◌++◌, length, take, get_or, IsTrue, Contains, AllPairs, ◌⊎◌, inl, inr, refl, sym, ap, subst, append_assoc, arith}
use Rattle.std.proofs.lemmas.List.{append-nil}
use Rattle.std.proofs.lemmas.List.Elements.{Contains-append_cases, Contains-append_right, Contains-get_or}
use Rattle.std.proofs.lemmas.List.Kept.{AllPairs-cons}
use Rattle.kte_place.specs.Ends.{Ends}
use Rattle.kte_place.specs.Place.{at, is_before}
use Rattle.kte_text.specs.Texts.{line_at}
use Rattle.kte_find.specs.Brackets.{Placed, placed_on, placed_from, placed, IsLone}
use Rattle.kte_find.specs.Findings.{span_of, IsLoneSpan, AreAll}
use Rattle.kte_find.specs.Reading.{Picks, IsSplitOnce}
use Rattle.kte_find.specs.Reading.Picks.{none, skip, pick}
use Rattle.kte_find.proofs.PlaceLemmas.{on_earlier_line, in_line_before, not_before_itself}

-- one more unit of a line
pub placed_on-more : (line column : ℕ) (units : List ℕ) (n : ℕ) → n < length units
    → placed_on line column (take (suc n) units)
    ≡ placed_on line column (take n units) ++ (record { place = at line (column + n); unit = get_or units n 0 }) ∷ []
placed_on-more line column [] n h = absurd (omega (arith, h))
placed_on-more line column (u ∷ us) zero h = ap (λ c. (record { place = at line c; unit = u }) ∷ []) (let e : column ≡ column + 0 = omega arith in e)
placed_on-more line column (u ∷ us) (suc n) h =
    ap (λ rest. (record { place = at line column; unit = u }) ∷ rest)
    (placed_on-more line (column + 1) us n (omega arith)
    ∙ ap (λ c. placed_on line (column + 1) (take n us) ++ (record { place = at line c; unit = get_or us n 0 }) ∷ [])
    (let e : column + 1 + n ≡ column + suc n = omega arith in e))

-- one more line of a text
pub placed_from-more : (line : ℕ) (text : List (List ℕ)) (n : ℕ) → n < length text
    → placed_from line (take (suc n) text) ≡ placed_from line (take n text) ++ placed_on (line + n) 0 (line_at text n)
placed_from-more line [] n h = absurd (omega (arith, h))
placed_from-more line (us ∷ text) zero h =
    append-nil (placed_on line 0 us) ∙ ap (λ l. placed_on l 0 us) (let e : line ≡ line + 0 = omega arith in e)
placed_from-more line (us ∷ text) (suc n) h =
    ap (λ rest. placed_on line 0 us ++ rest)
    (placed_from-more (line + 1) text n (omega arith)
    ∙ ap (λ l. placed_from (line + 1) (take n text) ++ placed_on l 0 (line_at text n)) (let e : line + 1 + n ≡ line + suc n = omega arith in e))
    ∙ sym (append_assoc (placed_on line 0 us) (placed_from (line + 1) (take n text)) (placed_on (line + suc n) 0 (line_at text n)))

pub cons_cases : {A : Type 0} (x : A) (xs : List A) (y : A) → Contains (x ∷ xs) y → (x ≡ y) ⊎ Contains xs y
cons_cases x xs y (zero, h, e) = inl e
cons_cases x xs y (suc k, h, e) = inr (k, omega arith, e)

pub cons_first : {A : Type 0} (x : A) (xs : List A) → Contains (x ∷ xs) x
cons_first x xs = (0, omega arith, refl)

pub cons_later : {A : Type 0} (x : A) (xs : List A) (y : A) → Contains xs y → Contains (x ∷ xs) y
cons_later x xs y (k, h, e) = (suc k, omega arith, e)

-- each unit stands before the later ones
abbrev pub Rises : List Placed → Type 0
Rises [] = Unit {0}
Rises (x ∷ xs) = ((y : Placed) → Contains xs y → IsTrue (is_before x.place y.place)) × Rises xs

on_line : (line column : ℕ) (units : List ℕ) (y : Placed) → Contains (placed_on line column units) y
    → (y.place.line ≡ line) × (column ≤ y.place.column)
on_line line column [] y h = absurd (omega (arith, h.1))
on_line line column (u ∷ us) y h = elim (cons_cases _ (placed_on line (column + 1) us) y h) [
  | inl e ↦ (sym (ap (λ (p : Placed). p.place.line) e), let f : column ≡ y.place.column = ap (λ (p : Placed). p.place.column) e in omega arith)
  | inr t ↦ let r = on_line line (column + 1) us y t in (r.0, omega arith)
]

rises_on : (line column : ℕ) (units : List ℕ) → Rises (placed_on line column units)
rises_on line column [] = tt
rises_on line column (u ∷ us) =
    (λ y h. let r = on_line line (column + 1) us y h in in_line_before (at line column) y.place (sym r.0) (omega arith), rises_on line (column + 1) us)

from_line : (line : ℕ) (text : List (List ℕ)) (y : Placed) → Contains (placed_from line text) y → line ≤ y.place.line
from_line line [] y h = absurd (omega (arith, h.1))
from_line line (us ∷ text) y h = elim (Contains-append_cases (placed_on line 0 us) (placed_from (line + 1) text) y h) [
  | inl t ↦ let r = on_line line 0 us y t in omega arith
  | inr t ↦ let r = from_line (line + 1) text y t in omega arith
]

rises_append : (xs ys : List Placed) → Rises xs → Rises ys
    → ((x y : Placed) → Contains xs x → Contains ys y → IsTrue (is_before x.place y.place)) → Rises (xs ++ ys)
rises_append [] ys p q h = q
rises_append (x ∷ xs) ys p q h = (
  λ y t. elim (Contains-append_cases xs ys y t) [ inl u ↦ p.0 y u | inr u ↦ h x y (cons_first x xs) u ],
  rises_append xs ys p.1 q (λ a b s t. h a b (cons_later x xs a s) t),
)

pub rises_from : (line : ℕ) (text : List (List ℕ)) → Rises (placed_from line text)
rises_from line [] = tt
rises_from line (us ∷ text) = rises_append (placed_on line 0 us) (placed_from (line + 1) text) (rises_on line 0 us) (rises_from (line + 1) text)
    (λ x y s t.
    let a = on_line line 0 us x s in
    let b = from_line (line + 1) text y t in
    on_earlier_line x.place y.place (omega arith))

-- so no unit stands in it twice
once : (front other : List Placed) (u : Placed) (after rest : List Placed) → Rises (front ++ u ∷ after)
    → front ++ u ∷ after ≡ other ++ u ∷ rest → (front ≡ other) × (after ≡ rest)
once [] [] u after rest h e = (refl, cc)
once [] (x ∷ other) u after rest h e =
    let tail : after ≡ other ++ u ∷ rest = cc in
    absurd (not_before_itself u.place (h.0 u (subst (λ us. Contains us u) (sym tail) (Contains-append_right other (u ∷ rest) u (cons_first u rest)))))
once (x ∷ front) [] u after rest h e =
    let same : x ≡ u = cc in
    let before : IsTrue (is_before x.place u.place) = h.0 u (Contains-append_right front (u ∷ after) u (cons_first u after)) in
    absurd (not_before_itself u.place (subst (λ y. IsTrue (is_before y.place u.place)) same before))
once (x ∷ front) (y ∷ other) u after rest h e =
    let tail : front ++ u ∷ after ≡ other ++ u ∷ rest = cc in
    let first : x ≡ y = cc in
    let r = once front other u after rest h.1 tail in
    ((let f : front ≡ other = r.0 in cc), r.1)

pub split_once : (text : List Placed) → Rises text → IsSplitOnce text
split_once text h before other u after rest e f =
    once before other u after rest (subst Rises e h) (sym e ∙ f)

-- the spans that are picked are those of the brackets in no pair, in order
picked : (text units : List Placed) (spans : List Ends) → Picks text units spans → (s : Ends) → Contains spans s
    → (u : Placed) × Contains units u × IsLone text u × (s ≡ span_of u)
picked text _ _ none s h = absurd (omega (arith, h.1))
picked text _ _ (skip u us spans not p) s h = let r = picked text us spans p s h in (r.0, cons_later u us r.0 r.1, r.2, r.3)
picked text _ _ (pick u us spans lone p) s h = elim (cons_cases (span_of u) spans s h) [
  | inl e ↦ (u, cons_first u us, lone, sym e)
  | inr t ↦ let r = picked text us spans p s t in (r.0, cons_later u us r.0 r.1, r.2, r.3)
]

picks_each : (text units : List Placed) (spans : List Ends) → Picks text units spans → (u : Placed) → Contains units u → IsLone text u
    → Contains spans (span_of u)
picks_each text _ _ none u h lone = absurd (omega (arith, h.1))
picks_each text _ _ (skip v us spans not p) u h lone = elim (cons_cases v us u h) [
  | inl e ↦ absurd (not (subst (λ x. IsLone text x) (sym e) lone))
  | inr t ↦ picks_each text us spans p u t lone
]
picks_each text _ _ (pick v us spans is p) u h lone = elim (cons_cases v us u h) [
  | inl e ↦ subst (λ x. Contains (span_of v ∷ spans) (span_of x)) e (cons_first (span_of v) spans)
  | inr t ↦ cons_later (span_of v) spans (span_of u) (picks_each text us spans p u t lone)
]

picks_in_order : (text units : List Placed) (spans : List Ends) → Picks text units spans → Rises units
    → AllPairs (λ one next. IsTrue (is_before one.start next.start)) spans
picks_in_order text _ _ none h = λ i j d less past. absurd (omega arith)
picks_in_order text _ _ (skip u us spans not p) h = picks_in_order text us spans p h.1
picks_in_order text _ _ (pick u us spans lone p) h =
    AllPairs-cons (λ one next. IsTrue (is_before one.start next.start)) (span_of u) spans
    (λ k d past.
    let r = picked text us spans p (get_or spans k d) (Contains-get_or spans k d past) in
    subst (λ s. IsTrue (is_before u.place s.start)) (sym r.3) (h.0 r.0 r.1))
    (picks_in_order text us spans p h.1)

pub all_lone : (text : List (List ℕ)) (spans : List Ends) → Picks (placed text) (placed text) spans → AreAll (IsLoneSpan text) spans
all_lone text spans p = record {
  each = λ s. (
    λ h. let r = picked (placed text) (placed text) spans p s h in record { bracket = r.0; lone = r.2; whole = r.3 },
    λ h. subst (λ x. Contains spans x) (sym h.whole) (picks_each (placed text) (placed text) spans p h.bracket h.lone.there h.lone),
  );
  ordered = picks_in_order (placed text) (placed text) spans p (rises_from 0 text);
}
