-- Spans are findings in one way only.
use Rattle.std.proofs.Common.{◌≡◌, ℕ, zero, suc, ◌-◌, ◌≤◌, ◌<◌, false, IsTrue, List, [], ◌∷◌, length, get_or, take, inl, inr, ◌⊎◌, ap, sym, subst, ◌∙◌, arith}
use Rattle.std.specs.Prelude.{Contains, slice_index, slice_range}
use Rattle.std.proofs.lemmas.Bool.{cases_order, false_from_ne_true, both_ways, and_parts}
use denote.Struct.Props as logic
use Rattle.kte_text.specs.Texts.{line_at}
use Rattle.kte_text.specs.Words.{is_word_unit}
use Rattle.kte_place.specs.Ends.{Ends}
use Rattle.kte_place.specs.Place.{is_before}
use Rattle.kte_place.specs.declared.place.Place.{Place}
use Rattle.kte_find.specs.Findings.{IsInLine, IsLoneSpan, IsFinding, AreAll, AreFindings, span_of}
use Rattle.kte_find.specs.OnLine.{EachUnit, is_blank, has_blank_before, IsPlaceOf, IsBlankEnd, IsBeyond, IsWord, IsRepeated}
use Rattle.kte_find.specs.Brackets.{Placed, placed, IsLone}
use Rattle.kte_find.specs.declared.found.TheConstants.{MAX_FINDINGS}
use Rattle.kte_find.specs.declared.rule.Rule.{Rule}
use Rattle.kte_find.specs.declared.rule.Rule.TheVariants.{Word, Blanks, Long, Pairs, Repeat}
use Rattle.kte_find.proofs.PlaceLemmas.{not_before_itself}
use Rattle.kte_find.proofs.PlacedLemmas.{Rises, rises_from, cons_cases}
use Rattle.kte_find.proofs.RunLemmas.{blank_is_no_word, blanks_begin, other_begins}
use Rattle.kte_find.proofs.LawLemmas.{one_all}

-- what is made of a value and a proposition about it is the same where the values are
same_with : {A R : Type 0} (P : A → Type 0) (make : (a : A) → P a → R) → ((a : A) → IsProp (P a)) → (a b : A) → a ≡ b
    → (u : P a) (v : P b) → make a u ≡ make b v
same_with P make prop a b e u v = subst (λ c. (w : P c) → make a u ≡ make c w) e (λ w. ap (make a) (prop a u w)) v

-- a list of which no two elements are the same contains an element in one place only
contains-prop : {A : Type 0} → IsSet A → (xs : List A)
    → ((i j : ℕ) (d : A) → i < j → j < length xs → get_or xs i d ≡ d → get_or xs j d ≡ d → ⊥) → (x : A) → IsProp (Contains xs x)
contains-prop {A} set xs apart x p q =
    same_with (λ n. (n < length xs) × (get_or xs n x ≡ x)) (λ n h. (let c : Contains xs x = (n, h.0, h.1) in c))
    (λ n. let e : IsProp (get_or xs n x ≡ x) = set (get_or xs n x) x in hlevel (logic.props, e))
    p.0 q.0 (index (cases_order p.0 q.0)) (p.1, p.2) (q.1, q.2) where
      index : (p.0 ≡ q.0) ⊎ ((p.0 < q.0) ⊎ (q.0 < p.0)) → p.0 ≡ q.0
      index (inl e) = e
      index (inr (inl lt)) = absurd (apart p.0 q.0 x lt q.1 p.2 q.2)
      index (inr (inr gt)) = absurd (apart q.0 p.0 x gt p.1 q.2 p.2)

-- ---- one span

word-prop : (units : List ℕ) (start end : ℕ) → IsProp (IsWord units start end)
word-prop units start end = hlevel (logic.props)

place-prop : (word units : List ℕ) (start end : ℕ) → IsProp (IsPlaceOf word units start end)
place-prop word units start end = hlevel (logic.props)

blank-prop : (units : List ℕ) (start end : ℕ) → IsProp (IsBlankEnd units start end)
blank-prop units start end = hlevel (logic.props)

beyond-prop : (limit : ℕ) (units : List ℕ) (start end : ℕ) → IsProp (IsBeyond limit units start end)
beyond-prop limit units start end = hlevel (logic.props)

line-prop : (P : List ℕ → ℕ → ℕ → Type 0) → ((units : List ℕ) (start end : ℕ) → IsProp (P units start end))
    → (text : List (List ℕ)) (span : Ends) → IsProp (IsInLine P text span)
line-prop P prop text span =
    let found = prop (line_at text span.start.line) span.start.column span.end.column in hlevel (logic.props, found)

-- ---- a bracket in no pair

-- the units of a text stand at different places
rises_apart : (xs : List Placed) → Rises xs → (i j : ℕ) (d : Placed) → i < j → j < length xs → get_or xs i d ≡ d → get_or xs j d ≡ d → ⊥
rises_apart [] rises i j d lt within e f = omega arith
rises_apart (x ∷ xs) rises zero zero d lt within e f = omega arith
rises_apart (x ∷ xs) rises zero (suc j) d lt within e f =
    not_before_itself d.place (subst (λ (p : Placed). IsTrue (is_before p.place d.place)) e (rises.0 d (j, omega arith, f)))
rises_apart (x ∷ xs) rises (suc i) zero d lt within e f = omega arith
rises_apart (x ∷ xs) rises (suc i) (suc j) d lt within e f = rises_apart xs rises.1 i j d (omega arith) (omega arith) e f

-- .. so there is one at each
one_at : (xs : List Placed) → Rises xs → (one two : Placed) → Contains xs one → Contains xs two → one.place ≡ two.place → one ≡ two
one_at [] rises one two p q same = absurd (omega (arith, p.1))
one_at (x ∷ xs) rises one two p q same = elim (cons_cases x xs one p) [
  | inl e ↦ elim (cons_cases x xs two q) [
    | inl f ↦ sym e ∙ f
    | inr later ↦ absurd (not_before_itself two.place
        (subst (λ (place : Place). IsTrue (is_before place two.place)) (ap (λ (p : Placed). p.place) e ∙ same) (rises.0 two later)))
  ]
  | inr there ↦ elim (cons_cases x xs two q) [
    | inl f ↦ absurd (not_before_itself one.place
        (subst (λ (place : Place). IsTrue (is_before place one.place)) (ap (λ (p : Placed). p.place) f ∙ sym same) (rises.0 one there)))
    | inr later ↦ one_at xs rises.1 one two there later same
  ]
]

placed-set : IsSet Placed
placed-set = hlevel (logic.props)

is_lone-prop : (text : List (List ℕ)) (bracket : Placed) → IsProp (IsLone (placed text) bracket)
is_lone-prop text bracket =
    let there = contains-prop placed-set (placed text) (rises_apart (placed text) (rises_from 0 text)) bracket in hlevel (logic.props, there)

ends-set : IsSet Ends
ends-set = hlevel (logic.props)

lone-prop : (text : List (List ℕ)) (span : Ends) → IsProp (IsLoneSpan text span)
lone-prop text span p q =
    same_with (λ bracket. IsLone (placed text) bracket × (span ≡ span_of bracket))
    (λ bracket h. (let l : IsLoneSpan text span = record { bracket = bracket; lone = h.0; whole = h.1 } in l))
    (λ bracket. let lone = is_lone-prop text bracket in let whole : IsProp (span ≡ span_of bracket) = ends-set span (span_of bracket) in hlevel (lone, whole))
    p.bracket q.bracket
    (one_at (placed text) (rises_from 0 text) p.bracket q.bracket p.lone.there q.lone.there
    (ap (λ (s : Ends). s.start) (sym p.whole ∙ q.whole)))
    (p.lone, p.whole) (q.lone, q.whole)

-- ---- a repeated word

-- a word ends after a unit that is no blank
no_blank_before : (units : List ℕ) (start end : ℕ) → IsWord units start end → has_blank_before units end ≡ false
no_blank_before units start end word =
    let some = word.some in
    false_from_ne_true _ (λ t. both_ways _ (blank_is_no_word (slice_index units (end - 1)) ((and_parts _ _ t).1))
    (word.word (end - 1) (omega arith) (omega arith)))

repeat-prop : (units : List ℕ) (start end : ℕ) → IsProp (IsRepeated units start end)
repeat-prop units start end p q =
    let end_same : q.other_end ≡ p.other_end =
    blanks_begin units start end p q.other_end q.before q.between (no_blank_before units q.other_start q.other_end q.other) in
    let start_same : q.other_start ≡ p.other_start =
    other_begins units start end p q.other_start (let s = q.other.some in omega arith)
    (subst (λ n. EachUnit is_word_unit units q.other_start n) end_same q.other.word) q.other.first in
    same_with (λ (a : ℕ × ℕ). IsWord units start end × IsWord units a.0 a.1 × (a.1 ≤ start) × EachUnit is_blank units a.1 start
    × (slice_range units start end ≡ slice_range units a.0 a.1))
    (λ a h. (let r : IsRepeated units start end =
    record { word = h.0; other_start = a.0; other_end = a.1; other = h.1; before = h.2; between = h.3; same = h.4 } in r))
    (λ a. let word = word-prop units start end in let other = word-prop units a.0 a.1 in hlevel (logic.props, word, other))
    (p.other_start, p.other_end) (q.other_start, q.other_end)
    (sym (ap (λ n. (let a : ℕ × ℕ = (n, q.other_end) in a)) start_same ∙ ap (λ n. (let a : ℕ × ℕ = (p.other_start, n) in a)) end_same))
    (p.word, p.other, p.before, p.between, p.same) (q.word, q.other, q.before, q.between, q.same)

-- ---- all spans

finding-prop : (rule : Rule) (text : List (List ℕ)) (span : Ends) → IsProp (IsFinding rule text span)
finding-prop (Word word) text span = line-prop (IsPlaceOf word) (place-prop word) text span
finding-prop Blanks text span = line-prop IsBlankEnd blank-prop text span
finding-prop (Long limit) text span = line-prop (IsBeyond limit) (beyond-prop limit) text span
finding-prop Pairs text span = lone-prop text span
finding-prop Repeat text span = line-prop IsRepeated repeat-prop text span

all-prop : (P : Ends → Type 0) → ((span : Ends) → IsProp (P span)) → (spans : List Ends) → IsProp (AreAll P spans)
all-prop P prop spans p q =
    let apart : (i j : ℕ) (d : Ends) → i < j → j < length spans → get_or spans i d ≡ d → get_or spans j d ≡ d → ⊥ =
    λ i j d lt within e f. not_before_itself d.start
    (subst (λ (s : Ends). IsTrue (is_before s.start d.start)) e
    (subst (λ (s : Ends). IsTrue (is_before (get_or spans i d).start s.start)) f (p.ordered i j d lt within))) in
    let contains : (span : Ends) → IsProp (Contains spans span) = contains-prop ends-set spans apart in
    let all : IsProp (AreAll P spans) = hlevel (logic.props, contains, prop) in
    all p q

-- spans are the findings of a rule in a text in one way only
pub findings-prop : (rule : Rule) (text : List (List ℕ)) (spans : List Ends) → IsProp (AreFindings rule text spans)
findings-prop rule text spans p q =
    let P = IsFinding rule text in
    same_with (λ all. AreAll P all × (spans ≡ take MAX_FINDINGS all))
    (λ all h. (let a : AreFindings rule text spans = record { all = all; are_all = h.0; first = h.1 } in a))
    (λ all. let are = all-prop P (finding-prop rule text) all in let first : IsProp (spans ≡ take MAX_FINDINGS all) = hlevel (logic.props) in hlevel (are, first))
    p.all q.all (one_all P p.all q.all p.are_all q.are_all) (p.are_all, p.first) (q.are_all, q.first)
