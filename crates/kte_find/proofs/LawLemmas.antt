-- A bracket is in at most one pair, and a text has one list of findings, each in one line.
use Rattle.std.proofs.Common.{◌≡◌, ◌∙◌, ℕ, suc, ◌+◌, ◌<◌, ◌≤◌, true, List, [], ◌∷◌, ◌++◌, length, take, Some, IsTrue, Contains, AllPairs, inl, inr, refl, sym, ap, subst, append_assoc, arith}
use Rattle.std.proofs.lemmas.List.Elements.{Contains-append_cases}
use Rattle.kte_place.specs.Ends.{Ends}
use Rattle.kte_place.specs.Place.{is_before}
use Rattle.kte_text.specs.Texts.{line_at}
use Rattle.kte_find.specs.declared.rule.Rule.{Rule}
use Rattle.kte_find.specs.declared.rule.Rule.TheVariants.{Word, Blanks, Long, Pairs, Repeat}
use Rattle.kte_find.specs.declared.found.TheConstants.{MAX_FINDINGS}
use Rattle.kte_find.specs.Rule.{HasWord}
use Rattle.kte_find.specs.Brackets.{Placed, placed, placed_on, placed_from, is_opening, is_closing, Balanced, ArePair}
use Rattle.kte_find.specs.Findings.{IsFinding, AreAll, AreFindings}
use Rattle.kte_find.specs.Reading.{stack_after}
use Rattle.kte_find.proofs.PlaceLemmas.{before_trans, not_before_itself}
use Rattle.kte_find.proofs.StackLemmas.{kinds, balanced_reads, none_or_some, cut_twice}
use Rattle.kte_find.proofs.PickLemmas.{front_fails}
use Rattle.kte_find.proofs.SealLemmas.{on_top}
use Rattle.kte_find.proofs.PlacedLemmas.{rises_from, split_once, cons_cases, cons_first, cons_later}

-- a balanced text and a closing bracket do not begin a balanced text
ends_there : (a b : List Placed) (c : Placed) (m : List Placed) → Balanced a → Balanced b → is_closing c.unit ≡ true → b ≡ a ++ c ∷ m → ⊥
ends_there a b c m p q k e = none_or_some _ [] (ap (λ x. stack_after (Some []) x) e ∙ front_fails a c m p k) (balanced_reads q [])

same_closing : (a b : List Placed) (c d : Placed) (x y : List Placed) → Balanced a → Balanced b
    → is_closing c.unit ≡ true → is_closing d.unit ≡ true → a ++ c ∷ x ≡ b ++ d ∷ y → c ≡ d
same_closing a b c d x y p q k l e = elim (cut_twice a (c ∷ x) b (d ∷ y) e) [
  | inl (m, f, g) ↦ first m f g
  | inr (m, f, g) ↦ second m f g
] where
  first : (m : List Placed) → b ≡ a ++ m → c ∷ x ≡ m ++ d ∷ y → c ≡ d
  first [] f g = cc
  first (z ∷ m) f g =
      let same : c ≡ z = cc in
      absurd (ends_there a b c m p q k (f ∙ ap (λ t. a ++ t ∷ m) (sym same)))

  second : (m : List Placed) → a ≡ b ++ m → d ∷ y ≡ m ++ c ∷ x → c ≡ d
  second [] f g = cc
  second (z ∷ m) f g =
      let same : d ≡ z = cc in
      absurd (ends_there b a d m q p l (f ∙ ap (λ t. b ++ t ∷ m) (sym same)))

pub one_closing : (text : List (List ℕ)) (o c d : Placed) → ArePair (placed text) o c → ArePair (placed text) o d → c ≡ d
one_closing text o c d p q =
    let once = split_once (placed text) (rises_from 0 text) in
    let e = (once p.before q.before o (p.inside ++ c ∷ p.after) (q.inside ++ d ∷ q.after)
    (p.whole ∙ append_assoc p.before (o ∷ p.inside) (c ∷ p.after))
    (q.whole ∙ append_assoc q.before (o ∷ q.inside) (d ∷ q.after))).1 in
    same_closing p.inside q.inside c d p.after q.after p.balanced q.balanced
    ((kinds o.unit c.unit p.kind).closes) ((kinds o.unit d.unit q.kind).closes) e

-- no opening bracket before a balanced text stands within one that ends there
begins_there : (a : List Placed) (m : List Placed) (o : Placed) (b : List Placed) → Balanced a → Balanced b → is_opening o.unit ≡ true
    → a ≡ m ++ o ∷ b → ⊥
begins_there a m o b p q k e =
    let top = on_top m o b [] k q (ap (λ x. stack_after (Some []) x) (sym e) ∙ balanced_reads p []) in
    nothing top.0 top.1 where
      nothing : (s : List Placed) → [] ≡ o ∷ s → ⊥
      nothing s h = cc

same_opening : (x y a b : List Placed) (o p : Placed) → Balanced a → Balanced b
    → is_opening o.unit ≡ true → is_opening p.unit ≡ true → x ++ o ∷ a ≡ y ++ p ∷ b → o ≡ p
same_opening x y a b o p q r k l e = elim (cut_twice x (o ∷ a) y (p ∷ b) e) [
  | inl (m, f, g) ↦ first m g
  | inr (m, f, g) ↦ second m g
] where
  first : (m : List Placed) → o ∷ a ≡ m ++ p ∷ b → o ≡ p
  first [] g = cc
  first (z ∷ m) g = let inside : a ≡ m ++ p ∷ b = cc in absurd (begins_there a m p b q r l inside)

  second : (m : List Placed) → p ∷ b ≡ m ++ o ∷ a → o ≡ p
  second [] g = cc
  second (z ∷ m) g = let inside : b ≡ m ++ o ∷ a = cc in absurd (begins_there b m o a r q k inside)

pub one_opening : (text : List (List ℕ)) (o p c : Placed) → ArePair (placed text) o c → ArePair (placed text) p c → o ≡ p
one_opening text o p c q r =
    let once = split_once (placed text) (rises_from 0 text) in
    let e = (once (q.before ++ o ∷ q.inside) (r.before ++ p ∷ r.inside) c q.after r.after q.whole r.whole).0 in
    same_opening q.before r.before q.inside r.inside o p q.balanced r.balanced
    ((kinds o.unit c.unit q.kind).opens) ((kinds p.unit c.unit r.kind).opens) e

-- spans in the order of their starts
abbrev pub Before : Ends → Ends → Type 0
Before one next = IsTrue (is_before one.start next.start)

head_before : (x : Ends) (xs : List Ends) (y : Ends) → AllPairs Before (x ∷ xs) → Contains xs y → Before x y
head_before x xs y all (k, h, e) = subst (λ z. Before x z) e (all 0 (suc k) y (omega arith) (omega arith))

tail_ordered : (x : Ends) (xs : List Ends) → AllPairs Before (x ∷ xs) → AllPairs Before xs
tail_ordered x xs all = λ i j d h k. all (suc i) (suc j) d (omega arith) (omega arith)

-- two lists in order that hold the same spans are the same
same_list : (a b : List Ends) → AllPairs Before a → AllPairs Before b
    → ((s : Ends) → Contains a s → Contains b s) → ((s : Ends) → Contains b s → Contains a s) → a ≡ b
same_list [] [] p q f g = refl
same_list [] (y ∷ b) p q f g = absurd (let h = g y (cons_first y b) in omega (arith, h.1))
same_list (x ∷ a) [] p q f g = absurd (let h = f x (cons_first x a) in omega (arith, h.1))
same_list (x ∷ a) (y ∷ b) p q f g =
    let first = heads in
    let rest : a ≡ b = same_list a b (tail_ordered x a p) (tail_ordered y b q)
    (λ s h. elim (cons_cases y b s (f s (cons_later x a s h))) [
      | inl e ↦ absurd (not_before_itself s.start (subst (λ z. Before z s) (first ∙ e) (head_before x a s p h)))
      | inr t ↦ t
    ])
    (λ s h. elim (cons_cases x a s (g s (cons_later y b s h))) [
      | inl e ↦ absurd (not_before_itself s.start (subst (λ z. Before z s) (sym first ∙ e) (head_before y b s q h)))
      | inr t ↦ t
    ]) in
    ap (λ z. z ∷ a) first ∙ ap (λ r. y ∷ r) rest where
      heads : x ≡ y
      heads = elim (cons_cases y b x (f x (cons_first x a))) [
        | inl e ↦ sym e
        | inr t ↦ elim (cons_cases x a y (g y (cons_first y b))) [
          | inl e ↦ e
          | inr u ↦ absurd (not_before_itself x.start (before_trans x.start y.start x.start (head_before x a y p u) (head_before y b x q t)))
        ]
      ]

pub one_all : (P : Ends → Type 0) (a b : List Ends) → AreAll P a → AreAll P b → a ≡ b
one_all P a b p q = same_list a b p.ordered q.ordered
    (λ s h. (q.each s).1 ((p.each s).0 h)) (λ s h. (p.each s).1 ((q.each s).0 h))

pub one_findings : (rule : Rule) (text : List (List ℕ)) (one other : List Ends) → AreFindings rule text one → AreFindings rule text other → one ≡ other
one_findings rule text one other p q =
    p.first ∙ ap (λ s. take MAX_FINDINGS s) (one_all (IsFinding rule text) p.all q.all p.are_all q.are_all) ∙ sym q.first

-- a unit of a text stands in one of its lines
on_columns : (line column : ℕ) (units : List ℕ) (y : Placed) → Contains (placed_on line column units) y
    → (y.place.line ≡ line) × (y.place.column < column + length units)
on_columns line column [] y h = absurd (omega (arith, h.1))
on_columns line column (u ∷ us) y h = elim (cons_cases _ (placed_on line (column + 1) us) y h) [
  | inl e ↦ (sym (ap (λ (p : Placed). p.place.line) e), let f : column ≡ y.place.column = ap (λ (p : Placed). p.place.column) e in omega arith)
  | inr t ↦ let r = on_columns line (column + 1) us y t in (r.0, omega arith)
]

pub in_lines : (line : ℕ) (text : List (List ℕ)) (y : Placed) → Contains (placed_from line text) y
    → (n : ℕ) × (y.place.line ≡ line + n) × (n < length text) × (y.place.column < length (line_at text n))
in_lines line [] y h = absurd (omega (arith, h.1))
in_lines line (us ∷ text) y h = elim (Contains-append_cases (placed_on line 0 us) (placed_from (line + 1) text) y h) [
  | inl t ↦ let r = on_columns line 0 us y t in (0, omega arith, omega arith, omega arith)
  | inr t ↦ let r = in_lines (line + 1) text y t in (suc r.0, omega arith, omega arith, r.3)
]

pub in_text : (text : List (List ℕ)) (y : Placed) → Contains (placed text) y
    → (y.place.line < length text) × (y.place.column < length (line_at text y.place.line))
in_text text y h =
    let r = in_lines 0 text y h in
    let e : r.0 ≡ y.place.line = omega arith in
    (omega arith, subst (λ n. y.place.column < length (line_at text n)) e r.3)

pub finding_there : (rule : Rule) (text : List (List ℕ)) (s : Ends) → IsFinding rule text s → s.start.line < length text
finding_there (Word word) text s h = h.there
finding_there Blanks text s h = h.there
finding_there (Long limit) text s h = h.there
finding_there Pairs text s h = subst (λ x. x.start.line < length text) (sym h.whole) ((in_text text h.bracket h.lone.there).0)
finding_there Repeat text s h = h.there

pub finding_same : (rule : Rule) (text : List (List ℕ)) (s : Ends) → IsFinding rule text s → s.end.line ≡ s.start.line
finding_same (Word word) text s h = h.same
finding_same Blanks text s h = h.same
finding_same (Long limit) text s h = h.same
finding_same Pairs text s h = subst (λ (x : Ends). x.end.line ≡ x.start.line) (sym h.whole) refl
finding_same Repeat text s h = h.same

pub finding_some : (rule : Rule) (text : List (List ℕ)) (s : Ends) → HasWord rule → IsFinding rule text s → s.start.column < s.end.column
finding_some (Word word) text s w h = let whole = h.found.whole in omega arith
finding_some Blanks text s w h = h.found.some
finding_some (Long limit) text s w h = h.found.some
finding_some Pairs text s w h = subst (λ (x : Ends). x.start.column < x.end.column) (sym h.whole) (omega arith)
finding_some Repeat text s w h = h.found.word.some

pub finding_within : (rule : Rule) (text : List (List ℕ)) (s : Ends) → IsFinding rule text s → s.end.column ≤ length (line_at text s.start.line)
finding_within (Word word) text s h = let whole = h.found.whole in let inside = h.found.found.within in omega arith
finding_within Blanks text s h = let whole = h.found.whole in omega arith
finding_within (Long limit) text s h = let whole = h.found.whole in omega arith
finding_within Pairs text s h =
    let inside = (in_text text h.bracket h.lone.there).1 in
    subst (λ (x : Ends). x.end.column ≤ length (line_at text x.start.line)) (sym h.whole) (omega arith)
finding_within Repeat text s h = h.found.word.within
