-- The least number of the folds that cross a span, by the places of folds.
use Rattle.std.proofs.Common.{◌≡◌, ℕ, zero, suc, ◌+◌, ◌<◌, ◌≤◌, ◌⊎◌, Bool, true, false, ◌&&◌, ◌||◌, List, [], ◌∷◌, length, slice_index, Option, None, Some, IsTrue, if◌then◌else◌, min, inl, inr, refl, sym, subst, ap, arith}
use Rattle.std.proofs.lemmas.Bool.Decides.{nat_tests}
use Rattle.std.specs.FinMap.{get}
use Rattle.kte_place.specs.declared.place.Place.{Place}
use Rattle.kte_place.specs.Ends.{Ends}
use Rattle.kte_place.specs.Place.{is_at_or_before, is_before}
use Rattle.kte_fold.specs.Folds.{Spans, crosses, is_crossed, lesser, least_crossed}
use Rattle.kte_fold.specs.Tree.{KeepsTree, LiesIn, span_at}
use Rattle.kte_fold.specs.Inside.{IsOutline, NoneCross, IsLeast, is_clear}
use Rattle.kte_fold.proofs.PlaceLemmas.{le_trans, lt_le, lt_trans_le, lt_not_le}

either : (k at : ℕ) → (k < at) ⊎ (at ≤ k)
either k at = grind arith

-- what a search for the least one finds among the first so many
abbrev pub Found : Spans → Ends → List ℕ → ℕ → Option ℕ → Type 0
Found spans s numbers bound None = NoneCross spans numbers s bound
Found spans s numbers bound (Some id) = IsLeast spans numbers s bound id

module _ (spans : Spans) (s : Ends) where
  one_more : (id : ℕ) (rest : List ℕ) (b : Bool) (o : Option ℕ) → is_crossed (get spans id) s ≡ b → Found spans s rest (length rest) o
      → Found spans s (id ∷ rest) (length (id ∷ rest)) (if b then Some (lesser id o) else o)
  one_more id rest true None e f = record {
    place = 0;
    bounded = omega arith;
    is_number = refl;
    is_crossing = e;
    least = first;
  } where
    first : (k : ℕ) → k < length (id ∷ rest) → is_crossed (span_at spans (id ∷ rest) k) s ≡ true → id ≤ slice_index (id ∷ rest) k
    first zero h x = omega arith
    first (suc k) h x = let n = f k (omega arith) in absurd (cc)
  one_more id rest true (Some m) e f = elim (order id m) [
    | inl h ↦ record {
      place = 0;
      bounded = omega arith;
      is_number = omega arith;
      is_crossing = e;
      least = first;
    }
    | inr h ↦ record {
      place = suc f.place;
      bounded = let b = f.bounded in omega arith;
      is_number = let n = f.is_number in omega arith;
      is_crossing = f.is_crossing;
      least = first;
    }
  ] where
    order : (a b : ℕ) → (a ≤ b) ⊎ (b < a)
    order a b = grind arith

    first : (k : ℕ) → k < length (id ∷ rest) → is_crossed (span_at spans (id ∷ rest) k) s ≡ true → min id m ≤ slice_index (id ∷ rest) k
    first zero h x = omega arith
    first (suc k) h x = let l = f.least k (omega arith) x in omega arith
  one_more id rest false None e f = none where
    none : (k : ℕ) → k < length (id ∷ rest) → is_crossed (span_at spans (id ∷ rest) k) s ≡ false
    none zero h = e
    none (suc k) h = f k (omega arith)
  one_more id rest false (Some m) e f = record {
    place = suc f.place;
    bounded = let b = f.bounded in omega arith;
    is_number = f.is_number;
    is_crossing = f.is_crossing;
    least = later;
  } where
    later : (k : ℕ) → k < length (id ∷ rest) → is_crossed (span_at spans (id ∷ rest) k) s ≡ true → m ≤ slice_index (id ∷ rest) k
    later zero h x = absurd (cc)
    later (suc k) h x = f.least k (omega arith) x

  -- the definition finds it
  pub least_found : (numbers : List ℕ) → Found spans s numbers (length numbers) (least_crossed spans s numbers)
  least_found [] = λ k h. absurd (omega arith)
  least_found (id ∷ rest) =
      one_more id rest (is_crossed (get spans id) s) (least_crossed spans s rest) refl (least_found rest)

  -- there is one least
  pub one_least : (numbers : List ℕ) (bound : ℕ) (a b : Option ℕ) → Found spans s numbers bound a → Found spans s numbers bound b → a ≡ b
  one_least numbers bound None None f g = refl
  one_least numbers bound None (Some n) f g = let x = f g.place g.bounded in let y = g.is_crossing in absurd (cc)
  one_least numbers bound (Some m) None f g = let x = g f.place f.bounded in let y = f.is_crossing in absurd (cc)
  one_least numbers bound (Some m) (Some n) f g =
      let x = f.least g.place g.bounded g.is_crossing in
      let y = g.least f.place f.bounded f.is_crossing in
      let p = f.is_number in
      let q = g.is_number in
      let same : m ≡ n = omega arith in cc

  pub none_cross : (numbers : List ℕ) → least_crossed spans s numbers ≡ None → NoneCross spans numbers s (length numbers)
  none_cross numbers h = subst (Found spans s numbers (length numbers)) h (least_found numbers)

  -- folds that do not cross the span change nothing
  pub found_past : (numbers : List ℕ) (at next : ℕ) (o : Option ℕ) → Found spans s numbers at o → at ≤ next
      → ((k : ℕ) → at ≤ k → k < next → is_crossed (span_at spans numbers k) s ≡ false)
      → Found spans s numbers next o
  found_past numbers at next None f le h = λ k l. elim (either k at) [ inl b ↦ f k b | inr a ↦ h k a l ]
  found_past numbers at next (Some id) f le h = record {
    place = f.place;
    bounded = let b = f.bounded in omega arith;
    is_number = f.is_number;
    is_crossing = f.is_crossing;
    least = λ k l x. elim (either k at) [ inl b ↦ f.least k b x | inr a ↦ let y = h k a l in absurd (clash _ x y) ];
  } where
    clash : (b : Bool) → b ≡ true → b ≡ false → ⊥
    clash b p q = cc

  -- one more that crosses it
  pub found_more : (numbers : List ℕ) (at : ℕ) (o : Option ℕ) → Found spans s numbers at o
      → is_crossed (span_at spans numbers at) s ≡ true
      → Found spans s numbers (at + 1) (Some (lesser (slice_index numbers at) o))
  found_more numbers at None f h = record {
    place = at;
    bounded = omega arith;
    is_number = refl;
    is_crossing = h;
    least = λ k l x. elim (either k at) [
      | inl b ↦ let y = f k b in absurd (clash _ x y)
      | inr a ↦ let e : k ≡ at = omega arith in let g = ap (slice_index numbers) e in omega arith
    ];
  } where
    clash : (b : Bool) → b ≡ true → b ≡ false → ⊥
    clash b p q = cc
  found_more numbers at (Some m) f h = elim (order (slice_index numbers at) m) [
    | inl le ↦ record { place = at; bounded = omega arith; is_number = omega arith; is_crossing = h; least = first }
    | inr lt ↦ record {
      place = f.place;
      bounded = let b = f.bounded in omega arith;
      is_number = let n = f.is_number in omega arith;
      is_crossing = f.is_crossing;
      least = first;
    }
  ] where
    order : (a b : ℕ) → (a ≤ b) ⊎ (b < a)
    order a b = grind arith

    first : (k : ℕ) → k < at + 1 → is_crossed (span_at spans numbers k) s ≡ true → min (slice_index numbers at) m ≤ slice_index numbers k
    first k l x = elim (either k at) [
      | inl b ↦ let y = f.least k b x in omega arith
      | inr a ↦ let e : k ≡ at = omega arith in let g = ap (slice_index numbers) e in omega arith
    ]

-- what a crossing and a clear fold are, as cases
crossing_tells : (a s : Ends) → crosses a s ≡ true
    → (IsTrue (is_before s.start a.start) × IsTrue (is_before a.start s.end) × IsTrue (is_before s.end a.end))
    ⊎ (IsTrue (is_before a.start s.start) × IsTrue (is_before s.start a.end) × IsTrue (is_before a.end s.end))
crossing_tells a s h =
    by_tests (is_before s.start a.start) (is_before a.start s.end) (is_before s.end a.end) (is_before a.start s.start)
    (is_before s.start a.end) (is_before a.end s.end) h where
      three : (x y z : Bool) → ((x && y) && (y && z)) ≡ true → (x ≡ true) × (y ≡ true) × (z ≡ true)
      three true true true h = (refl, refl, refl)
      three true true false h = absurd (cc)
      three true false z h = absurd (cc)
      three false y z h = absurd (cc)

      either_one : (x y : Bool) → (x || y) ≡ true → (x ≡ true) ⊎ (y ≡ true)
      either_one true y h = inl refl
      either_one false y h = inr h

      by_tests : (x y z u v w : Bool) → (((x && y) && (y && z)) || ((u && v) && (v && w))) ≡ true
          → (IsTrue x × IsTrue y × IsTrue z) ⊎ (IsTrue u × IsTrue v × IsTrue w)
      by_tests x y z u v w h = elim (either_one ((x && y) && (y && z)) ((u && v) && (v && w)) h) [
        | inl a ↦ inl (three x y z a)
        | inr b ↦ inr (three u v w b)
      ]

clear_tells : (a s : Ends) → is_clear (Some a) s ≡ true
    → IsTrue (is_at_or_before a.end s.start) ⊎ (IsTrue (is_at_or_before s.end a.start)
    ⊎ (IsTrue (is_at_or_before s.start a.start) × IsTrue (is_at_or_before a.end s.end)))
clear_tells a s h =
    by_tests (is_at_or_before a.end s.start) (is_at_or_before s.end a.start) (is_at_or_before s.start a.start)
    (is_at_or_before a.end s.end) h where
      by_tests : (x y z w : Bool) → ((x || y) || (z && w)) ≡ true → IsTrue x ⊎ (IsTrue y ⊎ (IsTrue z × IsTrue w))
      by_tests true y z w h = inl refl
      by_tests false true z w h = inr (inl refl)
      by_tests false false true true h = inr (inr (refl, refl))
      by_tests false false true false h = absurd (cc)
      by_tests false false false w h = absurd (cc)

not_true : (b : Bool) → ¬ (b ≡ true) → b ≡ false
not_true true h = absurd (h refl)
not_true false h = refl

-- nothing that lies in a clear fold crosses the span
pub clear_free : (o f : Option Ends) (s : Ends) → LiesIn o f → is_clear f s ≡ true → is_crossed o s ≡ false
clear_free None f s l h = refl
clear_free (Some g) None s l h = absurd l
clear_free (Some g) (Some f) s l h = not_true (crosses g s) (λ x. elim (crossing_tells g s x) [
  | inl c ↦ elim (clear_tells f s h) [
    | inl a ↦ lt_not_le s.start g.start c.0 (le_trans g.start g.end s.start (lt_le g.start g.end (lt_trans_le g.start s.end g.end c.1 (lt_le s.end g.end c.2))) (le_trans g.end f.end s.start l.1 a))
    | inr r ↦ elim r [
      | inl b ↦ lt_not_le g.start s.end c.1 (le_trans s.end f.start g.start b l.0)
      | inr d ↦ lt_not_le s.end g.end c.2 (le_trans g.end f.end s.end l.1 d.1)
    ]
  ]
  | inr c ↦ elim (clear_tells f s h) [
    | inl a ↦ lt_not_le s.start g.end c.1 (le_trans g.end f.end s.start l.1 a)
    | inr r ↦ elim r [
      | inl b ↦ lt_not_le g.start s.start c.0 (le_trans s.start s.end g.start (lt_le s.start s.end (lt_trans_le s.start g.end s.end c.1 (lt_le g.end s.end c.2))) (le_trans s.end f.start g.start b l.0))
      | inr d ↦ lt_not_le g.start s.start c.0 (le_trans s.start f.start g.start d.0 l.0)
    ]
  ]
])

pub lies_self : (o : Option Ends) → LiesIn o o
lies_self None = tt
lies_self (Some a) = (le_self a.start, le_self a.end) where
  le_self : (p : Place) → IsTrue (is_at_or_before p p)
  le_self p = grind (arith, nat_tests)

-- a fold that is clear of the span, and all that is inside it
pub clear_past : (spans : Spans) (numbers inside : List ℕ) (s : Ends) (at : ℕ) → IsOutline numbers inside → KeepsTree spans numbers inside
    → at < length numbers → is_clear (span_at spans numbers at) s ≡ true
    → (k : ℕ) → at ≤ k → k < at + (1 + slice_index inside at) → is_crossed (span_at spans numbers k) s ≡ false
clear_past spans numbers inside s at outline kept there h k a l = elim (either k at) [
  | inl b ↦ absurd (omega arith)
  | inr b ↦ elim (either at k) [
    | inl c ↦
        let fit = outline.fits at there in
        clear_free (span_at spans numbers k) (span_at spans numbers at) s (kept.nested at k (omega arith) (c, omega arith)) h
    | inr c ↦
        let e : k ≡ at = omega arith in
        subst (λ (n : ℕ). is_crossed (span_at spans numbers n) s ≡ false) (sym e)
        (clear_free (span_at spans numbers at) (span_at spans numbers at) s (lies_self (span_at spans numbers at)) h)
  ]
]
