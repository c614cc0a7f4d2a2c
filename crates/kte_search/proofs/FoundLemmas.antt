-- What is picked from the list of all matches of a query.
use Rattle.std.proofs.Common.{◌≡◌, ℕ, zero, suc, ◌+◌, ◌<◌, ◌≤◌, Bool, true, false, cond, List, [], ◌∷◌, ◌++◌, length, map, filter, reverse, take, Option, None, Some, IsTrue, inl, inr, ◌⊎◌, if◌then◌else◌, refl, sym, ap, subst, ◌∙◌, arith}
use Rattle.std.specs.List.{find, range_with_len}
use Rattle.std.proofs.lemmas.Bool.{true≢false}
use Rattle.std.proofs.lemmas.Bool.Decides.{nat_tests}
use Rattle.std.proofs.lemmas.List.{reverse-append}
use Rattle.kte_text.specs.Texts.{line_at}
use Rattle.kte_text.proofs.WordLemmas.{MatchesAt-matches, matches-MatchesAt}
use Rattle.kte_place.specs.declared.place.Place.{Place}
use Rattle.kte_place.specs.Ends.{Ends}
use Rattle.kte_place.specs.Place.{at, is_at_or_before, is_before}
use Rattle.kte_place.specs.Span.{ends}
use Rattle.kte_search.specs.declared.query.Query.{Query}
use Rattle.kte_search.specs.declared.search.TheConstants.{MAX_MATCHES}
use Rattle.kte_search.specs.Matches.{IsMatch, MatchesIn, IsFirst, IsLast, HasNoneFrom, HasNoneTo, AreAll, FollowFrom, end_of_last}
use Rattle.kte_search.specs.Found.{is_match_at, match_at, matches_on, matches_from, matches_of, first_match, last_match, apart, all_matches}

-- ---- lists

-- an element of a list
abbrev Has : List Ends → Ends → Type 0
Has [] s = ⊥
Has (x ∷ xs) s = (x ≡ s) ⊎ Has xs s

has_left : (xs ys : List Ends) (s : Ends) → Has xs s → Has (xs ++ ys) s
has_left [] ys s h = absurd h
has_left (x ∷ xs) ys s (inl e) = inl e
has_left (x ∷ xs) ys s (inr h) = inr (has_left xs ys s h)

has_right : (xs ys : List Ends) (s : Ends) → Has ys s → Has (xs ++ ys) s
has_right [] ys s h = h
has_right (x ∷ xs) ys s h = inr (has_right xs ys s h)

has_cases : (xs ys : List Ends) (s : Ends) → Has (xs ++ ys) s → Has xs s ⊎ Has ys s
has_cases [] ys s h = inr h
has_cases (x ∷ xs) ys s (inl e) = inl (inl e)
has_cases (x ∷ xs) ys s (inr h) = elim (has_cases xs ys s h) [
  | inl l ↦ inl (inr l)
  | inr r ↦ inr r
]

-- each element is so to the later ones
abbrev Ordered : (Ends → Ends → Type 0) → List Ends → Type 0
Ordered R [] = Unit {0}
Ordered R (x ∷ xs) = ((t : Ends) → Has xs t → R x t) × Ordered R xs

ordered_append : (R : Ends → Ends → Type 0) (xs ys : List Ends) → Ordered R xs → Ordered R ys
    → ((x y : Ends) → Has xs x → Has ys y → R x y) → Ordered R (xs ++ ys)
ordered_append R [] ys p q h = q
ordered_append R (x ∷ xs) ys p q h = (
  λ t has. elim (has_cases xs ys t has) [
    | inl l ↦ p.0 t l
    | inr r ↦ h x t (inl refl) r
  ],
  ordered_append R xs ys p.1 q (λ a b s t. h a b (inr s) t),
)

reverse-cons : (x : Ends) (xs : List Ends) → reverse (x ∷ xs) ≡ reverse xs ++ x ∷ []
reverse-cons x xs = reverse-append (x ∷ []) xs

has_reverse : (xs : List Ends) (s : Ends) → Has xs s → Has (reverse xs) s
has_reverse [] s h = h
has_reverse (x ∷ xs) s (inl e) = rw (reverse-cons x xs) (has_right (reverse xs) (x ∷ []) s (inl e))
has_reverse (x ∷ xs) s (inr h) = rw (reverse-cons x xs) (has_left (reverse xs) (x ∷ []) s (has_reverse xs s h))

reverse_has : (xs : List Ends) (s : Ends) → Has (reverse xs) s → Has xs s
reverse_has [] s h = h
reverse_has (x ∷ xs) s h =
    elim (has_cases (reverse xs) (x ∷ []) s (subst (λ (l : List Ends). Has l s) (reverse-cons x xs) h)) [
      | inl l ↦ inr (reverse_has xs s l)
      | inr (inl e) ↦ inl e
      | inr (inr none) ↦ absurd none
    ]

ordered_reverse : (R : Ends → Ends → Type 0) (xs : List Ends) → Ordered R xs → Ordered (λ x y. R y x) (reverse xs)
ordered_reverse R [] p = p
ordered_reverse R (x ∷ xs) p =
    rw (reverse-cons x xs)
    (ordered_append (λ a b. R b a) (reverse xs) (x ∷ []) (ordered_reverse R xs p.1) ((λ t none. absurd none), tt)
    (λ a b s t. last a b (reverse_has xs a s) t)) where
      last : (a b : Ends) → Has xs a → Has (x ∷ []) b → R b a
      last a b s (inl e) = subst (λ (y : Ends). R y a) e (p.0 a s)
      last a b s (inr none) = absurd none

-- the first that passes
record Picked (R : Ends → Ends → Type 0) (test : Ends → Bool) (xs : List Ends) (s : Ends) : Type 0 where
  has : Has xs s
  passes : test s ≡ true
  first : (t : Ends) → Has xs t → test t ≡ true → (s ≡ t) ⊎ R s t

picked : (R : Ends → Ends → Type 0) (test : Ends → Bool) (xs : List Ends) (s : Ends) → Ordered R xs → find test xs ≡ Some s → Picked R test xs s
picked R test [] s p e = absurd (cc)
picked R test (x ∷ xs) s p e = by_test (test x) refl e (λ later. picked R test xs s p.1 later) where
  by_test : (b : Bool) → test x ≡ b → cond b (Some x) (find test xs) ≡ Some s → (find test xs ≡ Some s → Picked R test xs s)
      → Picked R test (x ∷ xs) s
  by_test true is e others =
      let same : x ≡ s = cc in
      record {
        has = inl same;
        passes = ap test (sym same) ∙ is;
        first = λ t has h. elim has [
          | inl here ↦ inl (sym same ∙ here)
          | inr later ↦ inr (subst (λ (y : Ends). R y t) same (p.0 t later))
        ];
      }
  by_test false is e others =
      let rest = others e in
      record {
        has = inr rest.has;
        passes = rest.passes;
        first = λ t has h. elim has [
          | inl here ↦ absurd (true≢false (sym h ∙ (ap test (sym here) ∙ is)))
          | inr later ↦ rest.first t later h
        ];
      }

none_picked : (test : Ends → Bool) (xs : List Ends) → find test xs ≡ None → (t : Ends) → Has xs t → ¬ (test t ≡ true)
none_picked test [] e t has h = has
none_picked test (x ∷ xs) e t has h = by_test (test x) refl e (λ none later. none_picked test xs none t later h) where
  by_test : (b : Bool) → test x ≡ b → cond b (Some x) (find test xs) ≡ None → (find test xs ≡ None → Has xs t → ⊥) → ⊥
  by_test true is e others = absurd (cc)
  by_test false is e others = elim has [
    | inl here ↦ true≢false (sym h ∙ (ap test (sym here) ∙ is))
    | inr later ↦ others e later
  ]

-- ---- the list of matches

-- in order of their starts
abbrev Starts : Ends → Ends → Type 0
Starts s t = IsTrue (is_before s.start t.start)

module _ (q : Query) (line : ℕ) (units : List ℕ) where
  -- those at some columns of a line
  abbrev some_on : ℕ → ℕ → List Ends
  some_on a n = map (match_at q line) (filter (is_match_at q units) (range_with_len a n))

  sound_on : (a n : ℕ) (s : Ends) → Has (some_on a n) s
      → (c : ℕ) × (a ≤ c) × (c < a + n) × (is_match_at q units c ≡ true) × (match_at q line c ≡ s)
  sound_on a zero s h = absurd h
  sound_on a (suc n) s h =
      by_test (is_match_at q units a) refl
      (λ later. let r = sound_on (a + 1) n s later in (r.0, omega (arith, r.1), omega (arith, r.2), r.3, r.4)) h where
        by_test : (b : Bool) → is_match_at q units a ≡ b
            → (Has (some_on (a + 1) n) s → (c : ℕ) × (a ≤ c) × (c < a + suc n) × (is_match_at q units c ≡ true) × (match_at q line c ≡ s))
            → Has (map (match_at q line) (cond b (a ∷ filter (is_match_at q units) (range_with_len (a + 1) n)) (filter (is_match_at q units) (range_with_len (a + 1) n)))) s
            → (c : ℕ) × (a ≤ c) × (c < a + suc n) × (is_match_at q units c ≡ true) × (match_at q line c ≡ s)
        by_test true is later (inl e) = (a, omega arith, omega arith, is, e)
        by_test true is later (inr h) = later h
        by_test false is later h = later h

  complete_on : (a n c : ℕ) → a ≤ c → c < a + n → is_match_at q units c ≡ true → Has (some_on a n) (match_at q line c)
  complete_on a zero c l h is = absurd (omega arith)
  complete_on a (suc n) c l h is =
      by_test (is_match_at q units a) refl (grind arith) (λ m. complete_on (a + 1) n c m (omega arith) is) where
        by_test : (b : Bool) → is_match_at q units a ≡ b → (a ≡ c) ⊎ (a + 1 ≤ c) → (a + 1 ≤ c → Has (some_on (a + 1) n) (match_at q line c))
            → Has (map (match_at q line) (cond b (a ∷ filter (is_match_at q units) (range_with_len (a + 1) n)) (filter (is_match_at q units) (range_with_len (a + 1) n)))) (match_at q line c)
        by_test true at (inl e) later = inl (ap (match_at q line) e)
        by_test true at (inr m) later = inr (later m)
        by_test false at (inl e) later = absurd (true≢false (sym is ∙ (ap (is_match_at q units) (sym e) ∙ at)))
        by_test false at (inr m) later = later m

  before_on : (c d : ℕ) → c < d → Starts (match_at q line c) (match_at q line d)
  before_on c d l = grind (arith, nat_tests)

  ordered_on : (a n : ℕ) → Ordered Starts (some_on a n)
  ordered_on a zero = tt
  ordered_on a (suc n) = by_test (is_match_at q units a) (ordered_on (a + 1) n) where
    by_test : (b : Bool) → Ordered Starts (some_on (a + 1) n)
        → Ordered Starts (map (match_at q line) (cond b (a ∷ filter (is_match_at q units) (range_with_len (a + 1) n)) (filter (is_match_at q units) (range_with_len (a + 1) n))))
    by_test true later = (
      λ t h. let r = sound_on (a + 1) n t h in subst (λ (s : Ends). Starts (match_at q line a) s) r.4 (before_on a r.0 (omega (arith, r.1))),
      later,
    )
    by_test false later = later

-- a match of the lines from a number on
record Found (q : Query) (line : ℕ) (text : List (List ℕ)) (s : Ends) : Type 0 where
  n : ℕ
  column : ℕ
  inside : n < length text
  is : is_match_at q (line_at text n) column ≡ true
  same : match_at q (line + n) column ≡ s

sound_from : (q : Query) (line : ℕ) (text : List (List ℕ)) (s : Ends) → Has (matches_from q line text) s → Found q line text s
sound_from q line [] s h = absurd h
sound_from q line (units ∷ text) s h = elim (has_cases (matches_on q line units) (matches_from q (line + 1) text) s h) [
  | inl here ↦
      let r = sound_on q line units 0 (length units) s here in
      let l : line ≡ line + 0 = omega arith in
      record { n = 0; column = r.0; inside = omega arith; is = r.3; same = ap (λ k. match_at q k r.0) (sym l) ∙ r.4 }
  | inr later ↦
      let r = sound_from q (line + 1) text s later in
      let l : line + suc r.n ≡ line + 1 + r.n = omega arith in
      record { n = suc r.n; column = r.column; inside = omega (arith, r.inside); is = r.is; same = ap (λ k. match_at q k r.column) l ∙ r.same }
]

complete_from : (q : Query) (line : ℕ) (text : List (List ℕ)) (n column : ℕ) → n < length text → column < length (line_at text n)
    → is_match_at q (line_at text n) column ≡ true → Has (matches_from q line text) (match_at q (line + n) column)
complete_from q line [] n column h c is = absurd (omega arith)
complete_from q line (units ∷ text) zero column h c is =
    let l : line ≡ line + 0 = omega arith in
    has_left (matches_on q line units) (matches_from q (line + 1) text) _
    (subst (λ (k : ℕ). Has (matches_on q line units) (match_at q k column)) l
    (complete_on q line units 0 (length units) column (omega arith) (omega arith) is))
complete_from q line (units ∷ text) (suc n) column h c is =
    let l : line + 1 + n ≡ line + suc n = omega arith in
    has_right (matches_on q line units) (matches_from q (line + 1) text) _
    (subst (λ (k : ℕ). Has (matches_from q (line + 1) text) (match_at q k column)) l
    (complete_from q (line + 1) text n column (omega arith) c is))

earlier_line : (s t : Ends) → s.start.line < t.start.line → Starts s t
earlier_line s t l = grind (arith, nat_tests)

ordered_from : (q : Query) (line : ℕ) (text : List (List ℕ)) → Ordered Starts (matches_from q line text)
ordered_from q line [] = tt
ordered_from q line (units ∷ text) =
    ordered_append Starts (matches_on q line units) (matches_from q (line + 1) text) (ordered_on q line units 0 (length units))
    (ordered_from q (line + 1) text)
    (λ s t here later.
    let a = sound_on q line units 0 (length units) s here in
    let b = sound_from q (line + 1) text t later in
    let i = ap (λ (e : Ends). e.start.line) a.4 in
    let j = ap (λ (e : Ends). e.start.line) b.same in
    earlier_line s t (omega arith))

module _ (q : Query) (text : List (List ℕ)) where
  -- the list has the matches and nothing else
  pub is_in : (t : Ends) → 0 < length q.pattern → IsMatch q text t → Has (matches_of q text) t
  is_in t some m =
      let within = m.units.within in
      let is = matches-MatchesAt q.fold_case q.whole q.pattern (line_at text t.start.line) t.start.column m.units in
      let has = complete_from q 0 text t.start.line t.start.column m.line (omega arith) is in
      let line : 0 + t.start.line ≡ t.start.line = omega arith in
      let end = m.end in
      let same : match_at q (0 + t.start.line) t.start.column ≡ t =
      ap (λ k. match_at q k t.start.column) line ∙ ap (λ (p : Place). ends t.start p) (sym end) in
      subst (λ (s : Ends). Has (matches_of q text) s) same has

  pub is_match : (t : Ends) → Has (matches_of q text) t → IsMatch q text t
  is_match t has =
      let r = sound_from q 0 text t has in
      let line : 0 + r.n ≡ r.n = omega arith in
      let units = MatchesAt-matches q.fold_case q.whole q.pattern (line_at text r.n) r.column r.is in
      let here : IsMatch q text (match_at q r.n r.column) = record { line = r.inside; units = units; end = refl } in
      subst (λ (s : Ends). IsMatch q text s) (ap (λ k. match_at q k r.column) (sym line) ∙ r.same) here

  start_first : (s t : Ends) → (s ≡ t) ⊎ Starts s t → IsTrue (is_at_or_before s.start t.start)
  start_first s t (inl e) = subst (λ (x : Ends). IsTrue (is_at_or_before s.start x.start)) e (itself s.start) where
    itself : (p : Place) → IsTrue (is_at_or_before p p)
    itself p = grind (arith, nat_tests)
  start_first s t (inr l) = grind (arith, nat_tests)

  pub picks_first : (from : Place) (s : Ends) → 0 < length q.pattern → first_match q text from ≡ Some s → IsFirst q text from s
  picks_first from s some e =
      let it = picked Starts (λ x. is_at_or_before from x.start) (matches_of q text) s (ordered_from q 0 text) e in
      record {
        is_match = is_match s it.has;
        after = it.passes;
        least = λ t m a. start_first s t (it.first t (is_in t some m) a);
      }

  pub picks_no_first : (from : Place) → 0 < length q.pattern → first_match q text from ≡ None → HasNoneFrom q text from
  picks_no_first from some e t m a = none_picked (λ x. is_at_or_before from x.start) (matches_of q text) e t (is_in t some m) a

  pub picks_last : (before : Place) (s : Ends) → 0 < length q.pattern → last_match q text before ≡ Some s → IsLast q text before s
  picks_last before s some e =
      let it = picked (λ x y. Starts y x) (λ x. is_at_or_before x.end before) (reverse (matches_of q text)) s
      (ordered_reverse Starts (matches_of q text) (ordered_from q 0 text)) e in
      record {
        is_match = is_match s (reverse_has (matches_of q text) s it.has);
        inside = it.passes;
        greatest = λ t m a. last_first t s (it.first t (has_reverse (matches_of q text) t (is_in t some m)) a);
      } where
        last_first : (t s : Ends) → (s ≡ t) ⊎ Starts t s → IsTrue (is_at_or_before t.start s.start)
        last_first t s (inl e) = start_first t s (inl (sym e))
        last_first t s (inr l) = start_first t s (inr l)

  pub picks_no_last : (before : Place) → 0 < length q.pattern → last_match q text before ≡ None → HasNoneTo q text before
  picks_no_last before some e t m a =
      none_picked (λ x. is_at_or_before x.end before) (reverse (matches_of q text)) e t
      (has_reverse (matches_of q text) t (is_in t some m)) a

  -- ---- all of them

  -- a list that has each match from a place on, in order
  record Lists (from : Place) (xs : List Ends) : Type 0 where
    ordered : Ordered Starts xs
    sound : (t : Ends) → Has xs t → IsMatch q text t
    complete : (t : Ends) → IsMatch q text t → IsTrue (is_at_or_before from t.start) → Has xs t

  le_trans : (a b c : Place) → IsTrue (is_at_or_before a b) → IsTrue (is_at_or_before b c) → IsTrue (is_at_or_before a c)
  le_trans a b c x y = grind (arith, nat_tests)

  in_line : (p : Place) (n : ℕ) → IsTrue (is_at_or_before p (at p.line (p.column + n)))
  in_line p n = grind (arith, nat_tests)

  not_back : (p : Place) (n : ℕ) → 0 < n → IsTrue (is_at_or_before (at p.line (p.column + n)) p) → ⊥
  not_back p n some h = grind (arith, nat_tests)

  start_end : (s : Ends) → IsMatch q text s → IsTrue (is_at_or_before s.start s.end)
  start_end s m = let end = m.end in rw end (in_line s.start (length q.pattern))

  end_start : (s : Ends) → 0 < length q.pattern → IsMatch q text s → IsTrue (is_at_or_before s.end s.start) → ⊥
  end_start s some m h = let end = m.end in not_back s.start (length q.pattern) some (rw end at h)

  -- after the first of them was taken, and after one was left out
  lists_taken : (from : Place) (x : Ends) (xs : List Ends) → 0 < length q.pattern → Lists from (x ∷ xs) → is_at_or_before from x.start ≡ true → Lists x.end xs
  lists_taken from x xs some l is =
      let m = l.sound x (inl refl) in
      record {
        ordered = l.ordered.1;
        sound = λ t has. l.sound t (inr has);
        complete = λ t n a. elim (l.complete t n (le_trans from x.start t.start is (le_trans x.start x.end t.start (start_end x m) a))) [
          | inl e ↦ absurd (end_start x some m (subst (λ (y : Ends). IsTrue (is_at_or_before x.end y.start)) (sym e) a))
          | inr has ↦ has
        ];
      }

  lists_left : (from : Place) (x : Ends) (xs : List Ends) → Lists from (x ∷ xs) → is_at_or_before from x.start ≡ false → Lists from xs
  lists_left from x xs l is = record {
    ordered = l.ordered.1;
    sound = λ t has. l.sound t (inr has);
    complete = λ t n a. elim (l.complete t n a) [
      | inl e ↦ absurd (true≢false (sym a ∙ (ap (λ (y : Ends). is_at_or_before from y.start) (sym e) ∙ is)))
      | inr has ↦ has
    ];
  }

  first_of : (from : Place) (x : Ends) (xs : List Ends) → Lists from (x ∷ xs) → is_at_or_before from x.start ≡ true → IsFirst q text from x
  first_of from x xs l is = record {
    is_match = l.sound x (inl refl);
    after = is;
    least = λ t m a. start_first x t (elim (l.complete t m a) [
      | inl e ↦ inl e
      | inr has ↦ inr (l.ordered.0 t has)
    ]);
  }

  follow_apart : (from : Place) (xs : List Ends) → 0 < length q.pattern → Lists from xs → FollowFrom q text from (apart from xs)
  follow_apart from [] some l = tt
  follow_apart from (x ∷ xs) some l =
      by_test (is_at_or_before from x.start) refl (λ is. follow_apart x.end xs some (lists_taken from x xs some l is))
      (λ is. follow_apart from xs some (lists_left from x xs l is)) where
        by_test : (b : Bool) → is_at_or_before from x.start ≡ b
            → (is_at_or_before from x.start ≡ true → FollowFrom q text x.end (apart x.end xs))
            → (is_at_or_before from x.start ≡ false → FollowFrom q text from (apart from xs))
            → FollowFrom q text from (if b then x ∷ apart x.end xs else apart from xs)
        by_test true is taken left = (first_of from x xs l is, taken is)
        by_test false is taken left = left is

  none_apart : (from : Place) (xs : List Ends) → 0 < length q.pattern → Lists from xs → HasNoneFrom q text (end_of_last from (apart from xs))
  none_apart from [] some l = λ t m a. l.complete t m a
  none_apart from (x ∷ xs) some l =
      by_test (is_at_or_before from x.start) refl (λ is. none_apart x.end xs some (lists_taken from x xs some l is))
      (λ is. none_apart from xs some (lists_left from x xs l is)) where
        by_test : (b : Bool) → is_at_or_before from x.start ≡ b
            → (is_at_or_before from x.start ≡ true → HasNoneFrom q text (end_of_last x.end (apart x.end xs)))
            → (is_at_or_before from x.start ≡ false → HasNoneFrom q text (end_of_last from (apart from xs)))
            → HasNoneFrom q text (end_of_last from (if b then x ∷ apart x.end xs else apart from xs))
        by_test true is taken left = taken is
        by_test false is taken left = left is

  follow_take : (n : ℕ) (from : Place) (xs : List Ends) → FollowFrom q text from xs → FollowFrom q text from (take n xs)
  follow_take zero from xs h = tt
  follow_take (suc n) from [] h = tt
  follow_take (suc n) from (x ∷ xs) h = (h.0, follow_take n x.end xs h.1)

  few_taken : (n : ℕ) (xs : List Ends) → length (take n xs) ≤ n
  few_taken zero xs = omega arith
  few_taken (suc n) [] = omega arith
  few_taken (suc n) (x ∷ xs) = let rest = few_taken n xs in omega arith

  all_taken : (n : ℕ) (xs : List Ends) → length (take n xs) < n → take n xs ≡ xs
  all_taken zero xs h = absurd (omega arith)
  all_taken (suc n) [] h = refl
  all_taken (suc n) (x ∷ xs) h = ap (λ l. x ∷ l) (all_taken n xs (omega arith))

  pub picks_all : 0 < length q.pattern → AreAll q text (all_matches q text)
  picks_all some =
      let lists : Lists (at 0 0) (matches_of q text) =
      record { ordered = ordered_from q 0 text; sound = is_match; complete = λ t m a. is_in t some m } in
      let xs = apart (at 0 0) (matches_of q text) in
      record {
        in_order = follow_take MAX_MATCHES (at 0 0) xs (follow_apart (at 0 0) (matches_of q text) some lists);
        few = few_taken MAX_MATCHES xs;
        whole = λ h. subst (λ (l : List Ends). HasNoneFrom q text (end_of_last (at 0 0) l)) (sym (all_taken MAX_MATCHES xs h))
            (none_apart (at 0 0) (matches_of q text) some lists);
      }
