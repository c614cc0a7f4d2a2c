-- Runs of blanks and of word units: where one begins and ends.
use Rattle.std.proofs.Common.{◌≡◌, ℕ, ◌-◌, ◌<◌, ◌≤◌, Bool, true, false, ◌&&◌, nat_lt, nat_eq, List, length, slice_index, slice_range, ◌⊎◌, inl, inr, refl, sym, subst, arith}
use Rattle.std.proofs.lemmas.Bool.{cases_order, cases_lt, and_from, and_parts, lt-ltb, or_cases, eqb-true, both_ways, false_from_ne_true}
use Rattle.std.proofs.lemmas.Bool.Decides.{Decides-eqb, not_from_Decides}
use Rattle.std.specs.Bool.{Decides}
use Rattle.std.proofs.lemmas.Slice.Eq.{slice_eq-Decides}
use Rattle.std.specs.Cmp.Lexicographic.{pointwise}
use Rattle.kte_text.specs.Words.{is_word_unit, has_word_before, has_word_at}
use Rattle.kte_find.specs.OnLine.{EachUnit, is_blank, has_blank_before, IsBlankEnd, IsRepeated}

pub blank_is_no_word : (unit : ℕ) → is_blank unit ≡ true → is_word_unit unit ≡ false
blank_is_no_word unit h = elim (or_cases _ _ h) [
  | inl e ↦ subst (λ u. is_word_unit u ≡ false) (sym (eqb-true unit 32 e)) refl
  | inr e ↦ subst (λ u. is_word_unit u ≡ false) (sym (eqb-true unit 9 e)) refl
]

-- no unit before the column passes, if none stands there that does
none_before : (test : ℕ → Bool) (units : List ℕ) (column : ℕ)
    → (nat_lt 0 column && test (slice_index units (column - 1))) ≡ false → 0 < column
    → test (slice_index units (column - 1)) ≡ true → ⊥
none_before test units column h some is = both_ways _ h (and_from _ _ (lt-ltb 0 column some) is)

none_at : (test : ℕ → Bool) (units : List ℕ) (column : ℕ)
    → (nat_lt column (length units) && test (slice_index units column)) ≡ false → column < length units
    → test (slice_index units column) ≡ true → ⊥
none_at test units column h some is = both_ways _ h (and_from _ _ (lt-ltb column (length units) some) is)

-- a run that ends at a column begins at one column only
pub one_start : (test : ℕ → Bool) (units : List ℕ) (a b end : ℕ) → a ≤ end → b ≤ end
    → EachUnit test units a end → EachUnit test units b end
    → (nat_lt 0 a && test (slice_index units (a - 1))) ≡ false
    → (nat_lt 0 b && test (slice_index units (b - 1))) ≡ false → a ≡ b
one_start test units a b end la lb ea eb ha hb = elim (cases_order a b) [
  | inl e ↦ e
  | inr t ↦ elim t [
    | inl u ↦ absurd (none_before test units b hb (omega arith) (ea (b - 1) (omega arith) (omega arith)))
    | inr u ↦ absurd (none_before test units a ha (omega arith) (eb (a - 1) (omega arith) (omega arith)))
  ]
]

-- .. and one that begins at a column ends at one
pub one_end : (test : ℕ → Bool) (units : List ℕ) (start a b : ℕ) → start ≤ a → start ≤ b
    → a ≤ length units → b ≤ length units
    → EachUnit test units start a → EachUnit test units start b
    → (nat_lt a (length units) && test (slice_index units a)) ≡ false
    → (nat_lt b (length units) && test (slice_index units b)) ≡ false → a ≡ b
one_end test units start a b sa sb la lb ea eb ha hb = elim (cases_order a b) [
  | inl e ↦ e
  | inr t ↦ elim t [
    | inl u ↦ absurd (none_at test units a ha (omega arith) (eb a (omega arith) (omega arith)))
    | inr u ↦ absurd (none_at test units b hb (omega arith) (ea b (omega arith) (omega arith)))
  ]
]

-- the blanks between a repeated word and the one before it begin where that one ends
module _ (units : List ℕ) (start end : ℕ) (h : IsRepeated units start end) where
  last_is_word : is_word_unit (slice_index units (h.other_end - 1)) ≡ true
  last_is_word = let some = h.other.some in h.other.word (h.other_end - 1) (omega arith) (omega arith)

  no_blank_before : has_blank_before units h.other_end ≡ false
  no_blank_before = false_from_ne_true _ (λ t. both_ways _ (blank_is_no_word (slice_index units (h.other_end - 1)) ((and_parts (nat_lt 0 h.other_end) _ t).1)) last_is_word)

  pub blanks_begin : (blanks : ℕ) → blanks ≤ start → EachUnit is_blank units blanks start
      → has_blank_before units blanks ≡ false → blanks ≡ h.other_end
  blanks_begin blanks le each first = one_start is_blank units blanks h.other_end start le h.before each h.between first no_blank_before

  pub other_begins : (word : ℕ) → word ≤ h.other_end → EachUnit is_word_unit units word h.other_end
      → has_word_before units word ≡ false → word ≡ h.other_start
  other_begins word le each first =
      let some = h.other.some in
      one_start is_word_unit units word h.other_start h.other_end le (omega arith) each h.other.word first h.other.first

  -- .. and there are some
  pub apart : h.other_end < start
  apart = elim (cases_lt h.other_end start) [
    | inl t ↦ t
    | inr t ↦
        let e : h.other_end ≡ start = let b = h.before in omega arith in
        let some = h.other.some in
        absurd (none_before is_word_unit units start h.word.first (omega arith) (subst (λ n. is_word_unit (slice_index units (n - 1)) ≡ true) e last_is_word))
  ]

  pub word_ends : (stop : ℕ) → start ≤ stop → stop ≤ length units → EachUnit is_word_unit units start stop
      → has_word_at units stop ≡ false → stop ≡ end
  word_ends stop le within each last =
      let some = h.word.some in
      one_end is_word_unit units start stop end le (omega arith) within h.word.within each h.word.word last h.word.last

-- the blanks at a line's end, from where they begin
module _ (units : List ℕ) (start : ℕ) (each : EachUnit is_blank units start (length units))
    (first : has_blank_before units start ≡ false) where
  pub blank_end : start < length units → IsBlankEnd units start (length units)
  blank_end some = record { some = some; whole = refl; blank = each; first = first }

  pub one_blank_end : start ≤ length units → (s e : ℕ) → IsBlankEnd units s e → (start ≡ s) × (length units ≡ e)
  one_blank_end le s e h =
      let to_end = h.whole in
      let some = h.some in
      (one_start is_blank units start s (length units) le (omega arith) each (subst (λ n. EachUnit is_blank units s n) to_end h.blank) first h.first, sym to_end)

  pub no_blank_end : length units ≤ start → start ≤ length units → (s e : ℕ) → IsBlankEnd units s e → ⊥
  no_blank_end past le s e h =
      let only = one_blank_end le s e h in
      let some = h.some in
      omega arith

-- a repeated word has one end
pub one_repeat : (units : List ℕ) (start end other : ℕ) → IsRepeated units start end → IsRepeated units start other → end ≡ other
one_repeat units start end other h k =
    let some = h.word.some in
    word_ends units start other k end (omega arith) h.word.within h.word.word h.word.last

-- no word is repeated without blanks before it
pub none_without_blanks : (units : List ℕ) (start other_end : ℕ) → other_end ≤ start
    → EachUnit is_blank units other_end start → has_blank_before units other_end ≡ false
    → other_end ≡ start → (e : ℕ) → IsRepeated units start e → ⊥
none_without_blanks units start other_end order blanks first same e h =
    let ends = blanks_begin units start e h other_end order blanks first in
    let gap = apart units start e h in
    omega arith

-- the word that a repeated one equals
module _ (units : List ℕ) (start other_start other_end : ℕ)
    (is : is_word_unit (slice_index units start) ≡ true) (there : start < length units)
    (blanks : EachUnit is_blank units other_end start) (first_blank : has_blank_before units other_end ≡ false)
    (order : other_end ≤ start)
    (other : EachUnit is_word_unit units other_start other_end) (first : has_word_before units other_start ≡ false)
    (other_order : other_start ≤ other_end) where
  -- no word is repeated, if no blank or no word stands before it
  pub none_repeated : (other_end ≡ start) ⊎ (other_start ≡ other_end) → (e : ℕ) → IsRepeated units start e → ⊥
  none_repeated none e h =
      let ends = blanks_begin units start e h other_end order blanks first_blank in
      let gap = apart units start e h in
      elim none [
        | inl t ↦ omega arith
        | inr t ↦
            let begins = other_begins units start e h other_start (omega arith)
            (subst (λ n. EachUnit is_word_unit units other_start n) ends other) first in
            let some = h.other.some in
            omega arith
      ]

  module _ (end : ℕ) (gap : (other_end ≡ start) → ⊥) (some : (other_start ≡ other_end) → ⊥)
      (stop_order : start ≤ end) (within : end ≤ length units)
      (word : EachUnit is_word_unit units start end) (last : has_word_at units end ≡ false) where
    parts : (xs ys : List ℕ) (r : Bool) → r ≡ pointwise nat_eq xs ys → Decides r (xs ≡ ys)
    parts xs ys r e = slice_eq-Decides Decides-eqb xs ys r e

    -- the unit before a word after blanks is a blank
    blank_before : has_word_before units start ≡ false
    blank_before = false_from_ne_true _ (λ t. both_ways _
        (blank_is_no_word (slice_index units (start - 1)) (blanks (start - 1) (omega arith) (omega arith)))
        ((and_parts (nat_lt 0 start) _ t).1))

    blank_after : has_word_at units other_end ≡ false
    blank_after = false_from_ne_true _ (λ t. both_ways _
        (blank_is_no_word (slice_index units other_end) (blanks other_end (omega arith) (omega arith)))
        ((and_parts (nat_lt other_end (length units)) _ t).1))

    longer : start < end
    longer = elim (cases_lt start end) [
      | inl t ↦ t
      | inr t ↦ let e : end ≡ start = omega arith in
          absurd (none_at is_word_unit units start (subst (λ n. has_word_at units n ≡ false) e last) there is)
    ]

    pub is_repeated : (r : Bool) → r ≡ pointwise nat_eq (slice_range units start end) (slice_range units other_start other_end)
        → r ≡ true → IsRepeated units start end
    is_repeated r e t = record {
      word = record { some = longer; within = within; word = word; first = blank_before; last = last };
      other_start = other_start;
      other_end = other_end;
      other = record { some = omega arith; within = omega arith; word = other; first = first; last = blank_after };
      before = order;
      between = blanks;
      same = (parts (slice_range units start end) (slice_range units other_start other_end) r e).0 t;
    }

    pub not_repeated : (r : Bool) → r ≡ pointwise nat_eq (slice_range units start end) (slice_range units other_start other_end)
        → r ≡ false → (e : ℕ) → IsRepeated units start e → ⊥
    not_repeated r e t stop h =
        let ends = blanks_begin units start stop h other_end order blanks first_blank in
        let begins = other_begins units start stop h other_start (omega arith)
        (subst (λ n. EachUnit is_word_unit units other_start n) ends other) first in
        let stops = word_ends units start stop h end stop_order within word last in
        let same : slice_range units start end ≡ slice_range units other_start other_end = rw (ends, begins, stops) h.same in
        not_from_Decides r (parts (slice_range units start end) (slice_range units other_start other_end) r e) t same
