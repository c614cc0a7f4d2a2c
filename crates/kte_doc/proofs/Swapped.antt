-- One range comes, goes or is set, with its cursors.
use Rattle.std.proofs.Common.{◌≡◌, ◌≢◌, ℕ, Bool, true, false, Option, None, Some, IsSome, IsTrue, ◌⊎◌, inl, inr, refl, sym, ap, ◌∙◌, subst, arith}
use Rattle.std.proofs.lemmas.Bool.{cases_eq}
use Rattle.std.specs.Prelude.{option_and_then}
use Rattle.std.specs.Option.{option_map}
use Rattle.std.specs.FinMap.{get}
use Rattle.kte_place.specs.Ends.{Ends}
use Rattle.kte_ranges.specs.declared.info.RangeInfo.{RangeInfo}
use Rattle.kte_ranges.specs.Table.{Ranges}
use Rattle.kte_ranges.specs.Cursors.{Hung, span_of, is_among, holds_cursor}
use Rattle.kte_doc.specs.Inside.{standing_of, standings_of, HangAt, CursorsFit}
use Rattle.kte_doc.proofs.OneRange.{span_of-HangAt, span_of-invalid, holds_first, holds_second, cursors_of_held, hangs_held}
use Rattle.kte_doc.proofs.Maps.{get-standings_of}

-- the cursors of a range, if there is one and it is not invalid
abbrev pub cursors_of : Option RangeInfo → Option (ℕ × ℕ)
cursors_of range = option_and_then (λ info. info.cursors) range

-- the new cursors did not hang, the old ones hang no more, and all others hang as they did
pub record Swaps (old new : Hung) (had has : Option (ℕ × ℕ)) : Type 0 where
  pub fresh : (n : ℕ) → IsTrue (is_among has n) → get old n ≡ None
  pub gone : (n : ℕ) → is_among has n ≡ false → IsTrue (is_among had n) → get new n ≡ None
  pub others : (n : ℕ) → is_among has n ≡ false → is_among had n ≡ false → get new n ≡ get old n

-- the table has another range under one number
pub record Puts (old new : Ranges) (id : ℕ) (had has : Option RangeInfo) : Type 0 where
  pub was : get old id ≡ had
  pub now : get new id ≡ has
  pub others : (q : ℕ) → q ≢ id → get new q ≡ get old q

-- the new range's cursors differ, and hang at a span
abbrev pub HangsAs : Hung → ℕ → ℕ → Option RangeInfo → Type 0
HangsAs hung lines farthest has =
    (info : RangeInfo) (c : ℕ × ℕ) → has ≡ Some info → info.cursors ≡ Some c
    → (c.0 ≢ c.1) × ((span : Ends) × HangAt hung lines farthest info.expand info.empty c span)

-- a test has an answer
tested : (b : Bool) → (b ≡ true) ⊎ (b ≡ false)
tested true = inl refl
tested false = inr refl

-- the cursors of one range, as those of what is under its number
among : (had : Option RangeInfo) (info : RangeInfo) (n : ℕ) → had ≡ Some info → is_among (cursors_of had) n ≡ holds_cursor info n
among had info n is = ap (λ o. is_among (cursors_of o) n) is

held_in : (had : Option RangeInfo) (n : ℕ) → IsTrue (is_among (cursors_of had) n) → (info : RangeInfo) × ((had ≡ Some info) × IsTrue (holds_cursor info n))
held_in None n held = absurd (cc)
held_in (Some info) n held = (info, (refl, held))

module _ (hung hung' : Hung) (ranges ranges' : Ranges) (lines farthest id : ℕ) (had has : Option RangeInfo)
    (fit : CursorsFit hung ranges lines farthest) (puts : Puts ranges ranges' id had has)
    (swaps : Swaps hung hung' (cursors_of had) (cursors_of has)) where
  -- a cursor that another range holds hangs
  other_hangs : (q : ℕ) (info : RangeInfo) (n : ℕ) → get ranges q ≡ Some info → IsTrue (holds_cursor info n) → IsSome (get hung n)
  other_hangs q info n there held =
      let c = cursors_of_held info.cursors n held in
      let at = fit.hang q info c.0 there c.1 in
      hangs_held hung lines farthest info c.0 at.0 n c.1 at.1 held

  -- it is none of the new cursors
  not_new : (q : ℕ) (info : RangeInfo) (n : ℕ) → get ranges q ≡ Some info → IsTrue (holds_cursor info n) → is_among (cursors_of has) n ≡ false
  not_new q info n there held =
      elim (tested (is_among (cursors_of has) n)) [
        | inl new ↦ let none = swaps.fresh n new in let some = other_hangs q info n there held in absurd (grind arith)
        | inr free ↦ free
      ]

  -- nor of those that go
  not_old : (q : ℕ) (info : RangeInfo) (n : ℕ) → q ≢ id → get ranges q ≡ Some info → IsTrue (holds_cursor info n) → is_among (cursors_of had) n ≡ false
  not_old q info n apart there held =
      elim (tested (is_among (cursors_of had) n)) [
        | inl old ↦
            let it = held_in had n old in
            absurd (apart (fit.apart.others q id n info it.0 there (puts.was ∙ it.1.0) held it.1.1))
        | inr free ↦ free
      ]

  -- so it hangs as it did
  stays : (q : ℕ) (info : RangeInfo) (n : ℕ) → q ≢ id → get ranges q ≡ Some info → IsTrue (holds_cursor info n) → get hung' n ≡ get hung n
  stays q info n apart there held = swaps.others n (not_new q info n there held) (not_old q info n apart there held)

  still_at : (q : ℕ) (info : RangeInfo) (c : ℕ × ℕ) (span : Ends) → q ≢ id → get ranges q ≡ Some info → info.cursors ≡ Some c
      → HangAt hung lines farthest info.expand info.empty c span → HangAt hung' lines farthest info.expand info.empty c span
  still_at q info c span apart there is at = record {
    start = stays q info c.0 apart there (holds_first info c is) ∙ at.start;
    end = stays q info c.1 apart there (holds_second info c is) ∙ at.end;
    stands = at.stands;
  }

  -- the cursors are those of the ranges again
  pub CursorsFit-swapped : HangsAs hung' lines farthest has → CursorsFit hung' ranges' lines farthest
  CursorsFit-swapped new_hang = record {
    apart = record {
      own = λ q info there c is.
          elim (cases_eq q id) [
            | inl here ↦ (new_hang info c (sym puts.now ∙ ap (get ranges') (sym here) ∙ there) is).0
            | inr apart ↦ fit.apart.own q info (sym (puts.others q apart) ∙ there) c is
          ];
      others = λ i j n x y at_i at_j hold_x hold_y.
          elim (cases_eq i id) [
            | inl i_here ↦ elim (cases_eq j id) [
              | inl j_here ↦ i_here ∙ sym j_here
              | inr j_apart ↦
                  let new = among has x n (sym puts.now ∙ ap (get ranges') (sym i_here) ∙ at_i) ∙ hold_x in
                  let free = not_new j y n (sym (puts.others j j_apart) ∙ at_j) hold_y in
                  absurd (cc)
            ]
            | inr i_apart ↦ elim (cases_eq j id) [
              | inl j_here ↦
                  let new = among has y n (sym puts.now ∙ ap (get ranges') (sym j_here) ∙ at_j) ∙ hold_y in
                  let free = not_new i x n (sym (puts.others i i_apart) ∙ at_i) hold_x in
                  absurd (cc)
              | inr j_apart ↦ fit.apart.others i j n x y (sym (puts.others i i_apart) ∙ at_i) (sym (puts.others j j_apart) ∙ at_j) hold_x hold_y
            ]
          ];
    };
    hang = λ q info c there is.
        elim (cases_eq q id) [
          | inl here ↦ (new_hang info c (sym puts.now ∙ ap (get ranges') (sym here) ∙ there) is).1
          | inr apart ↦
              let was = sym (puts.others q apart) ∙ there in
              let at = fit.hang q info c was is in
              (at.0, still_at q info c at.0 apart was is at.1)
        ];
    held = λ n some.
        elim (tested (is_among (cursors_of has) n)) [
          | inl new ↦ let it = held_in has n new in (id, (it.0, (puts.now ∙ it.1.0, it.1.1)))
          | inr not_new ↦ elim (tested (is_among (cursors_of had) n)) [
            | inl old ↦ let none = swaps.gone n not_new old in absurd (grind arith)
            | inr not_old ↦
                let it = fit.held n (subst (λ o. IsSome o) (swaps.others n not_new not_old) some) in
                elim (cases_eq it.0 id) [
                  | inl here ↦
                      let old = among had it.1.0 n (sym puts.was ∙ ap (get ranges) (sym here) ∙ it.1.1.0) ∙ it.1.1.1 in
                      absurd (cc)
                  | inr apart ↦ (it.0, (it.1.0, (puts.others it.0 apart ∙ it.1.1.0, it.1.1.1)))
                ]
          ]
        ];
  }

  -- another range stands where it stood
  same_span : (q : ℕ) (info : RangeInfo) → q ≢ id → get ranges q ≡ Some info → (o : Option (ℕ × ℕ)) → info.cursors ≡ o → span_of hung' info ≡ span_of hung info
  same_span q info apart there None is = span_of-invalid hung' info is ∙ sym (span_of-invalid hung info is)
  same_span q info apart there (Some c) is =
      let at = fit.hang q info c there is in
      span_of-HangAt hung' lines farthest info c at.0 is (still_at q info c at.0 apart there is at.1)
      ∙ sym (span_of-HangAt hung lines farthest info c at.0 is at.1)

  same_standing : (q : ℕ) → q ≢ id → (o : Option RangeInfo) → get ranges q ≡ o → option_map (standing_of hung') o ≡ option_map (standing_of hung) o
  same_standing q apart None there = refl
  same_standing q apart (Some info) there =
      ap (λ span. Some (record { expand = info.expand; empty = info.empty; kind = info.kind; origin = info.origin; span = span }))
      (same_span q info apart there info.cursors refl)

  -- what contracts see: the other ranges stay, and the one is what it now is
  pub others_stand : (q : ℕ) → q ≢ id → get (standings_of hung' ranges') q ≡ get (standings_of hung ranges) q
  others_stand q apart =
      get-standings_of hung' ranges' q
      ∙ ap (option_map (standing_of hung')) (puts.others q apart)
      ∙ same_standing q apart (get ranges q) refl
      ∙ sym (get-standings_of hung ranges q)

  pub one_stands : get (standings_of hung' ranges') id ≡ option_map (standing_of hung') has
  one_stands = get-standings_of hung' ranges' id ∙ ap (option_map (standing_of hung')) puts.now
