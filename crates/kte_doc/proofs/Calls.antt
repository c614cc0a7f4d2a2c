-- What the calls on one range do to the cursors and to what contracts see.
use Rattle.std.proofs.Common.{◌≡◌, ◌≢◌, ℕ, ◌≤◌, ◌==◌, ◌&&◌, if◌then◌else◌, nat_lt, Bool, true, false, Option, None, Some, IsSome, IsTrue, inl, inr, refl, sym, ap, ◌∙◌, subst, arith}
use Rattle.std.proofs.lemmas.Bool.{cases_eq}
use Rattle.std.proofs.lemmas.Bool.Decides.{nat_tests}
use Rattle.std.specs.Cmp.{nat_cmp_total}
use Rattle.std.specs.FinMap.{get, insert, remove, same_map, nat_cmp-IsAntisymmetric, gets}
use Rattle.kte_place.specs.declared.span.Expand.{Expand}
use Rattle.kte_place.specs.declared.span.Empty.{Empty}
use Rattle.kte_place.specs.Ends.{Ends}
use Rattle.kte_place.specs.Span.{made, settle, start_on, end_on}
use Rattle.kte_buffer.specs.Cursors.{hanging}
use Rattle.kte_ranges.specs.declared.info.RangeInfo.{RangeInfo}
use Rattle.kte_ranges.specs.Table.{Ranges}
use Rattle.kte_ranges.specs.Cursors.{Hung, span_of, is_among, holds_cursor}
use Rattle.kte_place.specs.declared.place.TheConstants.{MAX_REACH}
use Rattle.kte_place.specs.Ends.{SpanIsInReach}
use Rattle.kte_doc.specs.Standings.{Standing}
use Rattle.kte_doc.specs.Hanging.{HungAt, HangsNew}
use Rattle.kte_doc.specs.Within.{IsWithin, IsSettledWithin}
use Rattle.kte_doc.specs.Inside.{standing_of, standings_of, HangAt, CursorsFit}
use Rattle.kte_doc.proofs.OneRange.{span_of-HangAt, span_of-invalid, first_or_second, cursors_of_held, hangs_held, settle_within}
use Rattle.kte_doc.proofs.Swapped.{cursors_of, Swaps, Puts, CursorsFit-swapped, others_stand, one_stands}

-- the cursors of a range of the table hang
pub hangs_of : (hung : Hung) (ranges : Ranges) (lines farthest id : ℕ) (info : RangeInfo) → CursorsFit hung ranges lines farthest
    → get ranges id ≡ Some info → (n : ℕ) → IsTrue (holds_cursor info n) → IsSome (get hung n)
hangs_of hung ranges lines farthest id info fit there n held =
    let c = cursors_of_held info.cursors n held in
    let at = fit.hang id info c.0 there c.1 in
    hangs_held hung lines farthest info c.0 at.0 n c.1 at.1 held

hangs_under : (hung : Hung) (ranges : Ranges) (lines farthest id : ℕ) (had : Option RangeInfo) → CursorsFit hung ranges lines farthest
    → get ranges id ≡ had → (n : ℕ) → IsTrue (is_among (cursors_of had) n) → IsSome (get hung n)
hangs_under hung ranges lines farthest id None fit there n held = absurd (cc)
hangs_under hung ranges lines farthest id (Some info) fit there n held = hangs_of hung ranges lines farthest id info fit there n held

-- what hangs after two cursors have come
get-HungAt : (hung hung1 : Hung) (expand : Expand) (c : ℕ × ℕ) (span : Ends) → HungAt hung hung1 expand c span → (n : ℕ)
    → get hung1 n ≡ (if n == c.1 then Some (hanging span.end (end_on expand)) else if n == c.0 then Some (hanging span.start (start_on expand)) else get hung n)
get-HungAt hung hung1 expand c span at n = ap (λ m. get m n) at.hung ∙ grind (arith, nat_tests, gets)

-- the new cursors did not hang
pub new_free : (hung hung1 : Hung) (expand : Expand) (has : Option (ℕ × ℕ)) (span : Option Ends) → HangsNew hung hung1 expand has span
    → (n : ℕ) → IsTrue (is_among has n) → get hung n ≡ None
new_free hung hung1 expand None span hangs n held = absurd (cc)
new_free hung hung1 expand (Some c) None hangs n held = absurd hangs
new_free hung hung1 expand (Some c) (Some span) hangs n held =
    elim (first_or_second c n held) [
      | inl first ↦ ap (get hung) first ∙ hangs.start_free
      | inr second ↦ ap (get hung) second ∙ hangs.end_free
    ]

-- all other cursors hang as they did
pub others_hang : (hung hung1 : Hung) (expand : Expand) (has : Option (ℕ × ℕ)) (span : Option Ends) → HangsNew hung hung1 expand has span
    → (n : ℕ) → is_among has n ≡ false → get hung1 n ≡ get hung n
others_hang hung hung1 expand None None hangs n free = ap (λ m. get m n) hangs
others_hang hung hung1 expand None (Some span) hangs n free = absurd hangs
others_hang hung hung1 expand (Some c) None hangs n free = absurd hangs
others_hang hung hung1 expand (Some c) (Some span) hangs n free =
    let two : (n ≢ c.0) × (n ≢ c.1) = neither c n free in
    get-HungAt hung hung1 expand c span hangs n ∙ grind (arith, nat_tests) where
      neither : (c : ℕ × ℕ) (n : ℕ) → is_among (Some c) n ≡ false → (n ≢ c.0) × (n ≢ c.1)
      neither c n free = (grind (arith, nat_tests), grind (arith, nat_tests))

-- the new cursors hang, and differ
pub new_hang : (hung hung1 : Hung) (expand : Expand) (has : Option (ℕ × ℕ)) (span : Option Ends) → HangsNew hung hung1 expand has span
    → (n : ℕ) → IsTrue (is_among has n) → IsSome (get hung1 n)
new_hang hung hung1 expand None span hangs n held = absurd (cc)
new_hang hung hung1 expand (Some c) None hangs n held = absurd hangs
new_hang hung hung1 expand (Some c) (Some span) hangs n held =
    let at = get-HungAt hung hung1 expand c span hangs in
    let two = hangs.two in
    let start : get hung1 c.0 ≡ Some (hanging span.start (start_on expand)) = at c.0 ∙ grind (arith, nat_tests) in
    let end : get hung1 c.1 ≡ Some (hanging span.end (end_on expand)) = at c.1 ∙ grind (arith, nat_tests) in
    elim (first_or_second c n held) [
      | inl first ↦ subst (λ o. IsSome o) (sym (ap (get hung1) first ∙ start)) refl
      | inr second ↦ subst (λ o. IsSome o) (sym (ap (get hung1) second ∙ end)) refl
    ]

pub new_two : (hung hung1 : Hung) (expand : Expand) (has : Option (ℕ × ℕ)) (span : Option Ends) → HangsNew hung hung1 expand has span
    → (c : ℕ × ℕ) → has ≡ Some c → c.0 ≢ c.1
new_two hung hung1 expand None span hangs c is = absurd (cc)
new_two hung hung1 expand (Some d) None hangs c is = absurd hangs
new_two hung hung1 expand (Some d) (Some span) hangs c is =
    let same : d ≡ c = cc in
    let Two : (ℕ × ℕ) → Type 0 = λ c. c.0 ≢ c.1 in
    subst Two same hangs.two

-- a cursor that hung still hangs
pub still_hangs : (hung hung1 : Hung) (expand : Expand) (has : Option (ℕ × ℕ)) (span : Option Ends) → HangsNew hung hung1 expand has span
    → (n : ℕ) → IsSome (get hung n) → IsSome (get hung1 n)
still_hangs hung hung1 expand has span hangs n some =
    subst (λ o. IsSome o) (sym (others_hang hung hung1 expand has span hangs n (not_new (is_among has n) refl))) some where
      not_new : (b : Bool) → is_among has n ≡ b → b ≡ false
      not_new true new = let none = new_free hung hung1 expand has span hangs n new in absurd (grind arith)
      not_new false new = refl

-- a span in reach whose lines are in the text, and that settles, stands within it
pub made_within : (lines farthest : ℕ) (span t : Ends) (empty : Empty) → SpanIsInReach span → MAX_REACH ≤ farthest
    → made lines span empty ≡ Some t → IsSettledWithin lines farthest empty t
made_within lines farthest span t empty reach near is =
    let lines_in = in_text (nat_lt span.start.line lines) (nat_lt span.end.line lines) is in
    let start : IsWithin lines farthest span.start = record { line = grind (arith, nat_tests); column = omega (arith, reach.start.1) } in
    let end : IsWithin lines farthest span.end = record { line = grind (arith, nat_tests); column = omega (arith, reach.end.1) } in
    settle_within lines farthest span.start span.end empty t lines_in.2 start end where
      in_text : (a b : Bool) → (if a && b then settle span.start span.end empty else None) ≡ Some t → (a ≡ true) × (b ≡ true) × (settle span.start span.end empty ≡ Some t)
      in_text true true is = (refl, refl, is)
      in_text true false is = absurd (cc)
      in_text false b is = absurd (cc)

module _ (hung hung1 hung2 : Hung) (ranges ranges' : Ranges) (lines farthest id : ℕ) (had : Option RangeInfo) (fit : CursorsFit hung ranges lines farthest)
    (was : get ranges id ≡ had) (taken : (n : ℕ) → get hung2 n ≡ (if is_among (cursors_of had) n then None else get hung1 n)) where
  swaps : (expand : Expand) (has : Option (ℕ × ℕ)) (span : Option Ends) → HangsNew hung hung1 expand has span → Swaps hung hung2 (cursors_of had) has
  swaps expand has span hangs = record {
    fresh = new_free hung hung1 expand has span hangs;
    gone = λ n free old. taken n ∙ ap (λ b. if b then None else get hung1 n) old;
    others = λ n free kept. taken n ∙ ap (λ b. if b then None else get hung1 n) kept ∙ others_hang hung hung1 expand has span hangs n free;
  }

  -- a new cursor is not taken out again
  stays_hung : (n : ℕ) → get hung n ≡ None → get hung2 n ≡ get hung1 n
  stays_hung n free = taken n ∙ ap (λ b. if b then None else get hung1 n) (not_old (is_among (cursors_of had) n) refl) where
    not_old : (b : Bool) → is_among (cursors_of had) n ≡ b → b ≡ false
    not_old true old = let some = hangs_under hung ranges lines farthest id had fit was n old in absurd (grind arith)
    not_old false old = refl

  -- a range that is put at a span, if it is not invalid
  module _ (info : RangeInfo) (to : Option Ends) (now : ranges' ≡ insert ranges id info)
      (sound : (t : Ends) → to ≡ Some t → IsSettledWithin lines farthest info.empty t) where
    puts : Puts ranges ranges' id had (Some info)
    puts = record {
      was = was;
      now = ap (λ m. get m id) now ∙ grind (arith, nat_tests, gets);
      others = λ q apart. ap (λ m. get m q) now ∙ grind (arith, nat_tests, gets);
    }

    hang_at : (c : ℕ × ℕ) (t : Ends) → to ≡ Some t → HungAt hung hung1 info.expand c t → HangAt hung2 lines farthest info.expand info.empty c t
    hang_at c t is at =
        let two = at.two in
        record {
          start = stays_hung c.0 at.start_free ∙ get-HungAt hung hung1 info.expand c t at c.0 ∙ grind (arith, nat_tests);
          end = stays_hung c.1 at.end_free ∙ get-HungAt hung hung1 info.expand c t at c.1 ∙ grind (arith, nat_tests);
          stands = sound t is;
        }

    hang_as : (o : Option Ends) (has : Option (ℕ × ℕ)) (c : ℕ × ℕ) → to ≡ o → has ≡ Some c → HangsNew hung hung1 info.expand has o
        → (c.0 ≢ c.1) × ((t : Ends) × ((to ≡ Some t) × HangAt hung2 lines farthest info.expand info.empty c t))
    hang_as None None c is some hangs = absurd (cc)
    hang_as None (Some d) c is some hangs = absurd hangs
    hang_as (Some t) None c is some hangs = absurd hangs
    hang_as (Some t) (Some d) c is some hangs =
        let same : d ≡ c = cc in
        let At : (ℕ × ℕ) → Type 0 = λ c. HungAt hung hung1 info.expand c t in
        let at = subst At same hangs in
        (at.two, (t, (is, hang_at c t is at)))

    new_span : (has : Option (ℕ × ℕ)) (o : Option Ends) → info.cursors ≡ has → to ≡ o → HangsNew hung hung1 info.expand has o
        → span_of hung2 info ≡ o
    new_span None None cursors is hangs = span_of-invalid hung2 info cursors
    new_span None (Some t) cursors is hangs = absurd hangs
    new_span (Some c) None cursors is hangs = absurd hangs
    new_span (Some c) (Some t) cursors is hangs = span_of-HangAt hung2 lines farthest info c t cursors (hang_at c t is hangs)

    -- a range is made or set
    pub put_fits : HangsNew hung hung1 info.expand info.cursors to → CursorsFit hung2 ranges' lines farthest
    put_fits hangs =
        CursorsFit-swapped hung hung2 ranges ranges' lines farthest id had (Some info) fit puts
        (swaps info.expand info.cursors to hangs)
        (λ other c is cursors.
        let same : info ≡ other = cc in
        let As : RangeInfo → Type 0 = λ i. (c.0 ≢ c.1) × ((t : Ends) × HangAt hung2 lines farthest i.expand i.empty c t) in
        let mine : info.cursors ≡ Some c = ap (λ i. i.cursors) same ∙ cursors in
        let it = hang_as to info.cursors c refl mine hangs in
        subst As same (it.0, (it.1.0, it.1.1.1)))

    pub put_ranges : HangsNew hung hung1 info.expand info.cursors to
        → standings_of hung2 ranges' ≡ insert (standings_of hung ranges) id
        (record { expand = info.expand; empty = info.empty; kind = info.kind; origin = info.origin; span = to })
    put_ranges hangs =
        same_map nat_cmp_total nat_cmp-IsAntisymmetric _ _ (λ q.
        elim (cases_eq q id) [
          | inl here ↦
              let there : get (standings_of hung2 ranges') q ≡ Some (standing_of hung2 info) =
              ap (get (standings_of hung2 ranges')) here
              ∙ one_stands hung hung2 ranges ranges' lines farthest id had (Some info) fit puts
              (swaps info.expand info.cursors to hangs) in
              let same : Some (standing_of hung2 info) ≡ Some (record { expand = info.expand; empty = info.empty; kind = info.kind; origin = info.origin; span = to }) =
              ap (λ span. Some (record { expand = info.expand; empty = info.empty; kind = info.kind; origin = info.origin; span = span }))
              (new_span info.cursors to refl refl hangs) in
              there ∙ same ∙ grind (arith, nat_tests, gets)
          | inr apart ↦
              let there = others_stand hung hung2 ranges ranges' lines farthest id had (Some info) fit puts
              (swaps info.expand info.cursors to hangs) q apart in
              there ∙ grind (arith, nat_tests, gets)
        ])

  module _ (now : ranges' ≡ remove ranges id) (same : hung1 ≡ hung) where
    takes : Puts ranges ranges' id had None
    takes = record {
      was = was;
      now = ap (λ m. get m id) now ∙ grind (arith, nat_tests, gets);
      others = λ q apart. ap (λ m. get m q) now ∙ grind (arith, nat_tests, gets);
    }

    -- a range is taken out
    pub drop_fits : CursorsFit hung2 ranges' lines farthest
    drop_fits =
        CursorsFit-swapped hung hung2 ranges ranges' lines farthest id had None fit takes
        (swaps (record { left = true; right = true }) None None same)
        (λ info c is cursors. absurd (cc))

    pub drop_ranges : standings_of hung2 ranges' ≡ remove (standings_of hung ranges) id
    drop_ranges =
        same_map nat_cmp_total nat_cmp-IsAntisymmetric _ _ (λ q.
        elim (cases_eq q id) [
          | inl here ↦
              ap (get (standings_of hung2 ranges')) here
              ∙ one_stands hung hung2 ranges ranges' lines farthest id had None fit takes
              (swaps (record { left = true; right = true }) None None same)
              ∙ grind (arith, nat_tests, gets)
          | inr apart ↦
              others_stand hung hung2 ranges ranges' lines farthest id had None fit takes
              (swaps (record { left = true; right = true }) None None same) q apart
              ∙ grind (arith, nat_tests, gets)
        ])

-- a range that is at a span, if it is not invalid
abbrev pub standing_at : Option Ends → RangeInfo → Standing
standing_at span info = record { expand = info.expand; empty = info.empty; kind = info.kind; origin = info.origin; span = span }

-- The cursors fit, and the one range is seen with the others
pub record IsPut (hung hung' : Hung) (ranges ranges' : Ranges) (lines farthest id : ℕ) (range : Standing) : Type 0 where
  pub fits : CursorsFit hung' ranges' lines farthest
  pub seen : standings_of hung' ranges' ≡ insert (standings_of hung ranges) id range

-- a range is put under a free number
pub IsPut-new : (hung hung' : Hung) (ranges : Ranges) (lines farthest next : ℕ) (info : RangeInfo) (to : Option Ends)
    → CursorsFit hung ranges lines farthest → get ranges next ≡ None
    → ((t : Ends) → to ≡ Some t → IsSettledWithin lines farthest info.empty t) → HangsNew hung hung' info.expand info.cursors to
    → IsPut hung hung' ranges (insert ranges next info) lines farthest next (standing_at to info)
IsPut-new hung hung' ranges lines farthest next info to fit was sound hangs = record {
  fits = put_fits hung hung' hung' ranges (insert ranges next info) lines farthest next None fit was (λ n. refl) info to refl sound hangs;
  seen = put_ranges hung hung' hung' ranges (insert ranges next info) lines farthest next None fit was (λ n. refl) info to refl sound hangs;
}

-- a range is made, in a table with room for it
pub IsPut-make : (hung hung' : Hung) (ranges mid ranges' : Ranges) (lines farthest next : ℕ) (info : RangeInfo) (span : Ends)
    → CursorsFit hung ranges lines farthest → mid ≡ ranges → get mid next ≡ None → ranges' ≡ insert mid next info
    → SpanIsInReach span → MAX_REACH ≤ farthest → HangsNew hung hung' info.expand info.cursors (made lines span info.empty)
    → IsPut hung hung' ranges ranges' lines farthest next (standing_at (made lines span info.empty) info)
IsPut-make hung hung' ranges mid ranges' lines farthest next info span fit same unused now reach near hangs =
    let was : get ranges next ≡ None = ap (λ (m : Ranges). get m next) (sym same) ∙ unused in
    let put : ranges' ≡ insert ranges next info = now ∙ ap (λ (m : Ranges). insert m next info) same in
    subst (λ (m : Ranges). IsPut hung hung' ranges m lines farthest next (standing_at (made lines span info.empty) info)) (sym put)
    (IsPut-new hung hung' ranges lines farthest next info (made lines span info.empty) fit was
    (λ t is. made_within lines farthest span t info.empty reach near is) hangs)

-- a range is set, and the cursors that it had are taken out
pub IsPut-set : (hung hung1 hung2 : Hung) (ranges ranges' : Ranges) (lines farthest id : ℕ) (old info : RangeInfo) (span : Ends)
    → CursorsFit hung ranges lines farthest → get ranges id ≡ Some old → ranges' ≡ insert ranges id info
    → ((n : ℕ) → get hung2 n ≡ (if is_among old.cursors n then None else get hung1 n))
    → SpanIsInReach span → MAX_REACH ≤ farthest → HangsNew hung hung1 info.expand info.cursors (made lines span info.empty)
    → IsPut hung hung2 ranges ranges' lines farthest id (standing_at (made lines span info.empty) info)
IsPut-set hung hung1 hung2 ranges ranges' lines farthest id old info span fit was now taken reach near hangs =
    let sound : (t : Ends) → made lines span info.empty ≡ Some t → IsSettledWithin lines farthest info.empty t =
    λ t is. made_within lines farthest span t info.empty reach near is in
    record {
      fits = put_fits hung hung1 hung2 ranges ranges' lines farthest id (Some old) fit was taken info (made lines span info.empty) now sound hangs;
      seen = put_ranges hung hung1 hung2 ranges ranges' lines farthest id (Some old) fit was taken info (made lines span info.empty) now sound hangs;
    }
