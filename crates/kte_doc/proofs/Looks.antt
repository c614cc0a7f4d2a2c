-- What is answered about the ranges.
use Rattle.std.proofs.Common.{◌≡◌, ℕ, Option, None, Some, is_some, Result, Ok, Err, IsSome, refl, sym, ap, ◌∙◌, subst}
use Rattle.std.specs.Prelude.{option_and_then}
use Rattle.std.specs.Option.{option_map, ok_or}
use Rattle.std.specs.Result.{result_unwrap_or}
use Rattle.std.specs.FinMap.{get}
use Rattle.kte_place.specs.declared.place.Place.{Place}
use Rattle.kte_place.specs.Ends.{Ends}
use Rattle.kte_place.specs.Span.{ends}
use Rattle.kte_place.specs.Cursors.{Hanging, place_of}
use Rattle.kte_ranges.specs.declared.info.RangeInfo.{RangeInfo}
use Rattle.kte_ranges.specs.declared.table.NoRange.{NoRange}
use Rattle.kte_ranges.specs.Table.{Ranges}
use Rattle.kte_ranges.specs.Cursors.{Hung, span_of}
use Rattle.kte_doc.specs.Standings.{Standing, Standings, Tells, spans_of}
use Rattle.kte_doc.specs.Inside.{standing_of, standings_of, HangAt, CursorsFit}
use Rattle.kte_doc.proofs.Maps.{get-standings_of, get-spans_of}
use Rattle.kte_doc.proofs.OneRange.{span_of-HangAt, span_of-invalid}

-- the range of a number, by the table
pub seen : (hung : Hung) (ranges : Ranges) (now : Standings) (id : ℕ) → standings_of hung ranges ≡ now → get now id ≡ option_map (standing_of hung) (get ranges id)
seen hung ranges now id is = ap (λ (m : Standings). get m id) (sym is) ∙ get-standings_of hung ranges id

-- a range is there where the table has one
pub seen_some : (hung : Hung) (ranges : Ranges) (now : Standings) (id : ℕ) → standings_of hung ranges ≡ now → IsSome (get now id) → IsSome (get ranges id)
seen_some hung ranges now id is some = by_table (get ranges id) (subst (λ (o : Option Standing). IsSome o) (seen hung ranges now id is) some) where
  by_table : (o : Option RangeInfo) → IsSome (option_map (standing_of hung) o) → IsSome o
  by_table None some = absurd (cc)
  by_table (Some info) some = refl

-- the information on a range is that of the range
pub told : (hung : Hung) (ranges : Ranges) (lines farthest : ℕ) (now : Standings) (id : ℕ) → CursorsFit hung ranges lines farthest → standings_of hung ranges ≡ now
    → (o : Option RangeInfo) → get ranges id ≡ o → Tells (get now id) o
told hung ranges lines farthest now id fit is None there =
    subst (λ (s : Option Standing). Tells s None) (sym (seen hung ranges now id is ∙ ap (option_map (standing_of hung)) there)) tt
told hung ranges lines farthest now id fit is (Some info) there =
    subst (λ (s : Option Standing). Tells s (Some info)) (sym (seen hung ranges now id is ∙ ap (option_map (standing_of hung)) there))
    (record { expand = refl; empty = refl; kind = refl; origin = refl; cursors = by_cursors info.cursors refl }) where
      by_cursors : (o : Option (ℕ × ℕ)) → info.cursors ≡ o → is_some info.cursors ≡ is_some (span_of hung info)
      by_cursors None cursors = ap is_some cursors ∙ sym (ap is_some (span_of-invalid hung info cursors))
      by_cursors (Some c) cursors =
          let at = fit.hang id info c there cursors in
          ap is_some cursors ∙ sym (ap is_some (span_of-HangAt hung lines farthest info c at.0 cursors at.1))

-- the answer where there is no range, where it is invalid, and where it stands
pub answer_none : (hung : Hung) (ranges : Ranges) (now : Standings) (id : ℕ) (e : NoRange) → standings_of hung ranges ≡ now → get ranges id ≡ None
    → Err e ≡ ok_or (option_map (λ range. range.span) (get now id)) e
answer_none hung ranges now id e is there =
    ap (λ (o : Option Standing). ok_or (option_map (λ range. range.span) o) e) (sym (seen hung ranges now id is ∙ ap (option_map (standing_of hung)) there))

pub answer_some : (hung : Hung) (ranges : Ranges) (now : Standings) (id : ℕ) (e : NoRange) (info : RangeInfo) (span : Option Ends) → standings_of hung ranges ≡ now
    → get ranges id ≡ Some info → span_of hung info ≡ span → Ok span ≡ ok_or (option_map (λ range. range.span) (get now id)) e
answer_some hung ranges now id e info span is there stands =
    ap (λ (o : Option Ends). Ok o) (sym stands)
    ∙ ap (λ (o : Option Standing). ok_or (option_map (λ range. range.span) o) e) (sym (seen hung ranges now id is ∙ ap (option_map (standing_of hung)) there))

-- where two cursors of a range stand
place_is : (o : Option Hanging) (h : Hanging) (p : Place) → o ≡ Some h → place_of o ≡ Some p → p ≡ h.place
place_is o h p is at = cc

pub span_at : (hung : Hung) (lines farthest : ℕ) (info : RangeInfo) (c : ℕ × ℕ) (span : Ends) (start end : Place) → info.cursors ≡ Some c
    → HangAt hung lines farthest info.expand info.empty c span → place_of (get hung c.0) ≡ Some start → place_of (get hung c.1) ≡ Some end
    → ends start end ≡ span
span_at hung lines farthest info c span start end is at at_start at_end =
    let first = place_is (get hung c.0) _ start at.start at_start in
    let second = place_is (get hung c.1) _ end at.end at_end in
    ap (λ (p : Place). ends p end) first ∙ ap (λ (p : Place). ends span.start p) second

-- the span of a number is that of its range
pub span_by_range : (now : Standings) (id : ℕ) (e : NoRange) (result : Result (Option Ends) NoRange) → result ≡ ok_or (option_map (λ range. range.span) (get now id)) e
    → result_unwrap_or result None ≡ get (spans_of now) id
span_by_range now id e result is =
    ap (λ (r : Result (Option Ends) NoRange). result_unwrap_or r None) is ∙ by_range (get now id) ∙ sym (get-spans_of now id) where
      by_range : (o : Option Standing) → result_unwrap_or (ok_or (option_map (λ range. range.span) o) e) None ≡ option_and_then (λ range. range.span) o
      by_range None = refl
      by_range (Some range) = refl

-- a range was found in the table
pub found : {A : Type 0} (f : RangeInfo → A) (o : Option RangeInfo) (e : NoRange) (x : A) → Ok x ≡ ok_or (option_map f o) e
    → (info : RangeInfo) × ((o ≡ Some info) × (x ≡ f info))
found f None e x is = absurd (cc)
found f (Some info) e x is = (info, (refl, cc))

-- none was found
pub not_found : {A : Type 0} (f : RangeInfo → A) (o : Option RangeInfo) (e x : NoRange) → Err x ≡ ok_or (option_map f o) e → (o ≡ None) × (x ≡ e)
not_found f None e x is = (refl, cc)
not_found f (Some info) e x is = absurd (cc)

-- whether a range is there
pub was_there : (hung : Hung) (ranges : Ranges) (now : Standings) (id : ℕ) (e : NoRange) (info : RangeInfo) → standings_of hung ranges ≡ now
    → get ranges id ≡ Some info → Ok tt ≡ ok_or (option_map (λ (range : Standing). tt {0}) (get now id)) e
was_there hung ranges now id e info is there =
    ap (λ (o : Option Standing). ok_or (option_map (λ (range : Standing). tt {0}) o) e) (sym (seen hung ranges now id is ∙ ap (option_map (standing_of hung)) there))

pub was_not_there : (hung : Hung) (ranges : Ranges) (now : Standings) (id : ℕ) (e : NoRange) → standings_of hung ranges ≡ now
    → get ranges id ≡ None → Err e ≡ ok_or (option_map (λ (range : Standing). tt {0}) (get now id)) e
was_not_there hung ranges now id e is there =
    ap (λ (o : Option Standing). ok_or (option_map (λ (range : Standing). tt {0}) o) e) (sym (seen hung ranges now id is ∙ ap (option_map (standing_of hung)) there))

pub seen_none : (hung : Hung) (ranges : Ranges) (now : Standings) (id : ℕ) → standings_of hung ranges ≡ now → get ranges id ≡ None → get now id ≡ None
seen_none hung ranges now id is there = seen hung ranges now id is ∙ ap (option_map (standing_of hung)) there

pub seen_is : (hung : Hung) (ranges : Ranges) (now : Standings) (id : ℕ) (info : RangeInfo) → standings_of hung ranges ≡ now → get ranges id ≡ Some info
    → get now id ≡ Some (standing_of hung info)
seen_is hung ranges now id info is there = seen hung ranges now id is ∙ ap (option_map (standing_of hung)) there

-- what is seen of a range is what it is
pub seen_same : (hung : Hung) (ranges : Ranges) (now : Standings) (id : ℕ) (info : RangeInfo) (range : Standing) → standings_of hung ranges ≡ now
    → get ranges id ≡ Some info → get now id ≡ Some range → standing_of hung info ≡ range
seen_same hung ranges now id info range is there some = by_some (sym (seen_is hung ranges now id info is there) ∙ some) where
  by_some : {A : Type 0} {x y : A} → Some x ≡ Some y → x ≡ y
  by_some same = cc
