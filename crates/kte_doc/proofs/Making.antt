-- Ranges are made together: their cursors fit, each is seen where its span lands, and the document
-- still came by its trail.
use Rattle.std.proofs.Common.{◌≡◌, ℕ, suc, ◌+◌, ◌-◌, ◌<◌, ◌≤◌, Bool, true, false, nat_lt, if◌then◌else◌, List, [], ◌∷◌, length, map, slice_get, Result, Ok, Err, Option, None, Some, IsSome, IfSome, IsTrue, inl, inr, refl, sym, ap, ◌∙◌, subst, arith}
use Rattle.std.proofs.lemmas.Bool.{cases_eq, cases_lt}
use Rattle.std.proofs.lemmas.Bool.Decides.{nat_tests}
use Rattle.std.proofs.lemmas.List.{length-map}
use Rattle.std.proofs.lemmas.Option.{slice_get_within}
use Rattle.std.specs.Option.{option_map}
use Rattle.std.specs.FinMap.{get, insert, gets}
use Rattle.kte_text.specs.declared.primitive.Primitive.{Primitive}
use Rattle.kte_place.specs.declared.span.Expand.{Expand}
use Rattle.kte_place.specs.declared.span.Empty.{Empty}
use Rattle.kte_place.specs.Ends.{Ends}
use Rattle.kte_history.specs.declared.fault.NotLocked.{NotLocked}
use Rattle.kte_history.specs.Revisions.{Revisions, can_land}
use Rattle.kte_ranges.specs.declared.info.RangeInfo.{RangeInfo}
use Rattle.kte_ranges.specs.declared.info.RangeKind.{RangeKind}
use Rattle.kte_ranges.specs.Table.{Ranges, NumbersBelow}
use Rattle.kte_ranges.specs.Cursors.{Hung}
use Rattle.kte_doc.specs.Standings.{Standing, Standings}
use Rattle.kte_doc.specs.Documents.{Document, StandsBy, CameBy, history_of, range_at, made_of}
use Rattle.kte_doc.specs.Within.{IsSettledWithin}
use Rattle.kte_doc.specs.Batches.{landed_info, standing_by, ComeInTurn, with_ranges}
use Rattle.kte_doc.specs.Inside.{standing_of, standings_of, CursorsFit}
use Rattle.kte_doc.proofs.Maps.{get-standings_of}
use Rattle.kte_doc.proofs.Calls.{IsPut-new}
use Rattle.kte_doc.proofs.Histories.{can_land_within, lands}

-- no range has a number from the next one on
none_from : (ranges : Ranges) (next id : ℕ) → NumbersBelow next ranges → next ≤ id → get ranges id ≡ None
none_from ranges next id below from = by_range (get ranges id) refl where
  by_range : (o : Option RangeInfo) → get ranges id ≡ o → o ≡ None
  by_range None is = refl
  by_range (Some info) is =
      let number = below id (subst (λ (o : Option RangeInfo). IsSome o) (sym is) refl) in absurd (omega (arith, number.1, from))

-- The cursors fit, and the ranges are seen with the others, at rising numbers from one on
pub record ArePut (hung hung' : Hung) (ranges ranges' : Ranges) (lines farthest next : ℕ) (standings : List Standing) : Type 0 where
  pub fits : CursorsFit hung' ranges' lines farthest
  pub seen : (id : ℕ) → get (standings_of hung' ranges') id
      ≡ (if nat_lt id next then get (standings_of hung ranges) id else slice_get standings (id - next))

-- one range is seen, and then the others
seen_next : (old mid : Standings) (next id : ℕ) (first : Standing) (standings : List Standing) → mid ≡ insert old next first
    → (if nat_lt id (next + 1) then get mid id else slice_get standings (id - (next + 1)))
    ≡ (if nat_lt id next then get old id else slice_get (first ∷ standings) (id - next))
seen_next old mid next id first standings is =
    elim (cases_lt id next) [
      | inl before ↦ let same : get mid id ≡ get old id = ap (λ (m : Standings). get m id) is ∙ grind (arith, nat_tests, gets) in
          grind (arith, nat_tests)
      | inr from ↦ elim (cases_eq id next) [
        | inl here ↦
            let same : get mid id ≡ Some first = ap (λ (m : Standings). get m id) is ∙ grind (arith, nat_tests, gets) in
            let zero_is : id - next ≡ 0 = omega arith in
            let head : slice_get (first ∷ standings) (id - next) ≡ Some first = ap (slice_get (first ∷ standings)) zero_is in
            grind (arith, nat_tests)
        | inr apart ↦
            let more : id - next ≡ suc (id - (next + 1)) = omega arith in
            let tail : slice_get (first ∷ standings) (id - next) ≡ slice_get standings (id - (next + 1)) =
            ap (slice_get (first ∷ standings)) more in
            grind (arith, nat_tests)
      ]
    ]

are_put : (h : Revisions) (lines farthest : ℕ) (infos : List RangeInfo) (hung hung' : Hung) (ranges : Ranges) (next : ℕ)
    → CursorsFit hung ranges lines farthest → ((id : ℕ) → next ≤ id → get ranges id ≡ None)
    → ComeInTurn lines farthest (landed_info h lines) infos hung hung'
    → ArePut hung hung' ranges (with_ranges ranges next infos) lines farthest next (map (standing_by h lines) infos)
are_put h lines farthest [] hung hung' ranges next fit free came =
    let Fit : Hung → Type 0 = λ m. CursorsFit m ranges lines farthest in
    record {
      fits = subst Fit (sym came) fit;
      seen = λ id. ap (λ (m : Hung). get (standings_of m ranges) id) came ∙ by_number id;
    } where
      by_number : (id : ℕ) → get (standings_of hung ranges) id
          ≡ (if nat_lt id next then get (standings_of hung ranges) id else None)
      by_number id =
          elim (cases_lt id next) [
            | inl before ↦ grind (arith, nat_tests)
            | inr from ↦
                let none = get-standings_of hung ranges id ∙ ap (option_map (standing_of hung)) (free id from) in
                grind (arith, nat_tests)
          ]
are_put h lines farthest (info ∷ infos) hung hung' ranges next fit free came =
    let mid = came.0 in
    let Within : Option Ends → Type 0 = λ o. IfSome o (IsSettledWithin lines farthest info.empty) in
    let put = IsPut-new hung mid ranges lines farthest next info (landed_info h lines info) fit (free next (omega arith))
    (λ t is. subst Within is came.1.0.within) came.1.0.hangs in
    let later = are_put h lines farthest infos mid hung' (insert ranges next info) (next + 1) put.fits
    (λ id from. let none = free id (omega arith) in grind (arith, nat_tests, gets)) came.1.1 in
    record {
      fits = later.fits;
      seen = λ id.
          later.seen id
          ∙ seen_next (standings_of hung ranges) (standings_of mid (insert ranges next info)) next id (standing_by h lines info)
          (map (standing_by h lines) infos) put.seen;
    }

-- .. where there was room in the table for them
pub made_all : (h : Revisions) (lines farthest : ℕ) (infos read : List RangeInfo) (hung hung' : Hung) (old mid new : Ranges) (next now : ℕ)
    → CursorsFit hung old lines farthest → NumbersBelow now mid → ComeInTurn lines farthest (landed_info h lines) infos hung hung'
    → new ≡ with_ranges mid now read → mid ≡ old → now ≡ next → read ≡ infos
    → ArePut hung hung' old new lines farthest next (map (standing_by h lines) infos)
made_all h lines farthest infos read hung hung' old mid new next now fit below came is same number all =
    let Below : Ranges → Type 0 = λ m. NumbersBelow now m in
    let Free : ℕ → Type 0 = λ n. (id : ℕ) → n ≤ id → get old id ≡ None in
    let free = subst Free number (λ id from. none_from old now id (subst Below same below) from) in
    let table : new ≡ with_ranges old next infos =
    is ∙ ap (λ (m : Ranges). with_ranges m now read) same ∙ ap (λ (n : ℕ). with_ranges old n read) number
    ∙ ap (λ (l : List RangeInfo). with_ranges old next l) all in
    let Put : Ranges → Type 0 = λ m. ArePut hung hung' old m lines farthest next (map (standing_by h lines) infos) in
    subst Put (sym table) (are_put h lines farthest infos hung hung' old next fit free came)

-- as many ranges as spans
pub as_many : (f : RangeInfo → Standing) (g : Ends → Standing) (infos : List RangeInfo) (spans : List Ends) → map f infos ≡ map g spans
    → length infos ≡ length spans
as_many f g infos spans same = sym (length-map infos f) ∙ ap (λ (l : List Standing). length l) same ∙ length-map spans g

-- a revision that was not refused
pub not_refused : (may : Bool) (r : Result (Unit {0}) NotLocked) (x : Unit {0}) (refused : NotLocked)
    → r ≡ (if may then Ok tt else Err refused) → r ≡ Ok x → may ≡ true
not_refused true r x refused is ok = refl
not_refused false r x refused is ok = absurd (cc)

-- what is made of a list
made_from : (g : Ends → Standing) (o : Option Ends) (range : Standing) → option_map g o ≡ Some range → (span : Ends) × ((o ≡ Some span) × (g span ≡ range))
made_from g None range is = absurd (cc)
made_from g (Some span) range is = (span, (refl, cc))

-- a range of a span of the text at a revision stands where a range stands that was made then
StandsBy-landed : (loaded : List (List ℕ)) (trail : List Primitive) (document : Document) (revision : ℕ) (expand : Expand) (empty : Empty)
    (kind : RangeKind) (span : Ends) → CameBy loaded trail document → IsTrue (can_land (history_of document) revision)
    → StandsBy loaded trail (range_at (history_of document) (length document.text) revision expand empty kind span)
StandsBy-landed loaded trail document revision expand empty kind span came may = record {
  origin = can_land_within loaded trail document revision came may;
  span = lands loaded trail document revision span expand empty came may;
}

-- ranges are made of spans of the text at a revision
pub CameBy-made : (loaded : List (List ℕ)) (trail : List Primitive) (old : Document) (revision : ℕ) (expand : Expand) (empty : Empty)
    (kind : RangeKind) (spans : List Ends) (ranges : Standings) → CameBy loaded trail old → IsTrue (can_land (history_of old) revision)
    → ((id : ℕ) → get ranges id ≡ made_of old revision expand empty kind spans id)
    → CameBy loaded trail (record old { ranges = ranges; next = old.next + length spans })
CameBy-made loaded trail old revision expand empty kind spans ranges came may made = record {
  fits = came.fits;
  text = came.text;
  revision = came.revision;
  ranges = λ id range there.
      elim (cases_lt id old.next) [
        | inl before ↦ came.ranges id range (grind (arith, nat_tests, made id))
        | inr from ↦
            let new : option_map range_here (slice_get spans (id - old.next)) ≡ Some range = grind (arith, nat_tests, made id) in
            let it = made_from range_here (slice_get spans (id - old.next)) range new in
            subst (StandsBy loaded trail) it.1.1 (StandsBy-landed loaded trail old revision expand empty kind it.0 came may)
      ];
  first = omega (arith, came.first);
  numbers = λ id there. number id (get ranges id) refl there;
  history = came.history;
} where
  range_here : Ends → Standing
  range_here = range_at (history_of old) (length old.text) revision expand empty kind

  number : (id : ℕ) (o : Option Standing) → get ranges id ≡ o → IsSome o → (1 ≤ id) × (id < old.next + length spans)
  number id None is some = absurd (cc)
  number id (Some range) is some =
      elim (cases_lt id old.next) [
        | inl before ↦
            let was : get old.ranges id ≡ Some range = grind (arith, nat_tests, made id) in
            let within = came.numbers id (subst (λ (o : Option Standing). IsSome o) (sym was) refl) in
            (within.0, omega (arith, within.1))
        | inr from ↦
            let new : option_map range_here (slice_get spans (id - old.next)) ≡ Some range = grind (arith, nat_tests, made id) in
            let it = made_from range_here (slice_get spans (id - old.next)) range new in
            let within = slice_get_within spans (id - old.next) it.0 it.1.0 in
            (omega (arith, came.first, from), omega (arith, within, from))
      ]
