-- A document that was just loaded.
use Rattle.std.proofs.Common.{◌≡◌, ℕ, List, [], None, Some, refl, ap, ◌∙◌, arith}
use Rattle.std.specs.Ordering.{nat_cmp}
use Rattle.std.specs.FinMap.{get, empty, get-empty}
use Rattle.kte_ranges.specs.declared.info.RangeInfo.{RangeInfo}
use Rattle.kte_ranges.specs.Table.{Ranges}
use Rattle.kte_ranges.specs.Cursors.{Hung}
use Rattle.kte_doc.specs.Standings.{Standings}
use Rattle.kte_doc.specs.Documents.{CameBy}
use Rattle.kte_doc.specs.Inside.{standings_of, CursorsFit}
use Rattle.kte_doc.proofs.Maps.{standings_of-empty}

-- no range is there
no_range : (ranges : Ranges) (id : ℕ) → ranges ≡ empty → get ranges id ≡ None
no_range ranges id is = ap (λ (m : Ranges). get m id) is ∙ get-empty nat_cmp id

no_cursor : (hung : Hung) (n : ℕ) → hung ≡ empty → get hung n ≡ None
no_cursor hung n is = ap (λ (m : Hung). get m n) is ∙ get-empty nat_cmp n

pub CursorsFit-empty : (hung : Hung) (ranges : Ranges) (lines farthest : ℕ) → hung ≡ empty → ranges ≡ empty → CursorsFit hung ranges lines farthest
CursorsFit-empty hung ranges lines farthest none_hung none = record {
  apart = record {
    own = λ id info there. absurd (nothing id info there);
    others = λ i j n x y at_i. absurd (nothing i x at_i);
  };
  hang = λ id info c there. absurd (nothing id info there);
  held = λ n some. let no = no_cursor hung n none_hung in absurd (grind arith);
} where
  nothing : (id : ℕ) (info : RangeInfo) → get ranges id ≡ Some info → ⊥
  nothing id info there = let no = no_range ranges id none in cc

pub no_standings : (hung : Hung) (ranges : Ranges) → ranges ≡ empty → standings_of hung ranges ≡ empty
no_standings hung ranges none = ap (λ (m : Ranges). standings_of hung m) none ∙ standings_of-empty hung

pub CameBy-new : (text : List (List ℕ)) (limit : ℕ)
    → CameBy text [] (record { text = text; revision = 0; limit = limit; ranges = empty; next = 1; locks = []; kept = [] })
CameBy-new text limit = record {
  fits = tt;
  text = refl;
  revision = refl;
  ranges = λ id range there. let no = none id in absurd (cc);
  first = omega arith;
  numbers = λ id some. let no = none id in absurd (grind arith);
  history = record { revision = refl; kept = refl; locked = λ k lock below. omega arith };
} where
  nothing : Standings
  nothing = empty

  none : (id : ℕ) → get nothing id ≡ None
  none id = get-empty nat_cmp id
