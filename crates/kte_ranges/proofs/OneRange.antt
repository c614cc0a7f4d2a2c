-- What settling one range does to its cursors.
use Rattle.std.proofs.Common.{◌≡◌, ◌≢◌, ℕ, true, false, not, ◌&&◌, nat_eq, Option, None, Some, IsSome, IsTrue, refl, sym, ◌∙◌, arith}
use Rattle.std.proofs.lemmas.Bool.Decides.{nat_tests}
use Rattle.std.specs.FinMap.{get, remove}
use Rattle.kte_place.specs.declared.place.Place.{Place}
use Rattle.kte_place.specs.declared.span.Empty.{Empty}
use Rattle.kte_place.specs.declared.span.Empty.TheVariants.{Allow, Void}
use Rattle.kte_place.specs.Place.{is_before}
use Rattle.kte_place.specs.Span.{ends, settle}
use Rattle.kte_place.specs.Cursors.{Hanging, place_of, cursor_at, with_place}
use Rattle.kte_place.proofs.CallerLemmas.{moves_one, takes_one, moved_other, taken_other}
use Rattle.kte_ranges.specs.declared.info.RangeInfo.{RangeInfo}
use Rattle.kte_ranges.specs.Cursors.{Hung, span_of, holds_cursor, is_among, Hangs, HoldsTwo}
use Rattle.kte_ranges.specs.Settling.{settled_span, CursorsFollow}

-- a range stands where its two cursors stand
pub span_is : (hung : Hung) (info : RangeInfo) (c : ℕ × ℕ) (a b : Place) → info.cursors ≡ Some c
    → place_of (get hung c.0) ≡ Some a → place_of (get hung c.1) ≡ Some b → span_of hung info ≡ Some (ends a b)
span_is hung info c a b is at_a at_b = rw (is, at_a, at_b)

pub settled_is : (hung : Hung) (info : RangeInfo) (c : ℕ × ℕ) (a b : Place) → info.cursors ≡ Some c
    → place_of (get hung c.0) ≡ Some a → place_of (get hung c.1) ≡ Some b → settled_span hung info ≡ settle a b info.empty
settled_is hung info c a b is at_a at_b = rw (is, at_a, at_b)

-- a span keeps its start, and its end is moved only where it stands before the start
pub end_moves : (e : Empty) (a b x y : Place) → settle a b e ≡ Some (ends x y)
    → not (nat_eq y.line b.line && nat_eq y.column b.column) ≡ true → (y ≡ a) × IsTrue (is_before b a)
end_moves Allow a b x y s moved = grind (arith, nat_tests)
end_moves Void a b x y s moved = grind (arith, nat_tests)

pub start_stays : (e : Empty) (a b x y : Place) → settle a b e ≡ Some (ends x y) → x ≡ a
start_stays Allow a b x y s = grind (arith, nat_tests)
start_stays Void a b x y s = grind (arith, nat_tests)

-- a cursor is where it is
at_own_place : (h : Option Hanging) (a : Place) → place_of h ≡ Some a → h ≡ cursor_at a h
at_own_place None a at_a = refl
at_own_place (Some h) a at_a = grind arith

-- the two pairs of cursors of one range
pub same_pair : (info : RangeInfo) (c d : ℕ × ℕ) → info.cursors ≡ Some c → info.cursors ≡ Some d → c ≡ d
same_pair info c d is at = grind arith

-- a range that becomes invalid
pub taken : (hung : Hung) (info : RangeInfo) (c : ℕ × ℕ) → info.cursors ≡ Some c → settled_span hung info ≡ None
    → CursorsFollow hung (remove (remove hung c.0) c.1) info
taken hung info c is none = record {
  start = λ d at. rw (none, ← same_pair info c d is at) (rw (takes_one, takes_one) (grind (arith, nat_tests)));
  end = λ d at. rw (none, ← same_pair info c d is at) (rw takes_one (grind (arith, nat_tests)));
}

pub taken_others : (hung : Hung) (info : RangeInfo) (c : ℕ × ℕ) → info.cursors ≡ Some c → (n : ℕ) → holds_cursor info n ≡ false
    → get (remove (remove hung c.0) c.1) n ≡ get hung n
taken_others hung info c is n free = by_test (rw is at free) where
  by_test : is_among (Some c) n ≡ false → get (remove (remove hung c.0) c.1) n ≡ get hung n
  by_test free = rw (takes_one, takes_one) (grind (arith, nat_tests))

-- a range whose end goes to its start
pub moved : (hung : Hung) (info : RangeInfo) (c : ℕ × ℕ) (a y : Place) → HoldsTwo info → info.cursors ≡ Some c
    → place_of (get hung c.0) ≡ Some a → settled_span hung info ≡ Some (ends a y)
    → CursorsFollow hung (with_place hung c.1 y) info
moved hung info c a y two is at_a some = record {
  start = λ d at. rw (some, ← same_pair info c d is at) (moved_other hung c.1 c.0 y (two c is) ∙ at_own_place _ a at_a);
  end = λ d at. rw (some, ← same_pair info c d is at) (moves_one hung c.1 y c.1 ∙ grind (arith, nat_tests));
}

pub moved_others : (hung : Hung) (info : RangeInfo) (c : ℕ × ℕ) (y : Place) → info.cursors ≡ Some c → (n : ℕ) → holds_cursor info n ≡ false
    → get (with_place hung c.1 y) n ≡ get hung n
moved_others hung info c y is n free = by_test (rw is at free) where
  by_test : is_among (Some c) n ≡ false → get (with_place hung c.1 y) n ≡ get hung n
  by_test free = rw moves_one (grind (arith, nat_tests))

-- the second cursor still hangs once the first is taken out
pub second_hangs : (hung : Hung) (info : RangeInfo) (c : ℕ × ℕ) → Hangs hung info → HoldsTwo info → info.cursors ≡ Some c
    → IsSome (get (remove hung c.0) c.1)
second_hangs hung info c hangs two is =
    let apart : c.1 ≢ c.0 = λ e. two c is (sym e) in
    let held : IsTrue (is_among (Some c) c.1) = grind (arith, nat_tests) in
    let holds : IsTrue (holds_cursor info c.1) = rw is held in
    rw taken_other (hangs c.1 holds)
