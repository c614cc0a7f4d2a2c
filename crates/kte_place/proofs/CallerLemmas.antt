-- Lemmas for callers: what moving a cursor, and taking one out, does to the cursors that hang.
use Rattle.std.proofs.Common.{◌≡◌, ◌≢◌, ℕ, ◌==◌, if◌then◌else◌, Option, None, Some, IsSome, refl, arith}
use Rattle.std.proofs.lemmas.Bool.Decides.{nat_tests}
use Rattle.std.specs.Ordering.{nat_cmp}
use Rattle.std.specs.FinMap.{FinMap, get, remove, gets}
use Rattle.kte_place.specs.declared.place.Place.{Place}
use Rattle.kte_place.specs.Cursors.{Hanging, place_of, cursor_at, with_cursor, with_place}
use Rattle.kte_place.specs.Laws.{MovesOne, TakesOne}

pub moves_one : MovesOne
moves_one m id p other = by_what_hangs (get m id) refl where
  by_what_hangs : (o : Option Hanging) → get m id ≡ o → get (with_cursor m id (cursor_at p o)) other ≡ (if other == id then cursor_at p o else get m other)
  by_what_hangs None e = grind (arith, nat_tests)
  by_what_hangs (Some h) e = grind (arith, nat_tests, gets)

pub takes_one : TakesOne
takes_one m id other = grind (arith, nat_tests, gets)

-- a cursor is at the place to which it was moved
pub stands_there : (m : FinMap nat_cmp Hanging) (id : ℕ) (p : Place) → IsSome (get m id) → place_of (get (with_place m id p) id) ≡ Some p
stands_there m id p h = rw moves_one (by_what_hangs (get m id) h) where
  by_what_hangs : (o : Option Hanging) → IsSome o → place_of (if id == id then cursor_at p o else o) ≡ Some p
  by_what_hangs None h = absurd (grind arith)
  by_what_hangs (Some x) h = grind (arith, nat_tests)

-- another cursor hangs as it did
pub moved_other : (m : FinMap nat_cmp Hanging) (id other : ℕ) (p : Place) → other ≢ id → get (with_place m id p) other ≡ get m other
moved_other m id other p apart = rw moves_one (grind (arith, nat_tests))

pub taken_other : (m : FinMap nat_cmp Hanging) (id other : ℕ) → other ≢ id → get (remove m id) other ≡ get m other
taken_other m id other apart = rw takes_one (grind (arith, nat_tests))

-- a cursor that hung hangs after any is moved
pub still_hangs : (m : FinMap nat_cmp Hanging) (id other : ℕ) (p : Place) → IsSome (get m other) → IsSome (get (with_place m id p) other)
still_hangs m id other p h = rw moves_one (by_what_hangs (get m id) refl) where
  by_what_hangs : (o : Option Hanging) → get m id ≡ o → IsSome (if other == id then cursor_at p o else get m other)
  by_what_hangs None e = grind (arith, nat_tests, h)
  by_what_hangs (Some x) e = grind (arith, nat_tests, h)
