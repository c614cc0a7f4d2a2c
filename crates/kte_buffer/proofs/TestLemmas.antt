-- What tests need of finite maps of hung cursors.
use Rattle.std.proofs.Common.{◌≡◌, ◌≢◌, ℕ, ◌≤◌, Option, Some, None, inl, inr, sym, subst, refl, arith}
use Rattle.std.proofs.lemmas.Bool.{cases_eq}
use Rattle.std.proofs.lemmas.Bool.Decides.{nat_tests}
use Rattle.std.specs.Option.{option_map, IsSome, IfSome}
use Rattle.std.specs.Ordering.{nat_cmp}
use Rattle.std.specs.FinMap.{FinMap, empty, insert, remove, get, gets}
use Rattle.kte_place.specs.Cursors.{Hanging}
use Rattle.kte_place.specs.declared.place.TheConstants.{MAX_COLUMN}
use Rattle.kte_buffer.specs.Buffer.{ColumnsFit}

-- the column of a cursor can be carried
abbrev ColumnFits : Option Hanging → Type 0
ColumnFits o = IfSome o (λ cursor. cursor.place.column ≤ MAX_COLUMN)

pub ColumnsFit-empty : ColumnsFit empty
ColumnsFit-empty id = let none : get (empty {X = Hanging} {R = nat_cmp}) id ≡ None = grind (arith, gets) in subst ColumnFits (sym none) tt

pub ColumnsFit-insert : (m : FinMap nat_cmp Hanging) (id : ℕ) (h : Hanging) → ColumnsFit m → h.place.column ≤ MAX_COLUMN
    → ColumnsFit (insert m id h)
ColumnsFit-insert m id h fit column = λ other.
    elim (cases_eq other id) [
      | inl here ↦
          let got : get (insert m id h) other ≡ Some h = grind (arith, nat_tests, gets) in
          subst ColumnFits (sym got) column
      | inr differs ↦
          let got : get (insert m id h) other ≡ get m other = grind (arith, nat_tests, gets) in
          subst ColumnFits (sym got) (fit other)
    ]

-- what was hung hangs
pub hangs : (m : FinMap nat_cmp Hanging) (id : ℕ) (h : Hanging) → IsSome (get (insert m id h) id)
hangs m id h = grind (arith, nat_tests, gets)

-- what hung still hangs where another cursor came
pub hangs_still : (m : FinMap nat_cmp Hanging) (id other : ℕ) (h : Hanging) → IsSome (get m other) → IsSome (get (insert m id h) other)
hangs_still m id other h there = grind (arith, nat_tests, gets)

-- what hung still hangs where another cursor went
pub hangs_without : (m : FinMap nat_cmp Hanging) (id other : ℕ) → other ≢ id → IsSome (get m other) → IsSome (get (remove m id) other)
hangs_without m id other differs there = grind (arith, nat_tests, gets)

-- a free number is not that of a cursor
pub free_differs : (m : FinMap nat_cmp Hanging) (id other : ℕ) → get m id ≡ None → IsSome (get m other) → other ≢ id
free_differs m id other free there same = grind (arith, nat_tests)

-- a carried cursor hangs
pub hangs_carried : (f : Hanging → Hanging) (o : Option Hanging) → IsSome o → IsSome (option_map f o)
hangs_carried f None there = absurd (cc)
hangs_carried f (Some h) there = refl
