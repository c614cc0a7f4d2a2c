-- The moments of a disk in memory, and what holds of its places.
use Rattle.std.specs.Prelude.{List, [], ◌∷◌, ◌++◌, map}
use Rattle.kte_causes.specs.Moments.{Moment}
use Rattle.kte_causes.specs.Shelf.{moment_of, IsInOrder}
use Rattle.kte_causes.specs.declared.shelf.Shelf.TheInside.{Inside}

-- the moments of a shelf
abbrev pub moments_in : Inside → List Moment
moments_in shelf =
    map (moment_of shelf.saved.items shelf.swap.items) (shelf.past.items ++ shelf.present ∷ [])

-- the places of a shelf are in order
abbrev pub InOrder : Inside → Type 0
InOrder shelf =
    IsInOrder shelf.saved.items shelf.swap.items shelf.past.items shelf.present
