use Rattle.std.proofs.Common.{◌≡◌, Some, None, refl, arith}
use Rattle.std.proofs.lemmas.Bool.Decides.{nat_tests}
use Rattle.std.specs.FinMap.{get, gets}
use Rattle.kte_place.specs.declared.place.OnInsert.TheVariants.{Stay, Move}
use Rattle.kte_ranges.specs.Examples.{hanging, crossed}
use Rattle.kte_ranges.proofs.examples.standing.Goals as goal

at_seven : get crossed 7 ≡ Some (hanging 5 Move)
at_seven = grind (arith, nat_tests, gets)

at_eight : get crossed 8 ≡ Some (hanging 2 Stay)
at_eight = grind (arith, nat_tests, gets)

at_nine : get crossed 9 ≡ None
at_nine = grind (arith, nat_tests, gets)

pub returns-clause-span : goal.returns-clause-span
returns-clause-span c = rw (at_seven, at_eight) refl

pub returns-clause-lost : goal.returns-clause-lost
returns-clause-lost c = rw (at_seven, at_nine) refl

pub returns-clause-settles : goal.returns-clause-settles
returns-clause-settles c = rw (at_seven, at_eight) refl

pub returns-clause-kept : goal.returns-clause-kept
returns-clause-kept c = rw (at_seven, at_eight) refl

pub returns-clause-void : goal.returns-clause-void
returns-clause-void c = rw (at_seven, at_eight) refl
