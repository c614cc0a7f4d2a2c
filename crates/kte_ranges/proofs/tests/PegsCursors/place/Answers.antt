use Rattle.kte_ranges.proofs.Pegs.{second_number, place_first, place_second}
use Rattle.kte_ranges.proofs.tests.PegsCursors.place.Goals as goal

pub returns-then-id-eq0 : goal.returns-then-id-eq0
returns-then-id-eq0 c = rw c.if-id-eq0.true (place_first _ _ _ _ (rw c.if-id-eq0.true at c.requires))

pub returns-else-id-eq0 : goal.returns-else-id-eq0
returns-else-id-eq0 c =
    let is = second_number _ _ _ _ _ c.if-id-eq0.false c.requires in
    rw is (place_second _ _ _ _ (rw is at c.requires))
