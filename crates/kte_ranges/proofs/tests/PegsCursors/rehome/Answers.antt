use Rattle.kte_ranges.proofs.Pegs.{second_number, move_first, move_second}
use Rattle.kte_ranges.proofs.tests.PegsCursors.rehome.Goals as goal

pub returns-then-id-eq0-clause-cursors : goal.returns-then-id-eq0-clause-cursors
returns-then-id-eq0-clause-cursors c = rw c.if-id-eq0.true (move_first _ _ _ _ _)

pub returns-else-id-eq0-clause-cursors : goal.returns-else-id-eq0-clause-cursors
returns-else-id-eq0-clause-cursors c =
    let is = second_number _ _ _ _ _ c.if-id-eq0.false c.requires.hangs in
    rw is (move_second _ _ _ _ _)
