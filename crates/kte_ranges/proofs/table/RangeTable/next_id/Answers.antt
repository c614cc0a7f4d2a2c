use Rattle.kte_ranges.proofs.Numbers.{numbers_below}
use Rattle.kte_ranges.proofs.table.RangeTable.next_id.Goals as goal

pub returns-clause-numbers : goal.returns-clause-numbers
returns-clause-numbers c = rw (← c.self.view_is) (numbers_below _ _ c.self.invariant.numbers)
