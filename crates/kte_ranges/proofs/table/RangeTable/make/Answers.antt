use Rattle.kte_ranges.proofs.FitLemmas.{fits_pushed}
use Rattle.kte_ranges.proofs.Numbers.{unused_number, numbers_push}
use Rattle.kte_ranges.proofs.table.RangeTable.make.Goals as goal

pub returns-clause-unused : goal.returns-clause-unused
returns-clause-unused c = rw (← c.self.view_is) (unused_number _ _ c.self.invariant.numbers)

pub returns-clause-ranges : goal.returns-clause-ranges
returns-clause-ranges c = rw (c.push_reserved.ensures.items, ← c.self.view_is) (numbers_push _ _ _ c.self.invariant.numbers)

pub invariant_of-self : goal.invariant_of-self
invariant_of-self c =
    rw c.push_reserved.ensures.items
    (fits_pushed _ c.self.inside.next c.self.inside.starts c.note.new.self c.args.info c.self.invariant (rw (← c.self.view_is) at c.requires.number)
    c.note.ensures.own (rw c.as_slice.ensures.value at c.note.ensures.others))
