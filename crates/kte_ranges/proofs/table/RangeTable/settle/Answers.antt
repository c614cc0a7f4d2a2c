use Rattle.std.proofs.Common.{◌≡◌, false}
use Rattle.kte_ranges.specs.Cursors.{Hangs, HoldsTwo, StartIsReady, holds_cursor}
use Rattle.kte_ranges.specs.Settling.{CursorsFollow}
use Rattle.kte_ranges.proofs.Tables.{every_row, every_range, ranges_settled, rows_apart, fits_settled, span_settled, written_settled, cursors_hang, cursors_apart}
use Rattle.kte_ranges.proofs.table.RangeTable.settle.Goals as goal

pub settle_rows-requires-clause-hang : goal.settle_rows-requires-clause-hang
settle_rows-requires-clause-hang g c =
    rw c.as_mut_slice.ensures.value (every_row _ c.self.invariant.rising (Hangs _) (rw (← c.self.view_is) at c.requires.hang))

pub settle_rows-requires-clause-two : goal.settle_rows-requires-clause-two
settle_rows-requires-clause-two g c =
    rw c.as_mut_slice.ensures.value (every_row _ c.self.invariant.rising HoldsTwo (rw (← c.self.view_is) at c.requires.apart.own))

pub settle_rows-requires-clause-apart : goal.settle_rows-requires-clause-apart
settle_rows-requires-clause-apart g c =
    rw c.as_mut_slice.ensures.value (rows_apart _ c.self.invariant.rising (rw (← c.self.view_is) at c.requires.apart))

pub settle_rows-requires-clause-ready : goal.settle_rows-requires-clause-ready
settle_rows-requires-clause-ready g c =
    rw c.as_mut_slice.ensures.value (every_row _ c.self.invariant.rising (StartIsReady _ _) (rw (← c.self.view_is) at c.requires.ready))

pub invariant_of-self : goal.invariant_of-self
invariant_of-self g c =
    let now = written_settled _ _ _ _ _ c.settle_rows.ensures.rows c.as_mut_slice.ensures.value c.as_mut_slice.ensures.len in
    rw now (fits_settled _ _ _ _ c.self.invariant)

pub returns-clause-ranges : goal.returns-clause-ranges
returns-clause-ranges g c =
    let now = written_settled _ _ _ _ _ c.settle_rows.ensures.rows c.as_mut_slice.ensures.value c.as_mut_slice.ensures.len in
    rw (now, ← c.self.view_is) (ranges_settled _ _)

pub returns-clause-cursors : goal.returns-clause-cursors
returns-clause-cursors g c =
    rw (← c.self.view_is) (every_range (CursorsFollow _ _) _ (rw c.as_mut_slice.ensures.value at c.settle_rows.ensures.cursors))

pub returns-clause-spans : goal.returns-clause-spans
returns-clause-spans g c = λ id info is. span_settled _ _ info (c.requires.hang id info is) (returns-clause-cursors g c id info is)

pub returns-clause-others : goal.returns-clause-others
returns-clause-others g c = λ n free.
    c.settle_rows.ensures.others n (rw c.as_mut_slice.ensures.value
    (every_row _ c.self.invariant.rising (λ info. holds_cursor info n ≡ false) (rw (← c.self.view_is) at free)))

pub returns-clause-hang : goal.returns-clause-hang
returns-clause-hang g c =
    cursors_hang _ _ c.args.self.now.ranges _ (returns-clause-ranges g c) c.requires.hang (returns-clause-cursors g c)

pub returns-clause-apart : goal.returns-clause-apart
returns-clause-apart g c =
    cursors_apart _ (g.C.Cursors.hung c.settle_rows.new.cursors) c.args.self.now.ranges _ (returns-clause-ranges g c) c.requires.apart
