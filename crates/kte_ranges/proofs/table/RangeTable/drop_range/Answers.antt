use Rattle.std.proofs.Common.{◌≡◌, Some, sym, ap, ◌∙◌, refl}
use Rattle.std.specs.FinMap as map
use Rattle.kte_ranges.proofs.FitLemmas.{fits_removed}
use Rattle.kte_ranges.proofs.Numbers.{found, numbers-remove}
use Rattle.kte_ranges.proofs.table.RangeTable.drop_range.Goals as goal

pub returns-clause-cursors : goal.returns-clause-cursors
returns-clause-cursors c =
    let at = rw c.as_slice.ensures.value at c.in-Some.ensures.found in
    let had : map.get c.args.self.now.ranges c.args.id ≡ Some c.remove.result.1 =
    ap (λ table. map.get table.ranges c.args.id) (sym c.self.view_is)
    ∙ found _ c.self.invariant.rising _ _ at c.remove.result ∙ ap (λ row. Some row.1) (sym c.remove.ensures.value) in
    rw had refl

pub returns-clause-ok : goal.returns-clause-ok
returns-clause-ok c =
    let at = rw c.as_slice.ensures.value at c.in-Some.ensures.found in
    rw (c.remove.ensures.items, ← c.self.view_is) (numbers-remove _ c.self.invariant.rising _ _ at)

pub invariant_of-self : goal.invariant_of-self
invariant_of-self c =
    let at = rw c.as_slice.ensures.value at c.in-Some.ensures.found in
    rw c.remove.ensures.items (fits_removed _ c.self.inside.next c.in-Some.i c.self.inside.starts c.self.invariant at.in_range)
