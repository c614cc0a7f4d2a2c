use Rattle.std.proofs.Common.{Some, sym, ap, ◌∙◌}
use Rattle.std.specs.FinMap as map
use Rattle.kte_ranges.proofs.Numbers.{found}
use Rattle.kte_ranges.proofs.table.RangeTable.get.Goals as goal

pub returns : goal.returns
returns c =
    let at = rw c.as_slice.ensures.value at c.in_ok-i.ensures.found in
    sym (ap (λ table. map.get table.ranges c.args.id) (sym c.self.view_is)
    ∙ found _ c.self.invariant.rising _ _ at c.index.result.now ∙ ap (λ row. Some row.1) (sym c.index.ensures))
