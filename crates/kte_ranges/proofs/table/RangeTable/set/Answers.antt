use Rattle.std.proofs.Common.{◌≡◌, Some, sym, ap, ◌∙◌, refl, arith}
use Rattle.std.specs.FinMap as map
use Rattle.kte_ranges.specs.Table.{reset}
use Rattle.kte_ranges.proofs.FitLemmas.{fits_set}
use Rattle.kte_ranges.proofs.Numbers.{found, numbers_set}
use Rattle.kte_ranges.proofs.table.RangeTable.set.Goals as goal

pub returns-clause-cursors : goal.returns-clause-cursors
returns-clause-cursors c =
    let at = rw c.as_slice.ensures.value at c.in-Some.ensures.found in
    let had : map.get c.args.self.now.ranges c.args.id ≡ Some c.index_mut.result.now.1 =
    ap (λ table. map.get table.ranges c.args.id) (sym c.self.view_is)
    ∙ found _ c.self.invariant.rising _ _ at c.index_mut.result.now ∙ ap (λ row. Some row.1) (sym c.index_mut.ensures.value) in
    rw had refl

pub returns-clause-set : goal.returns-clause-set
returns-clause-set c = λ info is.
    let at = rw c.as_slice.ensures.value at c.in-Some.ensures.found in
    let had : map.get c.args.self.now.ranges c.args.id ≡ Some c.index_mut.result.now.1 =
    ap (λ table. map.get table.ranges c.args.id) (sym c.self.view_is)
    ∙ found _ c.self.invariant.rising _ _ at c.index_mut.result.now ∙ ap (λ row. Some row.1) (sym c.index_mut.ensures.value) in
    let own : info ≡ c.index_mut.result.now.1 = grind arith in
    let number : c.index_mut.result.now.0 ≡ c.args.id = ap (λ row. row.0) c.index_mut.ensures.value ∙ at.has_number c.index_mut.result.now in
    rw (own, number, ← c.self.view_is) (numbers_set _ c.self.invariant.rising _ _ at (reset c.index_mut.result.now.1 c.args.origin c.args.cursors))

pub invariant_of-self : goal.invariant_of-self
invariant_of-self c =
    let at = rw c.as_slice.ensures.value at c.in-Some.ensures.found in
    let number : c.index_mut.result.now.0 ≡ c.args.id = ap (λ row. row.0) c.index_mut.ensures.value ∙ at.has_number c.index_mut.result.now in
    rw number
    (fits_set _ c.self.inside.next c.args.id c.in-Some.i c.self.inside.starts c.note.new.self (reset c.index_mut.result.now.1 c.args.origin c.args.cursors) c.self.invariant at
    c.note.ensures.own (rw c.as_slice-2.ensures.value at c.note.ensures.others))
