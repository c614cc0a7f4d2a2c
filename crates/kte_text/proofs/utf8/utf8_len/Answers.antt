use Rattle.std.proofs.Common.{arith, ◌<◌, ◌^◌, ◌+◌, ◌≡◌, ◌∙◌, length, drop, sum_by, sym, ap, add-zero, []}
use Rattle.std.proofs.lemmas.List.{drop_all}
use Rattle.std.proofs.lemmas.List.Sums.{sum_by-drop_more}
use Rattle.kte_text.specs.Units.{utf8_of}
use Rattle.kte_text.specs.Utf8.{width}
use Rattle.kte_text.proofs.Utf8Lemmas.{length-utf8_of, width_bounds}
use Rattle.kte_text.proofs.utf8.utf8_len.Goals as goal

pub overflow_add-length : goal.overflow_add-length
overflow_add-length c =
    let units = c.args.units.now in
    let few : length units < 2 ^ 62 = omega arith in
    let all = width_bounds units in
    let left = sum_by-drop_more width units c.loop-unit.unit-index 0 c.loop-unit-test.true in
    omega (arith, few, all.1, left)

pub returns : goal.returns
returns c =
    let units = c.args.units.now in
    let none : drop c.loop-unit.unit-index units ≡ [] = drop_all c.loop-unit.unit-index units c.loop-unit-test.false in
    let whole = rw none at c.loop-unit.invariant in
    let size = length-utf8_of units c.requires in
    omega (arith, whole, size)
