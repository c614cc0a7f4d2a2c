use Rattle.std.proofs.Common.{◌≡◌, rules}
use Rattle.std.specs.FinMap as map
use Rattle.std.specs.List.Sorted.{IsStrictlyIncreasing}
use Rattle.std.proofs.lemmas.Result.{IfOk-weaker}
use Rattle.kte_ranges.proofs.Numbers.{keys-from_entries, keys_rise}
use Rattle.kte_ranges.proofs.table.RangeTable.ids.Goals as goal

pub returns-clause-ids : goal.returns-clause-ids
returns-clause-ids c = rw (← c.self.view_is, keys-from_entries _ c.self.invariant.rising, ← c.deref.ensures.value) (search rules)

pub returns-clause-rising : goal.returns-clause-rising
returns-clause-rising c =
    IfOk-weaker _ (λ ids. ids.items ≡ map.keys c.args.self.now.ranges) (λ ids. IsStrictlyIncreasing ids.items)
    (λ ids same. rw (same, ← c.self.view_is) (keys_rise _ c.self.invariant.rising)) (returns-clause-ids c)
