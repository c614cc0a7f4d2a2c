use Rattle.std.proofs.Common.{◌≡◌, ◌+◌, ◌≤◌, length, drop}
use Rattle.kte_doc.specs.Batches.{with_ranges}
use Rattle.kte_doc.proofs.batch.make_all.Given as goal

-- the ranges that are left to make lead to the same table
abbrev pub invariant-loop-info : goal.invariant-loop-info
invariant-loop-info l = record {
  room : length l.infos ≤ l.ranges.room + l.info-index;
  next : l.ranges.next ≡ l.fn.ranges.next + l.info-index;
  ranges : with_ranges l.ranges.ranges l.ranges.next (drop l.info-index l.infos)
      ≡ with_ranges l.fn.ranges.ranges l.fn.ranges.next l.infos;
}
