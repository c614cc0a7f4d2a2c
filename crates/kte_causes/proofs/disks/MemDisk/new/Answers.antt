use Rattle.std.proofs.Common.{◌∙◌, List, sym, ap}
use Rattle.kte_causes.specs.Moments.{Moment, latest}
use Rattle.kte_causes.specs.DiskFaults.{count_of}
use Rattle.kte_causes.proofs.Counting.{total-stay}
use Rattle.kte_causes.proofs.disks.MemDisk.new.Goals as goal

pub invariant_of-result : goal.invariant_of-result
invariant_of-result c =
    ap (λ (l : List Moment). (latest l).faults) c.new.ensures
    ∙ sym (total-stay (λ _. 0) (count_of c.new-3.result) c.new-3.ensures)
