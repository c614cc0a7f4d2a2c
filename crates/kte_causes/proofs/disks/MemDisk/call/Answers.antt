use Rattle.kte_causes.specs.DiskFaults.{count_of, total}
use Rattle.kte_causes.proofs.Changes.{calm-total, failed-total}
use Rattle.kte_causes.proofs.disks.MemDisk.call.Goals as goal

pub invariant_of-self-in_default : goal.invariant_of-self-in_default
invariant_of-self-in_default c =
    let s = c.self.inside in
    calm-total c.args.change (total (count_of s.faults)) s.shelf c.add.new.self c.self.invariant c.in_ok-add.ensures.ok

pub returns-in_default-clause-summed : goal.returns-in_default-clause-summed
returns-in_default-clause-summed c =
    let s = c.self.inside in
    calm-total c.args.change (total (count_of s.faults)) s.shelf c.add.new.self c.self.invariant c.in_ok-add.ensures.ok

pub invariant_of-self-2 : goal.invariant_of-self-2
invariant_of-self-2 c =
    let s = c.self.inside in
    let add = c.in_ok-add-2.ensures in
    let raise = c.raise-2.ensures in
    failed-total c.left.result c.args.call (count_of s.faults) (count_of c.raise-2.new.self) s.shelf c.add-2.new.self c.self.invariant add.ok add.bound raise.one_more raise.others

pub returns-clause-summed : goal.returns-clause-summed
returns-clause-summed c =
    let s = c.self.inside in
    let add = c.in_ok-add-2.ensures in
    let raise = c.raise-2.ensures in
    failed-total c.left.result c.args.call (count_of s.faults) (count_of c.raise-2.new.self) s.shelf c.add-2.new.self c.self.invariant add.ok add.bound raise.one_more raise.others
