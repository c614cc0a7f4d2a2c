use Rattle.kte_causes.proofs.Changes.{calm-total}
use Rattle.kte_causes.proofs.disks.CalmDisk.call.Goals as goal

pub invariant_of-self-2 : goal.invariant_of-self-2
invariant_of-self-2 c =
    calm-total c.args.change 0 c.self.inside.shelf c.add.new.self c.self.invariant c.in_ok-add.ensures.ok

pub returns-clause-summed : goal.returns-clause-summed
returns-clause-summed c =
    calm-total c.args.change 0 c.self.inside.shelf c.add.new.self c.self.invariant c.in_ok-add.ensures.ok
