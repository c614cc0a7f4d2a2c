use Rattle.kte_causes.specs.Moments.{latest, Resetting, Reset}
use Rattle.kte_causes.specs.Shelf.{emptied}
use Rattle.kte_causes.proofs.Changes.{calm-adds, reset_goes}
use Rattle.kte_causes.proofs.disks.CalmDiskDisk.reset.Goals as goal

pub returns-clause-moments : goal.returns-clause-moments
returns-clause-moments c =
    let call = c.call.ensures in
    calm-adds c.call.result emptied Resetting Reset c.args.self.now c.call.new.self (reset_goes (latest c.args.self.now)) call.ok call.err call.no_memory_alone
