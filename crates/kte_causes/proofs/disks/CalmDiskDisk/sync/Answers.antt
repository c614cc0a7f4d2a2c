use Rattle.kte_causes.specs.Moments.{latest, Syncing, Synced}
use Rattle.kte_causes.specs.Shelf.{synced}
use Rattle.kte_causes.proofs.Changes.{calm-adds, sync_goes}
use Rattle.kte_causes.proofs.disks.CalmDiskDisk.sync.Goals as goal

pub returns-clause-moments : goal.returns-clause-moments
returns-clause-moments c =
    let call = c.call.ensures in
    calm-adds c.call.result synced Syncing Synced c.args.self.now c.call.new.self (sync_goes (latest c.args.self.now) c.call.ensures.synced) call.ok call.err call.no_memory_alone
