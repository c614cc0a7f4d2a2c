use Rattle.kte_causes.specs.Moments.{latest, Syncing, Synced}
use Rattle.kte_causes.specs.Shelf.{stayed, synced}
use Rattle.kte_causes.proofs.Changes.{Outcome-adds, sync_goes, sync_fails}
use Rattle.kte_causes.proofs.disks.MemDiskDisk.sync.Goals as goal

pub returns-clause-moments : goal.returns-clause-moments
returns-clause-moments c =
    Outcome-adds c.call.result _ synced (λ _. stayed) Syncing Synced c.args.self.now.moments c.call.new.self.moments (sync_goes (latest c.args.self.now.moments) c.call.ensures.synced) (sync_fails (latest c.args.self.now.moments) c.call.ensures.synced) c.call.ensures.does.outcome
