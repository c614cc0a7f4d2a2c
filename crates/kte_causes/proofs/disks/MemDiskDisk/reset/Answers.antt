use Rattle.kte_causes.specs.Moments.{latest, Resetting, Reset}
use Rattle.kte_causes.specs.Shelf.{emptied, taken_place}
use Rattle.kte_causes.proofs.Changes.{Outcome-adds, reset_goes, reset_fails}
use Rattle.kte_causes.proofs.disks.MemDiskDisk.reset.Goals as goal

pub returns-clause-moments : goal.returns-clause-moments
returns-clause-moments c =
    Outcome-adds c.call.result _ emptied (λ done m. taken_place done (emptied m) m) Resetting Reset c.args.self.now.moments c.call.new.self.moments (reset_goes (latest c.args.self.now.moments)) (reset_fails (latest c.args.self.now.moments)) c.call.ensures.does.outcome
