use Rattle.std.proofs.Common.{take}
use Rattle.kte_causes.specs.Moments.{latest, Appending, Appended}
use Rattle.kte_causes.specs.Shelf.{appended}
use Rattle.kte_causes.proofs.Changes.{Outcome-adds, append_goes, append_fails}
use Rattle.kte_causes.proofs.disks.MemDiskDisk.append.Goals as goal

pub returns-clause-moments : goal.returns-clause-moments
returns-clause-moments c =
    Outcome-adds c.call.result _ (appended c.args.bytes.now) (λ done. appended (take done c.args.bytes.now)) (Appending c.args.bytes.now) (Appended c.args.bytes.now) c.args.self.now.moments c.call.new.self.moments (append_goes c.args.bytes.now (latest c.args.self.now.moments)) (append_fails c.args.bytes.now (latest c.args.self.now.moments)) c.call.ensures.does.outcome
