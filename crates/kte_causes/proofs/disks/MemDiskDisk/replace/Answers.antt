use Rattle.kte_causes.specs.Moments.{latest, Replacing, Replaced}
use Rattle.kte_causes.specs.Shelf.{replaced, taken_place}
use Rattle.kte_causes.proofs.Changes.{Outcome-adds, replace_goes, replace_fails}
use Rattle.kte_causes.proofs.disks.MemDiskDisk.replace.Goals as goal

pub returns-clause-moments : goal.returns-clause-moments
returns-clause-moments c =
    Outcome-adds c.call.result _ (replaced c.args.bytes.now) (λ done m. taken_place done (replaced c.args.bytes.now m) m) (Replacing c.args.bytes.now) (Replaced c.args.bytes.now) c.args.self.now.moments c.call.new.self.moments (replace_goes c.args.bytes.now (latest c.args.self.now.moments)) (replace_fails c.args.bytes.now (latest c.args.self.now.moments)) c.call.ensures.does.outcome
