use Rattle.kte_causes.specs.Moments.{latest, Replacing, Replaced}
use Rattle.kte_causes.specs.Shelf.{replaced}
use Rattle.kte_causes.proofs.Changes.{calm-adds, replace_goes}
use Rattle.kte_causes.proofs.disks.CalmDiskDisk.replace.Goals as goal

pub returns-clause-moments : goal.returns-clause-moments
returns-clause-moments c =
    let call = c.call.ensures in
    calm-adds c.call.result (replaced c.args.bytes.now) (Replacing c.args.bytes.now) (Replaced c.args.bytes.now) c.args.self.now c.call.new.self (replace_goes c.args.bytes.now (latest c.args.self.now)) call.ok call.err call.no_memory_alone
