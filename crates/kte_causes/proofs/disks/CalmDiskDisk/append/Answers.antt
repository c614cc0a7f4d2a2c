use Rattle.kte_causes.specs.Moments.{latest, Appending, Appended}
use Rattle.kte_causes.specs.Shelf.{appended}
use Rattle.kte_causes.proofs.Changes.{calm-adds, append_goes}
use Rattle.kte_causes.proofs.disks.CalmDiskDisk.append.Goals as goal

pub returns-clause-moments : goal.returns-clause-moments
returns-clause-moments c =
    let call = c.call.ensures in
    calm-adds c.call.result (appended c.args.bytes.now) (Appending c.args.bytes.now) (Appended c.args.bytes.now) c.args.self.now c.call.new.self (append_goes c.args.bytes.now (latest c.args.self.now)) call.ok call.err call.no_memory_alone
