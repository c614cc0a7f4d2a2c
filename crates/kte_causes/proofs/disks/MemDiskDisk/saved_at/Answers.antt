use Rattle.std.proofs.Common.{◌≡◌, ◌∙◌, List, length, ap, arith}
use Rattle.kte_causes.specs.Moments.{Moment, latest}
use Rattle.kte_causes.specs.Memory.{DiskState}
use Rattle.kte_causes.proofs.Added.{latest-push}
use Rattle.kte_causes.proofs.disks.MemDiskDisk.saved_at.Goals as goal

pub copy_part-requires : goal.copy_part-requires
copy_part-requires c =
    let old = c.args.self.now.moments in
    let same : (latest c.call.new.self.moments).saved ≡ (latest old).saved =
    ap (λ (l : List Moment). (latest l).saved) c.in_ok-call.ensures.does.outcome.1 ∙ ap (λ (m : Moment). m.saved) (latest-push old (latest old)) in
    omega (arith, c.requires, ap length (c.saved.ensures ∙ ap (λ (d : DiskState). (latest d.moments).saved) c.self.view_is ∙ same))
