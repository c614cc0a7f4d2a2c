use Rattle.std.proofs.Common.{◌≡◌, ◌∙◌, List, length, ap, arith}
use Rattle.kte_causes.specs.Moments.{Moment, latest}
use Rattle.kte_causes.specs.Memory.{DiskState}
use Rattle.kte_causes.proofs.Added.{latest-push}
use Rattle.kte_causes.proofs.disks.MemDiskDisk.swap_at.Goals as goal

pub copy_part-requires : goal.copy_part-requires
copy_part-requires c =
    let old = c.args.self.now.moments in
    let same : (latest c.call.new.self.moments).swap ≡ (latest old).swap =
    ap (λ (l : List Moment). (latest l).swap) c.in_ok-call.ensures.does.outcome.1 ∙ ap (λ (m : Moment). m.swap) (latest-push old (latest old)) in
    omega (arith, c.requires, ap length (c.swap.ensures ∙ ap (λ (d : DiskState). (latest d.moments).swap) c.self.view_is ∙ same))
