use Rattle.std.proofs.Common.{◌≡◌, ◌∙◌, List, length, ap, arith}
use Rattle.kte_causes.specs.Moments.{Moment, latest}
use Rattle.kte_causes.proofs.Added.{latest-push}
use Rattle.kte_causes.proofs.disks.CalmDiskDisk.swap_at.Goals as goal

pub copy_part-requires : goal.copy_part-requires
copy_part-requires c =
    let old = c.args.self.now in
    let same : (latest c.call.new.self).swap ≡ (latest old).swap =
    ap (λ (l : List Moment). (latest l).swap) c.in_ok-call.ensures.ok ∙ ap (λ (m : Moment). m.swap) (latest-push old (latest old)) in
    omega (arith, c.requires, ap length (c.swap.ensures ∙ ap (λ (l : List Moment). (latest l).swap) c.self.view_is ∙ same))
