use Rattle.std.proofs.Common.{◌≡◌, ◌∙◌, List, length, ap, arith}
use Rattle.kte_causes.specs.Moments.{Moment, latest}
use Rattle.kte_causes.proofs.Added.{latest-push}
use Rattle.kte_causes.proofs.disks.CalmDiskDisk.saved_at.Goals as goal

pub copy_part-requires : goal.copy_part-requires
copy_part-requires c =
    let old = c.args.self.now in
    let same : (latest c.call.new.self).saved ≡ (latest old).saved =
    ap (λ (l : List Moment). (latest l).saved) c.in_ok-call.ensures.ok ∙ ap (λ (m : Moment). m.saved) (latest-push old (latest old)) in
    omega (arith, c.requires, ap length (c.saved.ensures ∙ ap (λ (l : List Moment). (latest l).saved) c.self.view_is ∙ same))
