use Rattle.std.proofs.Common.{◌≡◌, refl, sym, ap, arith}
use Rattle.kte_causes.specs.Moments.{swap_now}
use Rattle.kte_run.specs.declared.status.Status.TheVariants as status
use Rattle.kte_run.proofs.Files.{swap_there, swap_empty, swap_length, swap_both}
use Rattle.kte_run.proofs.saved.check_no_swap.Goals as goal

pub returns-then-bytes-gt0-clause-present : goal.returns-then-bytes-gt0-clause-present
returns-then-bytes-gt0-clause-present g c = λ bytes is.
    let same : c.in_ok-bytes.bytes ≡ bytes = cc is in
    (c.in_ok-bytes.ensures.counts.calm, swap_there (swap_now (g.D.Disk.moments c.args.disk.now)) c.in_ok-bytes.bytes bytes same c.in_ok-bytes.ensures.before c.if-bytes-gt0.true)

pub returns-then-bytes-gt0-clause-present_comes : goal.returns-then-bytes-gt0-clause-present_comes
returns-then-bytes-gt0-clause-present_comes g c = λ swap is some.
    ((0, omega arith, ap status.SwapPresent (sym (swap_length (swap_now (g.D.Disk.moments c.args.disk.now)) c.in_ok-bytes.bytes swap c.in_ok-bytes.ensures.before is))), refl)

pub returns-clause-empty : goal.returns-clause-empty
returns-clause-empty g c = swap_empty (swap_now (g.D.Disk.moments c.args.disk.now)) c.in_ok-bytes.bytes c.in_ok-bytes.ensures.before c.if-bytes-gt0.false

pub returns-clause-present_comes : goal.returns-clause-present_comes
returns-clause-present_comes g c = λ swap is some.
    let old = g.D.Disk.moments c.args.disk.now in
    absurd (swap_both (swap_now old) swap (swap_empty (swap_now old) c.in_ok-bytes.bytes c.in_ok-bytes.ensures.before c.if-bytes-gt0.false) is some)
