use Rattle.std.proofs.Common.{arith}
use Rattle.kte_causes.specs.Moments.{swap_now}
use Rattle.kte_run.proofs.Files.{swap_empty}
use Rattle.kte_run.proofs.RecoverLemmas.{swap_some}
use Rattle.kte_run.proofs.recover.check_swap.Goals as goal

pub returns-then-branch-eq0-clause-empty : goal.returns-then-branch-eq0-clause-empty
returns-then-branch-eq0-clause-empty g c = λ is.
    let none = c.if-branch-eq0.true in
    (c.in_ok-length_of.ensures.counts.calm, swap_empty (swap_now (g.D.Disk.moments c.args.disk.now)) c.in_ok-length_of.field-0 c.in_ok-length_of.ensures.before (omega (arith, none)))

pub returns-clause-some : goal.returns-clause-some
returns-clause-some g c = swap_some (swap_now (g.D.Disk.moments c.args.disk.now)) c.in_ok-length_of.field-0 c.in_ok-length_of.ensures.before c.if-branch-eq0.false
