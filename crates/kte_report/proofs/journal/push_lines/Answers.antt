use Rattle.std.proofs.Common.{length}
use Rattle.std.proofs.lemmas.Result.{err_from_is_err_and}
use Rattle.kte_report.proofs.WritingLemmas.{keeps, one_more}
use Rattle.kte_report.proofs.journal.push_lines.Goals as goal

pub returns-in_err-push_line-clause-err : goal.returns-in_err-push_line-clause-err
returns-in_err-push_line-clause-err c =
    let is = err_from_is_err_and c.from_residual-in_err-push_line.result c.from_residual-in_err-push_line.ensures.1 in
    rw is.1 (keeps c.args.out.now.items _ c.loop-n.out.items c.push_line.new.out.items c.loop-n.invariant c.in_err-push_line.ensures.err)

pub loop-n-preserved : goal.loop-n-preserved
loop-n-preserved c =
    one_more (length c.args.journal.now.events) c.args.out.now.items c.loop-n.out.items c.push_line.new.out.items c.args.journal.now.events c.loop-n.n c.get.result.now c.get.ensures c.loop-n.invariant c.in_ok-push_line.ensures.ok
