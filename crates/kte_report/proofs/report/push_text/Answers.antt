use Rattle.std.proofs.Common.{refl}
use Rattle.std.proofs.lemmas.Result.{err_from_is_err_and}
use Rattle.kte_report.proofs.ReportLemmas.{keeps_two}
use Rattle.kte_report.proofs.report.push_text.Goals as goal

pub returns-in_err-push_line-clause-err : goal.returns-in_err-push_line-clause-err
returns-in_err-push_line-clause-err g c =
    let is = err_from_is_err_and c.from_residual-in_err-push_line.result c.from_residual-in_err-push_line.ensures.1 in
    rw is.1 (keeps_two c.args.out.now.items _ _ _ c.loop-n.out.items _ refl c.loop-n.invariant c.in_err-push_line.ensures.err)
