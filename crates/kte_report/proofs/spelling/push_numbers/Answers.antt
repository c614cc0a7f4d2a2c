use Rattle.std.proofs.lemmas.Result.{err_from_is_err_and}
use Rattle.kte_report.proofs.WritingLemmas.{keeps}
use Rattle.kte_report.proofs.spelling.push_numbers.Goals as goal

pub returns-in_err-push_number-clause-err : goal.returns-in_err-push_number-clause-err
returns-in_err-push_number-clause-err c =
    let is = err_from_is_err_and c.from_residual-in_err-push_number.result c.from_residual-in_err-push_number.ensures.1 in
    rw is.1 (keeps c.args.out.now.items _ c.loop-number.out.items c.push_number.new.out.items c.loop-number.invariant c.in_err-push_number.ensures.err)
