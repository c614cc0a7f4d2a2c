use Rattle.std.proofs.Common.{arith}
use Rattle.std.proofs.lemmas.Result.{err_from_is_err_and}
use Rattle.kte_script.proofs.SpellingLemmas.{keeps, spans_more}
use Rattle.kte_script.proofs.push.push_spans.Goals as goal

pub returns-in_err-push_span-clause-err : goal.returns-in_err-push_span-clause-err
returns-in_err-push_span-clause-err c =
    let is = err_from_is_err_and c.from_residual.result c.from_residual.ensures.1 in
    rw is.1 (keeps c.args.out.now.items _ c.loop-n.out.items c.push_span.new.out.items c.loop-n.invariant c.in_err-push_span.ensures.err)

pub loop-n-preserved : goal.loop-n-preserved
loop-n-preserved c =
    spans_more c.args.out.now.items c.loop-n.out.items c.push_span.new.out.items c.args.spans.now c.loop-n.n c.get.result.now
    c.get.ensures (omega arith) c.loop-n.invariant c.in_ok-push_span.ensures.ok
