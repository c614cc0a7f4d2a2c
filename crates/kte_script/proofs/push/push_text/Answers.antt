use Rattle.std.proofs.Common.{◌∙◌, ap, arith}
use Rattle.std.proofs.lemmas.Result.{err_from_is_err_and}
use Rattle.kte_text.specs.Texts.{line_at}
use Rattle.kte_script.proofs.SpellingLemmas.{keeps, text_more, text_closed}
use Rattle.kte_script.proofs.push.push_text.Goals as goal

pub returns-in_err-push_line-2-clause-err : goal.returns-in_err-push_line-2-clause-err
returns-in_err-push_line-2-clause-err c =
    let is = err_from_is_err_and c.from_residual-in_err-push_line-2.result c.from_residual-in_err-push_line-2.ensures.1 in
    rw is.1
    (keeps c.args.out.now.items _ c.loop-n.out.items c.push_line-in-loop-n.new.out.items c.loop-n.invariant
    (keeps c.loop-n.out.items _ c.extend_from_slice-in-loop-n.new.self.items c.push_line-in-loop-n.new.out.items
    c.in_ok-extend_from_slice-2.ensures.items c.in_err-push_line-2.ensures.err))

pub loop-n-preserved : goal.loop-n-preserved
loop-n-preserved c =
    let text = c.args.text.now in
    let line = c.get-in-loop-n.ensures ∙ ap (line_at text) c.from.ensures in
    text_more c.args.out.now.items c.loop-n.out.items c.extend_from_slice-in-loop-n.new.self.items
    c.push_line-in-loop-n.new.out.items c.get-in-loop-n.result.now text c.loop-n.n (omega arith) (omega arith)
    c.loop-n.invariant c.in_ok-extend_from_slice-2.ensures.items line c.in_ok-push_line-2.ensures.ok

pub returns-clause-ok : goal.returns-clause-ok
returns-clause-ok c =
    text_closed c.args.out.now.items c.loop-n.out.items c.push.new.self.items c.args.text.now c.loop-n.n (omega arith)
    c.loop-n.invariant c.in_ok-push.ensures.items
