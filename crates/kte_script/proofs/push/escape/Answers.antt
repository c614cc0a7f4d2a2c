use Rattle.std.proofs.Common.{◌∙◌, sym}
use Rattle.std.proofs.lemmas.Result.{err_from_is_err_and}
use Rattle.kte_text.proofs.SplitLemmas.{rest_is}
use Rattle.kte_script.proofs.SpellingLemmas.{none_replaced, front_stays}
use Rattle.kte_script.proofs.push.escape.Goals as goal

pub returns-then-is_itself-clause-ok : goal.returns-then-is_itself-clause-ok
returns-then-is_itself-clause-ok c =
    none_replaced c.args.out.now.items _ c.args.start (rest_is c.deref.result.now c.args.out.now.items c.args.start c.deref.ensures.value)
    (sym c.is_itself.ensures ∙ c.if-is_itself.true)

pub returns-in_err-push_byte-clause-err : goal.returns-in_err-push_byte-clause-err
returns-in_err-push_byte-clause-err c =
    let is = err_from_is_err_and c.from_residual-in_err-push_byte.result c.from_residual-in_err-push_byte.ensures.1 in
    rw is.1 (front_stays c.args.out.now.items c.push_byte.new.out.items _ c.args.start c.requires
    (c.in_err-push_byte.ensures.err ∙ c.loop-byte.invariant))
