use Rattle.std.proofs.lemmas.Result.{on_err_weaker}
use Rattle.kte_script.proofs.SpellingLemmas.{keeps_four}
use Rattle.kte_script.proofs.spelling.push_land.Goals as goal

pub returns-clause-err : goal.returns-clause-err
returns-clause-err c =
    on_err_weaker c.push_empty.result
    (keeps_four _ _ _ _ _ _ _ _ _ _ c.in_ok-extend_from_slice.ensures.items c.in_ok-push_number.ensures.ok c.in_ok-push_span.ensures.ok c.in_ok-push_expand.ensures.ok)
    c.push_empty.ensures.err
