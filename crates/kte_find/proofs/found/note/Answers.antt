use Rattle.std.proofs.Common.{◌∙◌, [], ◌∷◌, ◌++◌, sym, arith}
use Rattle.std.proofs.lemmas.List.{take_all, take_at, length-append}
use Rattle.kte_find.specs.declared.found.TheConstants.{MAX_FINDINGS}
use Rattle.kte_find.proofs.found.note.Goals as goal

pub returns-in_ok-push : goal.returns-in_ok-push
returns-in_ok-push c =
    c.in_ok-push.ensures.ok ∙ sym (take_all MAX_FINDINGS (c.args.found.now ++ c.args.span ∷ []) (simp length-append (omega arith)))

pub returns-else-len-lt-MAX_FINDINGS : goal.returns-else-len-lt-MAX_FINDINGS
returns-else-len-lt-MAX_FINDINGS c =
    sym (take_at c.args.found.now (c.args.span ∷ []) MAX_FINDINGS (omega arith))
