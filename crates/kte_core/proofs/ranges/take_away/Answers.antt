use Rattle.std.proofs.Common.{sym, ◌∙◌}
use Rattle.kte_core.proofs.RangeLemmas.{Replies-take_away}
use Rattle.kte_core.proofs.FoldStepLemmas.{KeepsFolds-taken}
use Rattle.kte_core.proofs.ranges.take_away.Goals as goal

pub returns-clause-replies : goal.returns-clause-replies
returns-clause-replies c = λ state is_of.
    Replies-take_away state c.args.doc.now c.drop_any.new.doc c.args.id c.drop_any.result is_of
    (sym c.is_fold.ensures ∙ c.if-is_fold.false) c.drop_any.ensures.none c.drop_any.ensures.dropped c.drop_any.ensures.trail

pub returns-clause-folds : goal.returns-clause-folds
returns-clause-folds c =
    KeepsFolds-taken c.args.doc.now c.drop_any.new.doc c.args.id (sym c.is_fold.ensures ∙ c.if-is_fold.false)
    c.drop_any.ensures.none c.drop_any.ensures.dropped
