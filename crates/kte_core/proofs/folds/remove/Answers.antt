use Rattle.std.proofs.Common.{ap}
use Rattle.kte_core.proofs.FoldLemmas.{AreFoldsOf-removed, Replies-unfold, fold_stands}
use Rattle.kte_core.proofs.folds.remove.Goals as goal

pub returns-in-Ok-clause-replies : goal.returns-in-Ok-clause-replies
returns-in-Ok-clause-replies c = λ state is_of.
    fold_stands c.args.doc.now c.args.folds.now c.args.id c.requires c.in-Ok.ensures.fold (λ range found.
    let it = c.drop_any.ensures.dropped range found in
    Replies-unfold state c.args.doc.now c.drop_any.new.doc c.args.folds.now c.args.id c.drop_any.result is_of c.requires
    c.in-Ok.ensures.fold c.drop_any.ensures.trail it.1 it.0)

pub returns-in-Ok-clause-folds : goal.returns-in-Ok-clause-folds
returns-in-Ok-clause-folds c =
    fold_stands c.args.doc.now c.args.folds.now c.args.id c.requires c.in-Ok.ensures.fold (λ range found.
    let is = (c.drop_any.ensures.dropped range found).1 in
    AreFoldsOf-removed c.args.doc.now c.drop_any.new.doc c.args.folds.now c.remove.new.self c.args.id c.requires
    (ap (λ d. d.text) is) (ap (λ d. d.ranges) is) c.in-Ok.ensures.removed c.in-Ok.ensures.tree)
