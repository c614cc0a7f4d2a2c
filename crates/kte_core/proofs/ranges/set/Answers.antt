use Rattle.std.proofs.Common.{sym, ap, ◌∙◌}
use Rattle.std.specs.FinMap.{get}
use Rattle.kte_core.specs.Shown.{is_standing_fold}
use Rattle.kte_doc.specs.Standings.{reset_to}
use Rattle.kte_core.proofs.RangeLemmas.{Replies-set, there}
use Rattle.kte_core.proofs.FoldStepLemmas.{KeepsFolds-put}
use Rattle.kte_core.proofs.ranges.set.Goals as goal

pub returns-in-Ok-clause-replies : goal.returns-in-Ok-clause-replies
returns-in-Ok-clause-replies c = λ state is_of.
    Replies-set state c.args.doc.now c.set_range.new.self c.args.id c.args.span c.stands.result is_of
    (sym c.is_fold.ensures ∙ c.if-is_fold.false)
    (λ none. let refused = c.in-Ok.ensures.none none in cc)
    c.set_range.ensures.trail c.in-Ok.ensures.ok c.stands.ensures

pub returns-in-Ok-clause-folds : goal.returns-in-Ok-clause-folds
returns-in-Ok-clause-folds c =
    there (get c.args.doc.now.ranges c.args.id) (λ none. let refused = c.in-Ok.ensures.none none in cc) (λ standing found.
    let is = c.in-Ok.ensures.ok standing found in
    let none = sym c.is_fold.ensures ∙ c.if-is_fold.false in
    KeepsFolds-put c.args.doc.now c.set_range.new.self c.args.id (reset_to c.args.doc.now.text c.args.doc.now.revision c.args.span standing)
    (ap (λ d. d.text) is) (ap (λ d. d.ranges) is) (sym (ap is_standing_fold found) ∙ none) none)
