use Rattle.std.proofs.Common.{sym, ◌∙◌}
use Rattle.kte_core.proofs.RangeLemmas.{Replies-show}
use Rattle.kte_core.proofs.ranges.show.Goals as goal

pub returns : goal.returns
returns c = λ state is_of.
    Replies-show state c.args.doc.now c.args.id c.stands.result is_of (sym c.is_fold.ensures ∙ c.if-is_fold.false) c.stands.ensures
