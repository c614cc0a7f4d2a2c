use Rattle.std.proofs.Common.{ℕ, refl, ap, ◌∙◌}
use Rattle.std.specs.FinMap.{get}
use Rattle.kte_ranges.specs.declared.info.RangeKind.TheVariants.{User}
use Rattle.kte_doc.specs.Standings.{new_range}
use Rattle.kte_core.specs.Shown.{is_standing_fold, told_of}
use Rattle.kte_core.proofs.FoldStepLemmas.{KeepsFolds-put, next_is_free}
use Rattle.kte_core.proofs.RangeLemmas.{Replies-made}
use Rattle.kte_core.proofs.ranges.make.Goals as goal

pub returns-clause-replies : goal.returns-clause-replies
returns-clause-replies c = λ state is_of.
    Replies-made state c.args.doc.now c.make_range.new.self c.args.span c.args.expand c.args.empty User c.stands.result is_of
    c.make_range.ensures.trail c.in_ok-id.ensures.ok
    (c.stands.ensures ∙ ap (λ (id : ℕ). told_of id (get c.make_range.new.self.ranges id)) c.in_ok-id.ensures.id)

pub returns-clause-folds : goal.returns-clause-folds
returns-clause-folds c = λ state is_of.
    KeepsFolds-put c.args.doc.now c.make_range.new.self c.args.doc.now.next
    (new_range c.args.doc.now.text c.args.doc.now.revision c.args.span c.args.expand c.args.empty User)
    (ap (λ d. d.text) c.in_ok-id.ensures.ok) (ap (λ d. d.ranges) c.in_ok-id.ensures.ok) refl
    (ap is_standing_fold (next_is_free c.args.doc.now.next c.args.doc.now.ranges is_of.came.numbers))
