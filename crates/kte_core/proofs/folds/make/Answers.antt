use Rattle.std.proofs.Common.{ℕ, sym, ap, ◌∙◌}
use Rattle.std.specs.FinMap.{get}
use Rattle.kte_core.specs.Shown.{told_of}
use Rattle.kte_core.proofs.FoldLemmas.{AreFoldsOf-added, Replies-fold, Replies-not_folded, can_be_made, may_be_added}
use Rattle.kte_core.proofs.folds.make.Goals as goal

pub returns-in-Err-clause-replies : goal.returns-in-Err-clause-replies
returns-in-Err-clause-replies c = λ state is_of.
    Replies-not_folded state c.args.doc.now c.args.folds.now c.args.span c.in-Err.cause is_of c.requires.folds (sym c.in-Err.ensures)

pub add-requires-clause-tree : goal.add-requires-clause-tree
add-requires-clause-tree c =
    (may_be_added c.args.doc.now c.make_range.new.self c.reserve.new.self c.args.span c.args.doc.now.revision
    (can_be_made c.args.doc.now c.args.folds.now c.reserve.new.self c.args.span c.requires.folds c.next_id-next.ensures.numbers
    c.in_default.ensures c.reserve.ensures.same)
    (ap (λ d. d.text) c.in_ok-id.ensures.ok) (ap (λ d. d.ranges) c.in_ok-id.ensures.ok)).tree

pub add-requires-clause-allowed : goal.add-requires-clause-allowed
add-requires-clause-allowed c =
    rw c.in_ok-id.ensures.id
    (may_be_added c.args.doc.now c.make_range.new.self c.reserve.new.self c.args.span c.args.doc.now.revision
    (can_be_made c.args.doc.now c.args.folds.now c.reserve.new.self c.args.span c.requires.folds c.next_id-next.ensures.numbers
    c.in_default.ensures c.reserve.ensures.same)
    (ap (λ d. d.text) c.in_ok-id.ensures.ok) (ap (λ d. d.ranges) c.in_ok-id.ensures.ok)).allowed

pub returns-clause-replies : goal.returns-clause-replies
returns-clause-replies c = λ state is_of.
    Replies-fold state c.args.doc.now c.make_range.new.self c.args.folds.now c.args.span c.stands.result is_of c.requires.folds
    (sym c.in_default.ensures) c.make_range.ensures.trail c.in_ok-id.ensures.ok
    (c.stands.ensures ∙ ap (λ (id : ℕ). told_of id (get c.make_range.new.self.ranges id)) c.in_ok-id.ensures.id)

pub returns-clause-folds : goal.returns-clause-folds
returns-clause-folds c = λ state is_of.
    AreFoldsOf-added c.args.doc.now c.make_range.new.self c.reserve.new.self c.args.span c.args.doc.now.revision
    (can_be_made c.args.doc.now c.args.folds.now c.reserve.new.self c.args.span c.requires.folds c.next_id-next.ensures.numbers
    c.in_default.ensures c.reserve.ensures.same)
    (ap (λ d. d.text) c.in_ok-id.ensures.ok) (ap (λ d. d.ranges) c.in_ok-id.ensures.ok) c.add.new.self
    (rw c.in_ok-id.ensures.id at c.add.ensures.added) c.add.ensures.tree
