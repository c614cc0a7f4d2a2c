use Rattle.std.proofs.Common.{[], ap, subst, refl, false, ◌∙◌}
use Rattle.kte_doc.specs.Documents.{CameBy}
use Rattle.kte_core.proofs.ReplayLemmas.{IsSound-new}
use Rattle.kte_core.proofs.session.Core.new.Goals as goal

pub invariant_of-result : goal.invariant_of-result
invariant_of-result c =
    IsSound-new (record {
      loaded = c.args.loaded;
      limit = c.args.revisions;
      present = record { doc = c.in_ok-doc.doc; undo = c.new-2.result; jobs = c.new-3.result; folds = c.new-4.result; is_closed = false };
      journal = c.reserve.new.self;
      kept = 1;
    })
    (c.in_ok-reserve.ensures.same ∙ c.new-journal.ensures) c.lines-lines.ensures.is_text
    (subst (λ text. CameBy text [] c.in_ok-doc.doc) c.in_ok-copy.ensures c.in_ok-doc.ensures.came)
    (ap (λ d. d.limit) c.in_ok-doc.ensures.ok) (ap (λ d. d.ranges) c.in_ok-doc.ensures.ok) (ap (λ d. d.next) c.in_ok-doc.ensures.ok)
    (ap (λ d. d.locks) c.in_ok-doc.ensures.ok) c.new-2.ensures c.new-3.ensures c.new-4.ensures.numbers refl refl c.in_ok-reserve.ensures.ok
