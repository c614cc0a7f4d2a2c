use Rattle.std.proofs.Common.{[], ap, sym, subst, arith}
use Rattle.kte_history.specs.Revisions.{Revisions}
use Rattle.kte_doc.specs.Documents.{CameBy}
use Rattle.kte_doc.proofs.Fields.{by_fields}
use Rattle.kte_doc.proofs.Beginning.{CursorsFit-empty, no_standings, CameBy-new}
use Rattle.kte_doc.proofs.document.Doc.new.Goals as goal

pub invariant_of-result : goal.invariant_of-result
invariant_of-result c = record {
  within = omega (arith, ap (λ (h : Revisions). h.revision) c.new-3.ensures);
  small = omega (arith, ap (λ (h : Revisions). h.limit) c.new-3.ensures, c.requires);
  cursors = CursorsFit-empty _ _ _ _ (ap (λ b. b.hung) c.in_ok-new.ensures) c.new-2.ensures.ranges;
}

ok : goal.returns-clause-ok
ok c =
    let history = c.new-3.ensures in
    by_fields _ _ (ap (λ b. b.text) c.in_ok-new.ensures) (ap (λ (h : Revisions). h.revision) history) (ap (λ (h : Revisions). h.limit) history)
    (no_standings _ _ c.new-2.ensures.ranges) c.new-2.ensures.next (ap (λ (h : Revisions). h.locks) history) (ap (λ (h : Revisions). h.kept) history)

pub returns-clause-ok : goal.returns-clause-ok
returns-clause-ok c = ok c

pub returns-clause-came : goal.returns-clause-came
returns-clause-came c = subst (CameBy c.args.text []) (sym (ok c)) (CameBy-new c.args.text c.args.limit)
