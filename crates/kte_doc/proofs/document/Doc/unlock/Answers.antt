use Rattle.std.proofs.Common.{ap, sym, subst, ◌∙◌}
use Rattle.kte_history.specs.Locks.{oldest, unlocked}
use Rattle.kte_history.specs.Revisions.{Revisions, kept_since}
use Rattle.kte_doc.specs.Documents.{Document, CameBy}
use Rattle.kte_doc.specs.Inside.{document_of}
use Rattle.kte_doc.proofs.Histories.{CameBy-unlocked}
use Rattle.kte_doc.proofs.document.Doc.unlock.Goals as goal

pub returns-clause-trail : goal.returns-clause-trail
returns-clause-trail c loaded trail came =
    let is =
    ap (λ (h : Revisions). document_of (record { buffer = c.self.inside.buffer; ranges = c.self.inside.ranges; history = h })) c.in_ok-unlock.ensures.ok
    ∙ ap (λ (d : Document). record d {
      locks = unlocked d.locks c.args.owner c.args.revision;
      kept = kept_since d.revision (oldest (unlocked d.locks c.args.owner c.args.revision)) d.kept;
    }) c.self.view_is in
    subst (CameBy loaded trail) (sym is) (CameBy-unlocked loaded trail c.args.self.now c.args.owner c.args.revision came)
