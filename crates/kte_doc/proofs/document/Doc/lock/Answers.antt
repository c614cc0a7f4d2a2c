use Rattle.std.proofs.Common.{◌++◌, ◌∷◌, [], ap, sym, subst, ◌∙◌}
use Rattle.kte_history.specs.Revisions.{Revisions}
use Rattle.kte_doc.specs.Documents.{Document, CameBy}
use Rattle.kte_doc.specs.Inside.{document_of}
use Rattle.kte_doc.proofs.Histories.{CameBy-locked}
use Rattle.kte_doc.proofs.document.Doc.lock.Goals as goal

pub returns-clause-trail : goal.returns-clause-trail
returns-clause-trail c loaded trail came =
    let is =
    ap (λ (h : Revisions). document_of (record { buffer = c.self.inside.buffer; ranges = c.self.inside.ranges; history = h })) c.in_ok-revision.ensures.ok
    ∙ ap (λ (d : Document). record d { locks = d.locks ++ record { owner = c.args.owner; revision = d.revision } ∷ [] }) c.self.view_is in
    subst (CameBy loaded trail) (sym is) (CameBy-locked loaded trail c.args.self.now c.args.owner came)
