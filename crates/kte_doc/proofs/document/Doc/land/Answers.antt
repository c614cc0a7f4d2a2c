use Rattle.std.proofs.Common.{◌∙◌, ap, subst, IsTrue, length}
use Rattle.kte_history.specs.Revisions.{can_land, landed}
use Rattle.kte_doc.specs.Trail.{in_text}
use Rattle.kte_doc.specs.Documents.{history_of}
use Rattle.kte_doc.proofs.Histories.{landed_ok, lands}
use Rattle.kte_doc.proofs.document.Doc.land.Goals as goal

pub returns-clause-stands : goal.returns-clause-stands
returns-clause-stands c loaded trail came =
    landed_ok _ c.land.result _ _ _ c.land.ensures.landed
    (λ may.
    ap (λ d. in_text (length d.text) (landed (history_of d) c.args.revision c.args.span c.args.expand c.args.empty)) c.self.view_is
    ∙ lands loaded trail c.args.self.now c.args.revision c.args.span c.args.expand c.args.empty came
    (subst (λ d. IsTrue (can_land (history_of d) c.args.revision)) c.self.view_is may))
