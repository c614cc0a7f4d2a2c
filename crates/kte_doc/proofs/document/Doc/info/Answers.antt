use Rattle.std.proofs.Common.{sym, ap}
use Rattle.kte_doc.proofs.Looks.{told}
use Rattle.kte_doc.proofs.document.Doc.info.Goals as goal

pub returns : goal.returns
returns c =
    told _ _ _ _ _ c.args.id c.self.invariant.cursors (ap (λ d. d.ranges) c.self.view_is) c.get.result (sym c.get.ensures)
