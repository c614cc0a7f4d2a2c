use Rattle.std.proofs.Common.{◌≡◌, IfOk, ◌∙◌, ap, sym, subst, List, ℕ}
use Rattle.std.specs.FinMap.{keys}
use Rattle.kte_doc.proofs.Maps.{keys-standings_of}
use Rattle.kte_doc.proofs.document.Doc.range_ids.Goals as goal

pub returns-clause-ids : goal.returns-clause-ids
returns-clause-ids c =
    subst (λ (numbers : List ℕ). IfOk c.ids.result (λ ids. ids.items ≡ numbers))
    (sym (keys-standings_of _ _) ∙ ap (λ d. keys d.ranges) c.self.view_is) c.ids.ensures.ids
