use Rattle.std.proofs.Common.{ap, subst, ◌<◌, ◌≤◌, ℕ}
use Rattle.kte_doc.proofs.Looks.{seen_some}
use Rattle.kte_doc.proofs.document.Doc.next_id.Goals as goal

pub returns-clause-numbers : goal.returns-clause-numbers
returns-clause-numbers c id some =
    let below = c.next_id.ensures.numbers id (seen_some _ _ _ id (ap (λ d. d.ranges) c.self.view_is) some) in
    subst (λ (n : ℕ). (1 ≤ id) × (id < n)) (ap (λ d. d.next) c.self.view_is) below
