use Rattle.std.proofs.Common.{◌≡◌, Ok, None, IsTrue, refl, ap, ◌∙◌, sym}
use Rattle.kte_place.specs.Span.{settle}
use Rattle.kte_history.specs.Revisions.{can_land, entries_since}
use Rattle.kte_history.proofs.LandingLemmas.{carry_all-None}
use Rattle.kte_history.proofs.history.History.carry_span.Goals as goal

pub returns-in-None-clause-landed : goal.returns-in-None-clause-landed
returns-in-None-clause-landed c =
    let can : IsTrue (can_land c.args.self.now c.args.revision) = c.in-Some.ensures.some.0 refl in
    let lost : settle c.args.span.start c.args.span.end c.args.empty ≡ None =
    ap (λ span. settle span.start span.end c.args.empty) (sym c.span.view_is) ∙ sym c.settle.ensures ∙ c.in-None.is in
    rw (can, lost) (ap Ok (sym (carry_all-None (entries_since c.args.self.now.revision c.args.revision c.args.self.now.kept) c.args.expand c.args.empty)))
