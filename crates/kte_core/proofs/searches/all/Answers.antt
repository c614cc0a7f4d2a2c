use Rattle.std.proofs.Common.{ap, ◌∙◌}
use Rattle.kte_core.specs.React.{told_found}
use Rattle.kte_core.proofs.SearchLemmas.{are_all_matches, has_no_match}
use Rattle.kte_core.proofs.searches.all.Goals as goal

pub returns-in_err-all-clause-refused : goal.returns-in_err-all-clause-refused
returns-in_err-all-clause-refused c = λ none.
    let fine = c.in_err-all.ensures.refused (has_no_match c.args.query.now c.args.doc.now.text c.requires none) in
    absurd (cc)

pub returns-clause-reply : goal.returns-clause-reply
returns-clause-reply c =
    c.told.ensures
    ∙ ap told_found (are_all_matches c.args.query.now c.args.doc.now.text c.in_ok-all.field-0 c.requires c.in_ok-all.ensures.all)
