use Rattle.std.proofs.Common.{◌≡◌, Option, subst, ◌∙◌}
use Rattle.std.specs.Prelude.{IfOk}
use Rattle.std.specs.Option.{option_to_list}
use Rattle.kte_place.specs.Ends.{Ends}
use Rattle.kte_core.specs.React.{told_found}
use Rattle.kte_core.proofs.SearchLemmas.{is_first_match}
use Rattle.kte_core.proofs.searches.find.Goals as goal

pub returns-clause-reply : goal.returns-clause-reply
returns-clause-reply c =
    subst (λ (found : Option Ends). IfOk c.told_one.result (λ reply. reply ≡ told_found (option_to_list found)))
    (is_first_match c.args.query.now c.args.doc.now.text c.args.from c.find.result c.requires c.find.ensures.found c.find.ensures.none)
    c.told_one.ensures.reply

pub returns-clause-refused : goal.returns-clause-refused
returns-clause-refused c = λ none. c.told_one.ensures.refused
    (is_first_match c.args.query.now c.args.doc.now.text c.args.from c.find.result c.requires c.find.ensures.found c.find.ensures.none ∙ none)
