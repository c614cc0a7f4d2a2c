use Rattle.kte_find.proofs.LawLemmas.{one_closing, one_opening}
use Rattle.kte_find.proofs.laws.one_pair.Goals as goal

pub returns-clause-closing : goal.returns-clause-closing
returns-clause-closing c = one_closing

pub returns-clause-opening : goal.returns-clause-opening
returns-clause-opening c = one_opening
