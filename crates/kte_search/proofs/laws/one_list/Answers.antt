use Rattle.kte_search.proofs.MatchLemmas.{one_all}
use Rattle.kte_search.proofs.laws.one_list.Goals as goal

pub returns : goal.returns
returns c = one_all
