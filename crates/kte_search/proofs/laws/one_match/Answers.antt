use Rattle.kte_search.proofs.MatchLemmas.{one_first, one_last}
use Rattle.kte_search.proofs.laws.one_match.Goals as goal

pub returns-clause-first : goal.returns-clause-first
returns-clause-first c = one_first

pub returns-clause-last : goal.returns-clause-last
returns-clause-last c = one_last
