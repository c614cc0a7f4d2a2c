use Rattle.kte_history.proofs.LockLemmas.{oldest_is_least, no_oldest, unlocks_one, unlocks_no_other}
use Rattle.kte_history.proofs.laws.locks.Goals as goal

pub returns-clause-least : goal.returns-clause-least
returns-clause-least c = oldest_is_least

pub returns-clause-none : goal.returns-clause-none
returns-clause-none c = no_oldest

pub returns-clause-one : goal.returns-clause-one
returns-clause-one c = unlocks_one

pub returns-clause-others : goal.returns-clause-others
returns-clause-others c = unlocks_no_other
