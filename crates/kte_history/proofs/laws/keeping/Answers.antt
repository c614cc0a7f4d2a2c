use Rattle.kte_history.proofs.KeptLemmas.{adds_to_history, locks_history, unlocks_history}
use Rattle.kte_history.proofs.laws.keeping.Goals as goal

pub returns-clause-added : goal.returns-clause-added
returns-clause-added c = adds_to_history

pub returns-clause-locked : goal.returns-clause-locked
returns-clause-locked c = locks_history

pub returns-clause-unlocked : goal.returns-clause-unlocked
returns-clause-unlocked c = unlocks_history
