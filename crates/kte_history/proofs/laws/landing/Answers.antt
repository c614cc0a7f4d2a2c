use Rattle.kte_history.proofs.KeptLemmas.{lands_over_trail}
use Rattle.kte_history.proofs.LandingLemmas.{clear_entry_keeps}
use Rattle.kte_history.proofs.laws.landing.Goals as goal

pub returns-clause-whole : goal.returns-clause-whole
returns-clause-whole c = lands_over_trail

pub returns-clause-clear : goal.returns-clause-clear
returns-clause-clear c = clear_entry_keeps
