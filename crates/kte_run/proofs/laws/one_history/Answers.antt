use Rattle.kte_run.proofs.OneHistory.{one_schedule}
use Rattle.kte_run.proofs.laws.one_history.Goals as goal

pub returns : goal.returns
returns c = one_schedule
