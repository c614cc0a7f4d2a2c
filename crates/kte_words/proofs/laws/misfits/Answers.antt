use Rattle.kte_words.proofs.MisfitLemmas.{unfit, missing}
use Rattle.kte_words.proofs.laws.misfits.Goals as goal

pub returns-clause-unfit : goal.returns-clause-unfit
returns-clause-unfit c = unfit

pub returns-clause-missing : goal.returns-clause-missing
returns-clause-missing c = missing
