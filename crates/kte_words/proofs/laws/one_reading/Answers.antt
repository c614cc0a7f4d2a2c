use Rattle.kte_words.proofs.MisfitLemmas.{one-misfit}
use Rattle.kte_words.proofs.CommandLemmas.{one-command, read}
use Rattle.kte_words.proofs.laws.one_reading.Goals as goal

pub returns-clause-some : goal.returns-clause-some
returns-clause-some c = read

pub returns-clause-one_command : goal.returns-clause-one_command
returns-clause-one_command c = one-command

pub returns-clause-one_misfit : goal.returns-clause-one_misfit
returns-clause-one_misfit c = one-misfit
