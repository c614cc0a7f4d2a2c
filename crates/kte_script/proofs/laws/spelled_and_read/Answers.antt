use Rattle.kte_script.proofs.RoundLemmas.{command_again}
use Rattle.kte_script.proofs.TextLemmas.{line_again}
use Rattle.kte_script.proofs.laws.spelled_and_read.Goals as goal

pub returns-clause-words : goal.returns-clause-words
returns-clause-words c = command_again

pub returns-clause-line : goal.returns-clause-line
returns-clause-line c = line_again
