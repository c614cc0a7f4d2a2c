use Rattle.kte_script.proofs.LineInWordsLemmas.{commands_in_words, faults_in_words}
use Rattle.kte_script.proofs.laws.lines_in_words.Goals as goal

pub returns-clause-command : goal.returns-clause-command
returns-clause-command c = commands_in_words

pub returns-clause-fault : goal.returns-clause-fault
returns-clause-fault c = faults_in_words
