use Rattle.kte_script.proofs.ScriptInWordsLemmas.{scripts_in_words, bad_in_words, too_many_in_words}
use Rattle.kte_script.proofs.laws.scripts_in_words.Goals as goal

pub returns-clause-commands : goal.returns-clause-commands
returns-clause-commands c = scripts_in_words

pub returns-clause-bad : goal.returns-clause-bad
returns-clause-bad c = bad_in_words

pub returns-clause-too_many : goal.returns-clause-too_many
returns-clause-too_many c = too_many_in_words
