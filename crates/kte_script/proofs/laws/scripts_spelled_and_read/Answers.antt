use Rattle.kte_script.proofs.ScriptSpelledLemmas.{spelled_again}
use Rattle.kte_script.proofs.laws.scripts_spelled_and_read.Goals as goal

pub returns : goal.returns
returns c = spelled_again
