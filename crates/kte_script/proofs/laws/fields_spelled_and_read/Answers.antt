use Rattle.kte_script.proofs.RoundLemmas.{fields_again}
use Rattle.kte_script.proofs.laws.fields_spelled_and_read.Goals as goal

pub returns : goal.returns
returns c = fields_again
