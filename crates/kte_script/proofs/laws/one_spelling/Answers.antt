use Rattle.kte_script.specs.declared.limits.Limits.TheVariants.{Script, Journal}
use Rattle.kte_script.proofs.RoundLemmas.{one_front}
use Rattle.kte_script.proofs.laws.one_spelling.Goals as goal

pub returns-clause-script : goal.returns-clause-script
returns-clause-script c = one_front Script

pub returns-clause-journal : goal.returns-clause-journal
returns-clause-journal c = one_front Journal
