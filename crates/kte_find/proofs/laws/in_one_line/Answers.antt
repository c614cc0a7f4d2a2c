use Rattle.kte_find.proofs.LawLemmas.{finding_there, finding_same, finding_some, finding_within}
use Rattle.kte_find.proofs.laws.in_one_line.Goals as goal

pub returns-clause-there : goal.returns-clause-there
returns-clause-there c = finding_there

pub returns-clause-same : goal.returns-clause-same
returns-clause-same c = finding_same

pub returns-clause-some : goal.returns-clause-some
returns-clause-some c = finding_some

pub returns-clause-within : goal.returns-clause-within
returns-clause-within c = finding_within
