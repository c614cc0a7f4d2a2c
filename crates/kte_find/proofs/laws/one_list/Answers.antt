use Rattle.kte_find.proofs.LawLemmas.{one_findings}
use Rattle.kte_find.proofs.laws.one_list.Goals as goal

pub returns : goal.returns
returns c = one_findings
