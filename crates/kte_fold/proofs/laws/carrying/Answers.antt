use Rattle.kte_fold.proofs.CarryLemmas.{carrying_keeps_tree}
use Rattle.kte_fold.proofs.laws.carrying.Goals as goal

pub returns : goal.returns
returns c = carrying_keeps_tree
