use Rattle.kte_text.proofs.PrimitiveLemmas.{after_all-append, FitInTurn-append}
use Rattle.kte_text.proofs.laws.primitives_follow_each_other.Goals as goal

pub returns-clause-text : goal.returns-clause-text
returns-clause-text c = after_all-append

pub returns-clause-fit : goal.returns-clause-fit
returns-clause-fit c = FitInTurn-append
