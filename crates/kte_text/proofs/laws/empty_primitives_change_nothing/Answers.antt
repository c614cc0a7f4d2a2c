use Rattle.kte_text.proofs.PrimitiveLemmas.{after_empty}
use Rattle.kte_text.proofs.laws.empty_primitives_change_nothing.Goals as goal

pub returns : goal.returns
returns c = after_empty
