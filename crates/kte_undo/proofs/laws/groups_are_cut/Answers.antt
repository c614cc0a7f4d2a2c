use Rattle.kte_undo.proofs.InverseLemmas.{steps_along-append, undo_of-append}
use Rattle.kte_undo.proofs.laws.groups_are_cut.Goals as goal

pub returns : goal.returns
returns c = record { steps = steps_along-append; undo = undo_of-append }
