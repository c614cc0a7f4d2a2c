use Rattle.kte_text.proofs.FlatLemmas.{is_one_splice, length-flatten, is_known_by_units}
use Rattle.kte_text.proofs.laws.texts_as_lists.Goals as goal

pub returns : goal.returns
returns c = record { spliced = is_one_splice; size = length-flatten; known = is_known_by_units }
