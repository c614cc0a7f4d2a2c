use Rattle.kte_text.proofs.CharLemmas.{utf8_of_same}
use Rattle.kte_text.proofs.laws.lines_have_one_spelling.Goals as goal

pub returns : goal.returns
returns c = utf8_of_same
