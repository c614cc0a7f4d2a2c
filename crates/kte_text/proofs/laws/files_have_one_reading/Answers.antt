use Rattle.kte_text.proofs.FileLemmas.{Loads_same}
use Rattle.kte_text.proofs.laws.files_have_one_reading.Goals as goal

pub returns : goal.returns
returns c = Loads_same
