use Rattle.kte_text.proofs.SavingLemmas.{length-bytes_of-le}
use Rattle.kte_text.proofs.LoadsLemmas.{Loads-bytes_of}
use Rattle.kte_text.proofs.laws.saved_texts_load.Goals as goal

pub returns-clause-loads : goal.returns-clause-loads
returns-clause-loads c = Loads-bytes_of

pub returns-clause-short : goal.returns-clause-short
returns-clause-short c = length-bytes_of-le
