use Rattle.kte_text.proofs.PrimitiveLemmas.{IsText-after}
use Rattle.kte_text.proofs.laws.texts_stay_texts.Goals as goal

pub returns : goal.returns
returns c = IsText-after
