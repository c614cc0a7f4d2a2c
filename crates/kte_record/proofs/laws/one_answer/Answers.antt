use Rattle.kte_record.proofs.OneAnswer.{one_answer}
use Rattle.kte_record.proofs.laws.one_answer.Goals as goal

pub returns : goal.returns
returns c = one_answer
