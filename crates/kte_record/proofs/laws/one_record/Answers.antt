use Rattle.kte_record.proofs.RecordLemmas.{one_record}
use Rattle.kte_record.proofs.laws.one_record.Goals as goal

pub returns : goal.returns
returns c = one_record
