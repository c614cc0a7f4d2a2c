use Rattle.kte_record.proofs.OneReading.{one_reading}
use Rattle.kte_record.proofs.laws.one_reading.Goals as goal

pub returns : goal.returns
returns c = one_reading
