use Rattle.kte_record.proofs.WrittenCut.{written_recovers}
use Rattle.kte_record.proofs.laws.written_swaps_recover.Goals as goal

pub returns : goal.returns
returns c = written_recovers
