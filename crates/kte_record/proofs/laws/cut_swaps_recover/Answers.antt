use Rattle.kte_record.proofs.WrittenCut.{written_cut}
use Rattle.kte_record.proofs.laws.cut_swaps_recover.Goals as goal

pub returns : goal.returns
returns c = written_cut
