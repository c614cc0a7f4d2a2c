use Rattle.kte_record.proofs.WrittenCut.{other_stands}
use Rattle.kte_record.proofs.laws.other_files_stand.Goals as goal

pub returns : goal.returns
returns c = other_stands
