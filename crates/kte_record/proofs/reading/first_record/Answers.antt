use Rattle.std.proofs.Common.{sym}
use Rattle.kte_record.proofs.FieldLemmas.{none_cut}
use Rattle.kte_record.proofs.reading.first_record.Goals as goal

pub returns-in-None : goal.returns-in-None
returns-in-None c = none_cut c.args.bytes.now (sym c.in-None.ensures.value)
