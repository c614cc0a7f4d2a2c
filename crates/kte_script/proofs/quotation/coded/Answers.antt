use Rattle.std.proofs.Common.{arith}
use Rattle.kte_script.proofs.StringLemmas.{too_short}
use Rattle.kte_script.proofs.quotation.coded.Goals as goal

pub returns-in_default : goal.returns-in_default
returns-in_default c = too_short c.args.bytes.now (omega arith)
