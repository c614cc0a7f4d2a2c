use Rattle.std.proofs.Common.{arith}
use Rattle.kte_script.proofs.NumberLemmas.{one_more}
use Rattle.kte_script.proofs.fields.digits_value.Goals as goal

pub returns-in_default : goal.returns-in_default
returns-in_default c =
    let more = one_more c.args.word.now c.loop-byte.byte-index c.requires (omega arith) in
    omega (arith, more.value, more.whole)

pub loop-byte-preserved : goal.loop-byte-preserved
loop-byte-preserved c =
    let more = one_more c.args.word.now c.loop-byte.byte-index c.requires (omega arith) in
    omega (arith, more.value)
