use Rattle.std.proofs.Common.{arith}
use Rattle.kte_text.proofs.SavingLemmas.{length-utf8-le}
use Rattle.kte_text.proofs.hashing.Writer.put_run.Goals as goal

pub make_room-requires-clause-short : goal.make_room-requires-clause-short
make_room-requires-clause-short c = omega (arith, length-utf8-le c.args.units.now c.requires.line)
