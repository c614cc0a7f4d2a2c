use Rattle.std.proofs.Common.{sym, subst}
use Rattle.kte_text.specs.Units.{IsLine}
use Rattle.kte_text.proofs.CharLemmas.{IsLine-utf16_of}
use Rattle.kte_text.proofs.line.Line.of_text.Goals as goal

pub invariant_of-result : goal.invariant_of-result
invariant_of-result c = subst IsLine (sym c.in_ok-units_in.ensures) (IsLine-utf16_of c.args.text.now c.utf8.text c.requires)
