-- Worked examples of what a saved file and its swap file recover to.
use Rattle.std.proofs.Common.{◌≡◌, codes, refl, arith}
use Rattle.std.proofs.lemmas.Fmt.{decimal_digit}
use Rattle.kte_recover.specs.declared.answer.Tail.TheVariants.{Clean, Torn}
use Rattle.kte_report.specs.Recovery.{tail_lines}

clean : tail_lines 1 Clean ≡ codes "transactions 1\ntail clean\n"
clean = rw (decimal_digit 1 (omega arith)) refl

torn : tail_lines 0 Torn ≡ codes "transactions 0\ntail torn\n"
torn = rw (decimal_digit 0 (omega arith)) refl
