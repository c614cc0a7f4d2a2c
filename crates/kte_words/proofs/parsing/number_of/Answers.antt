use Rattle.std.proofs.Common.{arith}
use Rattle.std.proofs.lemmas.Bool.Decides.{nat_tests}
use Rattle.kte_words.proofs.NumberLemmas.{digits-model}
use Rattle.kte_words.proofs.parsing.number_of.Goals as goal

pub returns-then-not-is_numeral : goal.returns-then-not-is_numeral
returns-then-not-is_numeral c = λ is.
    let digits = digits-model.from c.args.word.now is.digits.1 in
    let short = is.short in
    grind (arith, nat_tests)
