use Rattle.std.proofs.Common.{◌∙◌, arith}
use Rattle.std.specs.Prelude.{not}
use Rattle.std.proofs.lemmas.List.Sums.{prefix_len-le-length}
use Rattle.kte_script.proofs.WordLemmas.{position_or}
use Rattle.kte_script.proofs.StringLemmas.{is_special}
use Rattle.kte_script.proofs.quotation.plain_len.Goals as goal

pub returns-clause-count : goal.returns-clause-count
returns-clause-count c =
    c.unwrap_or.ensures ∙ position_or is_special c.args.bytes.now c.first_special.result c.first_special.ensures

pub returns-clause-within : goal.returns-clause-within
returns-clause-within c =
    let same = c.unwrap_or.ensures ∙ position_or is_special c.args.bytes.now c.first_special.result c.first_special.ensures in
    omega (arith, same, prefix_len-le-length (λ byte. not (is_special byte)) c.args.bytes.now)
