use Rattle.std.proofs.Common.{◌∙◌, sym}
use Rattle.kte_script.proofs.WordLemmas.{skip_at, skip_all}
use Rattle.kte_script.proofs.fields.skip.Goals as goal

pub returns-in-Some-clause-value : goal.returns-in-Some-clause-value
returns-in-Some-clause-value c =
    skip_at c.args.bytes.now _ c.in-Some.at (sym c.first_other.ensures ∙ c.in-Some.is) c.split_at.ensures.back

pub returns-in-None-clause-value : goal.returns-in-None-clause-value
returns-in-None-clause-value c = skip_all c.args.bytes.now (sym c.first_other.ensures ∙ c.in-None.is)
