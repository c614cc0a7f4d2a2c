use Rattle.kte_run.proofs.OutputLemmas.{Outputs-same, OutputsWell-same}
use Rattle.kte_run.proofs.laws.output_is_unique.Goals as goal

pub returns : goal.returns
returns c = record {
  well = OutputsWell-same;
  calm = λ script file a b one other before after other_before other_after. Outputs-same script file one other before after other_before other_after a b;
}
