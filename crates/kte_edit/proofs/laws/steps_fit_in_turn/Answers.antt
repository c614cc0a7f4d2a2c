use Rattle.kte_edit.proofs.ChangeLemmas.{sound_change}
use Rattle.kte_edit.proofs.laws.steps_fit_in_turn.Goals as goal

pub returns : goal.returns
returns c = record {
  fit = λ change text whole has none. (sound_change change text whole has none).fit;
  text = λ change text whole has none. (sound_change change text whole has none).whole;
}
