use Rattle.kte_core.specs.Replay.{beginning}
use Rattle.kte_core.proofs.SteadyLemmas.{steady-beginning, steady-replay, undone_text, redone_text}
use Rattle.kte_core.proofs.laws.groups_lead_from_text_to_text.Goals as goal

pub returns : goal.returns
returns c = record {
  undo = undone_text;
  redo = redone_text;
  fit = λ loaded limit events text whole answered.
      (steady-replay (beginning loaded limit) events whole (steady-beginning loaded limit text) answered).fit;
}
