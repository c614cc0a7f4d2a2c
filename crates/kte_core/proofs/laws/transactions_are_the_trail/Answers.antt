use Rattle.std.proofs.Common.{[], refl, subst}
use Rattle.kte_text.specs.Primitives.{FitInTurn}
use Rattle.kte_core.specs.Replay.{beginning, replay}
use Rattle.kte_core.proofs.JournalLemmas.{follows-replay}
use Rattle.kte_core.proofs.SteadyLemmas.{steady-beginning, steady-replay, parted-replay}
use Rattle.kte_core.proofs.laws.transactions_are_the_trail.Goals as goal

pub returns : goal.returns
returns c = record {
  trail = λ loaded limit events text whole answered.
      parted-replay (beginning loaded limit) events [] whole (steady-beginning loaded limit text) answered refl;
  fit = λ loaded limit events text whole answered.
      subst (λ l. FitInTurn (replay (beginning loaded limit) events).editing.trail l.text) (follows-replay (beginning loaded limit) events).loaded
      (steady-replay (beginning loaded limit) events whole (steady-beginning loaded limit text) answered).turn;
}
