use Rattle.std.proofs.Common.{refl}
use Rattle.kte_recover.proofs.ReplayLemmas.{took_finish}
use Rattle.kte_recover.proofs.replay.Replay.finish.Goals as goal

pub returns-clause-took : goal.returns-clause-took
returns-clause-took c = λ e. took_finish _ _ c.if-not-self.false refl refl c.clear.ensures.items refl
