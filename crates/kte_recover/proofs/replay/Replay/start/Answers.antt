use Rattle.std.proofs.Common.{refl}
use Rattle.kte_recover.proofs.ReplayLemmas.{took_start}
use Rattle.kte_recover.proofs.replay.Replay.start.Goals as goal

pub returns-clause-took : goal.returns-clause-took
returns-clause-took c = λ e. took_start _ _ c.if-self.false refl refl refl refl
