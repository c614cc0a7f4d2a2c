use Rattle.std.proofs.Common.{◌≡◌, false}
use Rattle.kte_recover.proofs.replay.Replay.take.Goals as goal

pub returns-in-Start-clause-refused : goal.returns-in-Start-clause-refused
returns-in-Start-clause-refused c = λ e.
    let r : c.start.result ≡ false = cc in rw c.in-Start.is (c.start.ensures.refused r)

pub returns-in-Finish-clause-refused : goal.returns-in-Finish-clause-refused
returns-in-Finish-clause-refused c = λ e.
    let r : c.finish.result ≡ false = cc in rw c.in-Finish.is (c.finish.ensures.refused r)
