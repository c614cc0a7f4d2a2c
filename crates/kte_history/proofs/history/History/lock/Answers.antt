use Rattle.std.proofs.Common.{refl}
use Rattle.kte_history.proofs.InsideLemmas.{kept_since-lock}
use Rattle.kte_history.proofs.history.History.lock.Goals as goal

pub returns-clause-ok : goal.returns-clause-ok
returns-clause-ok c =
    let kept = kept_since-lock c.self.inside.revision c.self.inside.locks.items c.self.inside.entries.items (record { owner = c.args.owner; revision = c.self.inside.revision }) refl c.self.invariant.reached in
    rw (c.in_ok-push.ensures.items, ← c.self.view_is) (cc)
