use Rattle.std.proofs.Common.{◌≡◌, false, ◌∙◌, sym}
use Rattle.kte_history.specs.Locks.{has_lock}
use Rattle.kte_history.proofs.KeptLemmas.{kept_since-unlocked}
use Rattle.kte_history.proofs.LockLemmas.{unlocked-none}
use Rattle.kte_history.proofs.InsideLemmas.{unlocked_sound}
use Rattle.kte_history.proofs.history.History.unlock.Goals as goal

pub invariant_of-self : goal.invariant_of-self
invariant_of-self c =
    rw c.remove_first.ensures.removed
    (unlocked_sound c.self.inside.entries.items c.self.inside.locks.items c.args.owner c.args.revision c.self.inside.revision c.self.inside.limit c.self.invariant)

pub returns-then-not-remove_first-clause-err : goal.returns-then-not-remove_first-clause-err
returns-then-not-remove_first-clause-err c =
    let none : has_lock c.self.inside.locks.items c.args.owner c.args.revision ≡ false = sym c.remove_first.ensures.found ∙ c.if-not-remove_first.true in
    rw (c.remove_first.ensures.removed, unlocked-none c.self.inside.locks.items c.args.owner c.args.revision none) c.self.view_is

pub invariant_of-self-2 : goal.invariant_of-self-2
invariant_of-self-2 c =
    rw c.remove_first.ensures.removed
    (unlocked_sound c.self.inside.entries.items c.self.inside.locks.items c.args.owner c.args.revision c.self.inside.revision c.self.inside.limit c.self.invariant)

pub returns-clause-ok : goal.returns-clause-ok
returns-clause-ok c =
    let kept = kept_since-unlocked c.self.inside.revision c.self.inside.locks.items c.args.owner c.args.revision c.self.inside.entries.items c.self.invariant.reached in
    rw (c.remove_first.ensures.removed, ← c.self.view_is) (cc)
