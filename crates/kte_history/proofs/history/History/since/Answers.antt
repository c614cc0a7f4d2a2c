use Rattle.std.proofs.Common.{◌≡◌, ℕ, IsTrue, ap, ◌∙◌, sym, subst, arith}
use Rattle.kte_history.specs.Revisions.{Revisions, can_land, entries_since}
use Rattle.kte_history.proofs.InsideLemmas.{can_land-reached}
use Rattle.kte_history.proofs.KeptLemmas.{entries_since-kept}
use Rattle.kte_history.proofs.history.History.since.Goals as goal

-- the test, of the fields
can_land-inside : {before after : Revisions} (revision : ℕ) → before ≡ after → IsTrue (can_land after revision) → IsTrue (can_land before revision)
can_land-inside revision same can = subst (λ h. IsTrue (can_land h revision)) (sym same) can

pub overflow_sub-self-inside : goal.overflow_sub-self-inside
overflow_sub-self-inside c =
    let can = can_land-inside c.args.revision c.self.view_is (sym c.can_land.ensures ∙ c.if-not-can_land.false) in
    (can_land-reached c.self.inside.revision _ c.args.revision c.self.inside.locks.items c.self.invariant.reached can).past

pub last-requires : goal.last-requires
last-requires c =
    let can = can_land-inside c.args.revision c.self.view_is (sym c.can_land.ensures ∙ c.if-not-can_land.false) in
    let stored = (can_land-reached c.self.inside.revision _ c.args.revision c.self.inside.locks.items c.self.invariant.reached can).stored in
    rw c.deref.ensures.value (omega arith)

pub returns-clause-since : goal.returns-clause-since
returns-clause-since c =
    let can = can_land-inside c.args.revision c.self.view_is (sym c.can_land.ensures ∙ c.if-not-can_land.false) in
    c.last.ensures ∙ ap (λ entries. entries_since c.self.inside.revision c.args.revision entries) c.deref.ensures.value
    ∙ sym (entries_since-kept c.self.inside.revision c.args.revision c.self.inside.locks.items c.self.inside.entries.items c.self.invariant.reached can)
    ∙ ap (λ h. entries_since h.revision c.args.revision h.kept) c.self.view_is
