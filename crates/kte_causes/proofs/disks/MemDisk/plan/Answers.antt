use Rattle.std.proofs.Common.{◌≡◌, ◌∙◌, ap, arith, take, All, subst, List, ℕ, IsTrue}
use Rattle.std.proofs.lemmas.List.{take_all}
use Rattle.std.proofs.lemmas.List.Elements.{All-more}
use Rattle.kte_causes.specs.declared.causes.DiskCall.TheVariants.{SavedLen}
use Rattle.kte_causes.specs.declared.disks.DiskPlan.{DiskPlan}
use Rattle.kte_causes.specs.Memory.{DiskState, IsFor, made_of}
use Rattle.kte_causes.proofs.disks.MemDisk.plan.Goals as goal

pub loop-plan-preserved : goal.loop-plan-preserved
loop-plan-preserved c =
    All-more (λ plan. ¬ IsFor c.args.call c.get-nth.result plan) c.deref-plan-items.result.now c.loop-plan.plan-index (record { call = SavedLen; nth = 0; done = 0 }) c.loop-plan-test.true c.loop-plan.invariant
    (λ is. let fits : IsTrue c.is_for.result = c.is_for.ensures.1 is in cc (fits, c.if-is_for.false))

pub returns : goal.returns
returns c =
    let P : ℕ → List DiskPlan → Type 0 = λ nth plans. All (λ plan. ¬ IsFor c.args.call nth plan) plans in
    let items = c.deref-plan-items.result.now in
    let whole : take c.loop-plan.plan-index items ≡ items = take_all c.loop-plan.plan-index items (omega (arith, c.loop-plan-test.false)) in
    let plans = c.deref-plan-items.ensures.value ∙ ap (λ (d : DiskState). d.failing) c.self.view_is in
    let nth = c.get-nth.ensures ∙ ap (λ (d : DiskState). made_of d c.args.call) c.self.view_is in
    subst (λ n. P n c.args.self.now.failing) nth (subst (P c.get-nth.result) plans (subst (P c.get-nth.result) whole c.loop-plan.invariant))
