use Rattle.std.proofs.Common.{rules, ◌≢◌, [], ◌∷◌, Ok, ap}
use Rattle.kte_swap.specs.Swap.{SwapView}
use Rattle.kte_swap.specs.Saving.{Makes, syncs, replaces, resets}
use Rattle.kte_swap.specs.declared.causes.SaveFault.TheVariants as fault
use Rattle.kte_core.specs.declared.request.OutsideCall.TheVariants as Call
use Rattle.kte_run.specs.Editor.{Part}
use Rattle.kte_run.proofs.CallLemmas.{of-swap, save-ok, save-failed, save-lost}
use Rattle.kte_run.proofs.editor.Editor.save.Goals as goal

pub returns-in-Ok-clause-leaves : goal.returns-in-Ok-clause-leaves
returns-in-Ok-clause-leaves g c =
    let form = c.args.form.now in
    let ensures = c.in-Ok.ensures in
    let before = g.D.Disk.moments c.args.disk.now in
    let after = g.D.Disk.moments c.save.new.disk in
    of-swap Call.Save form c.self.inside.swap c.args.self.now.swap c.save.new.self before after _ (ap (λ (p : Part). p.swap) c.self.view_is)
    (save-ok form c.self.inside.swap c.save.new.self before after
    (Makes form (syncs ∷ replaces ∷ resets ∷ []) (Ok tt)) (Makes form (resets ∷ replaces ∷ []) (Ok tt)) (Makes form (replaces ∷ resets ∷ []) (Ok tt))
    ensures.guarded ensures.same_base ensures.other_base (ap (λ (s : SwapView). s.state) ensures.ok) ensures.stands)

pub returns-in-Err-Replace-clause-leaves : goal.returns-in-Err-Replace-clause-leaves
returns-in-Err-Replace-clause-leaves g c =
    let form = c.args.form.now in
    let ensures = c.in-Err-Replace.ensures in
    let before = g.D.Disk.moments c.args.disk.now in
    let after = g.D.Disk.moments c.save.new.disk in
    let is = c.in-Err-Replace.field-0-is in
    of-swap Call.Save form c.self.inside.swap c.args.self.now.swap c.save.new.self before after _ (ap (λ (p : Part). p.swap) c.self.view_is)
    (save-failed form c.self.inside.swap c.save.new.self before after
    (save-lost _ c.self.inside.swap c.save.new.self ensures.err (λ spared. let e = spared.0 in cc)) ensures.stands)

pub returns-in-Err-clause-leaves : goal.returns-in-Err-clause-leaves
returns-in-Err-clause-leaves g c =
    let form = c.args.form.now in
    let ensures = c.in-Err.ensures in
    let before = g.D.Disk.moments c.args.disk.now in
    let after = g.D.Disk.moments c.save.new.disk in
    let some : c.in-Err.field-0 ≢ fault.NoMemory = search rules in
    of-swap Call.Save form c.self.inside.swap c.args.self.now.swap c.save.new.self before after _ (ap (λ (p : Part). p.swap) c.self.view_is)
    (save-failed form c.self.inside.swap c.save.new.self before after
    (save-lost _ c.self.inside.swap c.save.new.self ensures.err (λ spared. let e = spared.0 in absurd (some (cc)))) ensures.stands)
