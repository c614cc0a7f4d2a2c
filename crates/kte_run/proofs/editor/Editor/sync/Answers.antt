use Rattle.std.proofs.Common.{rules, ◌≢◌, Err, ap, ◌∙◌}
use Rattle.kte_swap.specs.Swap.{SwapView}
use Rattle.kte_swap.specs.declared.causes.SwapFault.TheVariants as fault
use Rattle.kte_core.specs.declared.request.OutsideCall.TheVariants as Call
use Rattle.kte_run.specs.Editor.{Part}
use Rattle.kte_run.proofs.CallLemmas.{of-swap, sync-ok, sync-failed, sync-lost}
use Rattle.kte_run.proofs.editor.Editor.sync.Goals as goal
use Rattle.kte_run.proofs.editor.Editor.sync.Goals.{in-Ok, in-Err-NoMemory, in-Err}

pub returns-clause-leaves : goal.returns-clause-leaves
returns-clause-leaves g c = λ form.
    let before = g.D.Disk.moments c.args.disk.now in
    let after = g.D.Disk.moments c.sync.new.disk in
    let swap = c.self.inside.swap in
    let new = c.sync.new.self in
    let is = ap (λ (p : Part). p.swap) c.self.view_is in
    elim c.match-sync.branch [
      | in-Ok w ↦ rw w.result-is (of-swap Call.Sync form swap c.args.self.now.swap new before after _ is
          (sync-ok form swap new before after (λ lost. let e = w.in-Ok.ensures.lost.1 lost in cc) w.in-Ok.ensures.swap w.in-Ok.ensures.moments w.in-Ok.ensures.stands))
      | in-Err-NoMemory w ↦ rw w.result-is tt
      | in-Err w ↦
          let some : w.in-Err.field-0 ≢ fault.NoMemory = search rules in
          let lost = ap (λ (s : SwapView). s.state) w.in-Err.ensures.swap
          ∙ sync-lost w.in-Err.field-0 swap some (λ e. w.in-Err.ensures.lost.0 (ap Err e)) in
          rw w.result-is (of-swap Call.Sync form swap c.args.self.now.swap new before after _ is
          (sync-failed form swap new before after lost w.in-Err.ensures.stands))
    ]
