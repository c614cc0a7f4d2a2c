use Rattle.std.proofs.Common.{None, Ok, ap, ◌∙◌, arith}
use Rattle.kte_run.specs.Editor.{Part}
use Rattle.kte_run.proofs.CallLemmas.{at-depth, finish-ok}
use Rattle.kte_run.proofs.editor.Editor.finish.Goals as goal

pub returns-in-Ok-clause-leaves : goal.returns-in-Ok-clause-leaves
returns-in-Ok-clause-leaves g c = λ form.
    let before = g.D.Disk.moments c.args.disk.now in
    let after = g.D.Disk.moments c.finish.new.disk in
    let ensures = c.in-Ok.ensures in
    let batch = c.replace-transaction.result in
    let swap = c.self.inside.swap in
    let leaves = finish-ok c.in-Ok.field-0 batch form swap c.finish.new.self before after
    (λ e. ensures.lost.0 (ap Ok e)) ensures.swap ensures.moments ensures.stands in
    at-depth c.args.self.now.depth c.args.self.now.current batch form swap c.args.self.now.swap c.finish.new.self before after None
    (omega (arith, c.if-self-ne0.false, ap (λ (p : Part). p.depth) c.self.view_is))
    (c.replace-transaction.ensures.value ∙ ap (λ (p : Part). p.current) c.self.view_is) (ap (λ (p : Part). p.swap) c.self.view_is) leaves
