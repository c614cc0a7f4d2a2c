use Rattle.std.proofs.Common.{refl, ap, sym}
use Rattle.kte_run.specs.Editor.{Part}
use Rattle.kte_run.proofs.FollowLemmas.{follows, heard}
use Rattle.kte_run.proofs.editor.Editor.answered.Goals as goal

pub returns-in-Ok-clause-follows : goal.returns-in-Ok-clause-follows
returns-in-Ok-clause-follows g c = λ before state lost due request is first at answered made fit.
    let ensures = c.in-Ok.ensures in
    follows before c.args.self.now _ state lost due request c.args.step.reply c.args.step.made is first at
    (record { whole = ensures.whole refl; answered = answered; made = made; fit = fit })
    (heard c.args.self.now c.hear.new.self _ c.in-Ok.owed c.args.step.reply c.args.step.made c.args.form.now
    (g.D.Disk.moments c.args.disk.now) (g.D.Disk.moments c.hear.new.disk)
    (sym (ap (λ (p : Part). record p { owed = c.in-Ok.owed }) c.self.view_is))
    ensures.kept ensures.depth ensures.current ensures.leaves)
