use Rattle.std.proofs.Common.{sym}
use Rattle.kte_edit.proofs.ChangeLemmas.{sound_change, replaces_change}
use Rattle.kte_edit.proofs.listing.steps.Goals as goal

pub returns-clause-fit : goal.returns-clause-fit
returns-clause-fit g c =
    let ok = c.in_ok-fits.ensures in
    rw c.in_ok-listed.ensures
    (sound_change c.args.change.now (g.L.Lines.text c.args.lines.now) ok.is_text ok.change (sym ok.answer)).fit

pub returns-clause-text : goal.returns-clause-text
returns-clause-text g c =
    let ok = c.in_ok-fits.ensures in
    rw c.in_ok-listed.ensures
    (sound_change c.args.change.now (g.L.Lines.text c.args.lines.now) ok.is_text ok.change (sym ok.answer)).whole

pub returns-clause-part : goal.returns-clause-part
returns-clause-part g c =
    let ok = c.in_ok-fits.ensures in
    rw c.in_ok-listed.ensures
    (replaces_change c.args.change.now (g.L.Lines.text c.args.lines.now) ok.is_text ok.change (sym ok.answer))
