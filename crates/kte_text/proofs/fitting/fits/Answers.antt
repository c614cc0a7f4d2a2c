use Rattle.std.proofs.Common.{sym, arith, ◌<◌}
use Rattle.kte_text.proofs.PrimitiveLemmas.{misfit-wrap, misfit-unwrap}
use Rattle.kte_text.proofs.fitting.fits.Goals as goal

pub returns-in_ok-fits_line-in-Wrap : goal.returns-in_ok-fits_line-in-Wrap
returns-in_ok-fits_line-in-Wrap g c =
    let at = c.in-Wrap in
    let left = misfit-wrap at.line at.column (g.L.Lines.text c.args.lines.now) (sym c.in_ok-fits_line-in-Wrap.ensures.answer) in
    cc

pub returns-else-line-eq0 : goal.returns-else-line-eq0
returns-else-line-eq0 g c =
    let line = c.in-Unwrap.line in
    let joined : 0 < line = omega arith in
    let place = c.in_ok-fits_line-in-Unwrap.ensures in
    let left = misfit-unwrap line (g.L.Lines.text c.args.lines.now) place.is_text (sym place.answer) joined in
    cc
