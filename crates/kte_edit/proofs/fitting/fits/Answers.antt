use Rattle.std.proofs.Common.{sym, arith}
use Rattle.kte_edit.proofs.JudgeLemmas.{judged_wrap, judged_unwrap, judged_insert, judged_remove, judged_replace, between_is}
use Rattle.kte_edit.proofs.fitting.fits.Goals as goal

pub returns-in_ok-fits_place-in-Wrap-clause-answer : goal.returns-in_ok-fits_place-in-Wrap-clause-answer
returns-in_ok-fits_place-in-Wrap-clause-answer g c =
    let left = judged_wrap (g.L.Lines.text c.args.lines.now) c.in-Wrap.at (sym c.in_ok-fits_place-in-Wrap.ensures.answer) in
    cc

pub returns-else-line-eq0-clause-answer : goal.returns-else-line-eq0-clause-answer
returns-else-line-eq0-clause-answer g c =
    let place = c.in_ok-fits_place-in-Unwrap.ensures in
    let left = judged_unwrap (g.L.Lines.text c.args.lines.now) c.in-Unwrap.line place.is_text (sym place.answer) (omega arith) in
    cc

pub returns-in_ok-fits_place-in-Insert-clause-answer : goal.returns-in_ok-fits_place-in-Insert-clause-answer
returns-in_ok-fits_place-in-Insert-clause-answer g c =
    let added = c.added_size.ensures.is_text in
    let place = c.in_ok-fits_place-in-Insert.ensures in
    let left = judged_insert (g.L.Lines.text c.args.lines.now) c.in-Insert.at c.in-Insert.text added (sym place.answer) in
    cc

pub returns-in-Remove-clause-answer : goal.returns-in-Remove-clause-answer
returns-in-Remove-clause-answer g c =
    let span = c.fits_span.ensures in
    let left = judged_remove (g.L.Lines.text c.args.lines.now) c.in-Remove.span span.is_text span.order in
    cc

pub overflow_sub-size : goal.overflow_sub-size
overflow_sub-size g c =
    let span = c.in_ok-fits_span-in-Replace.ensures in
    let left = between_is (g.L.Lines.text c.args.lines.now) c.in-Replace.span c.size_between.result span.is_text span.order (sym span.answer)
    c.size_between.ensures in
    omega arith

pub returns-in_ok-fits_span-in-Replace-clause-answer : goal.returns-in_ok-fits_span-in-Replace-clause-answer
returns-in_ok-fits_span-in-Replace-clause-answer g c =
    let span = c.in_ok-fits_span-in-Replace.ensures in
    let added = c.added_size-in-Replace.ensures.is_text in
    let left = judged_replace (g.L.Lines.text c.args.lines.now) c.in-Replace.span c.in-Replace.text c.size_between.result span.is_text
    added span.order (sym span.answer) c.size_between.ensures in
    cc
