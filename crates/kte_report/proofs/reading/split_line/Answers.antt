use Rattle.std.proofs.Common.{◌∙◌, sym}
use Rattle.kte_report.proofs.SplitLemmas.{first_line_of, no_line_of}
use Rattle.kte_report.proofs.reading.split_line.Goals as goal

pub returns-in_err-end : goal.returns-in_err-end
returns-in_err-end c = rw c.from_residual.ensures (no_line_of c.args.bytes.now (sym c.first_end.ensures.first ∙ c.in_err-end.was))

pub returns : goal.returns
returns c =
    let is = first_line_of c.args.bytes.now c.split_at.result.0.now c.split_at-2.result.1.now c.in_ok-end.end (sym c.first_end.ensures.first ∙ c.in_ok-end.was) c.split_at.ensures.front c.split_at-2.ensures.back in
    (is.parts, is.inside)
