use Rattle.std.proofs.lemmas.Result.{err_from_is_err_and}
use Rattle.kte_script.proofs.LineLemmas.{fails, all_read}
use Rattle.kte_script.proofs.script.read_lines.Goals as goal

pub returns-in_err-add_line-clause-read : goal.returns-in_err-add_line-clause-read
returns-in_err-add_line-clause-read c =
    let is = err_from_is_err_and c.from_residual.result c.from_residual.ensures.1 in
    rw (is.1, is.2)
    (fails c.in_err-add_line.field-0.0 c.lines.commands.items c.lines.number _ c.lines.rest.now
    c.split_line.result.0.now c.split_line.result.1 _ c.split_line.ensures.first c.in_err-add_line.ensures.read
    c.lines.invariant.so_far)

pub returns-in_default-clause-read : goal.returns-in_default-clause-read
returns-in_default-clause-read c =
    all_read c.lines.commands.items c.add_line.new.commands.items c.lines.number _ _ c.lines.rest.now
    c.split_line.result.0.now c.split_line.result.1 _ c.split_line.ensures.first c.in_default.is
    c.in_ok-add_line.ensures.read c.lines.invariant.so_far
