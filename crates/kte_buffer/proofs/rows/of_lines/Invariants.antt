use Rattle.std.proofs.Common.{◌≡◌}
use Rattle.kte_buffer.specs.Rows.{lines_in}
use Rattle.kte_buffer.proofs.rows.of_lines.Given as goal

abbrev pub invariant-loop-line : goal.invariant-loop-line
invariant-loop-line l = lines_in l.rows.items ≡ l.yielded
