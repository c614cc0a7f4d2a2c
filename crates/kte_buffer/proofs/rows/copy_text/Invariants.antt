use Rattle.std.proofs.Common.{◌≡◌, ◌+◌, take}
use Rattle.kte_buffer.specs.Rows.{lines_in}
use Rattle.kte_buffer.proofs.rows.copy_text.Given as goal

abbrev pub invariant-loop-row : goal.invariant-loop-row
invariant-loop-row l = l.text ≡ take (l.row-index + 1) (lines_in l.rows)
