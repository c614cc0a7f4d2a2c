use Rattle.std.proofs.Common.{◌≡◌, take}
use Rattle.kte_text.proofs.text.Text.copy.Given as goal

-- the copies so far are those of the lines so far
abbrev pub invariant-loop-line : goal.invariant-loop-line
invariant-loop-line l = l.lines.items ≡ take l.line-index l.line-items
