use Rattle.std.proofs.Common.{◌≤◌, ◌-◌, length}
use Rattle.kte_text.specs.Words.{is_word_unit}
use Rattle.kte_find.specs.OnLine.{EachUnit}
use Rattle.kte_find.proofs.runs.word_end.Given as goal

-- the units up to here pass
abbrev pub invariant-loop-end : goal.invariant-loop-end
invariant-loop-end l = record { order : l.start ≤ l.end; within : l.end ≤ length l.units; passed : EachUnit is_word_unit l.units l.start l.end }

abbrev pub decreases-loop-end : goal.decreases-loop-end
decreases-loop-end l = length l.units - l.end
