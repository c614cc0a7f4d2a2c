use Rattle.std.proofs.Common.{◌≤◌}
use Rattle.kte_text.specs.Words.{is_word_unit}
use Rattle.kte_find.specs.OnLine.{EachUnit}
use Rattle.kte_find.proofs.runs.word_start.Given as goal

-- the units from here on pass
abbrev pub invariant-loop-start : goal.invariant-loop-start
invariant-loop-start l = record { order : l.start ≤ l.end; passed : EachUnit is_word_unit l.units l.start l.end }

abbrev pub decreases-loop-start : goal.decreases-loop-start
decreases-loop-start l = l.start
