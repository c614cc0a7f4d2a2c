use Rattle.std.proofs.Common.{◌≡◌, ◌++◌, take}
use Rattle.std.specs.List.{flat_map}
use Rattle.kte_report.specs.Report.{hide_line}
use Rattle.kte_report.proofs.hidden.push_runs.Given as goal

abbrev pub invariant-loop-first : goal.invariant-loop-first
invariant-loop-first l = l.out.items ≡ l.fn.out.items ++ flat_map hide_line (take l.first-index l.runs)
