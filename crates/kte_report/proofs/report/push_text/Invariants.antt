use Rattle.std.proofs.Common.{◌≡◌, ◌++◌, take, codes}
use Rattle.std.specs.List.{flat_map}
use Rattle.kte_report.specs.Report.{line_text}
use Rattle.kte_report.proofs.report.push_text.Given as goal

abbrev pub invariant-loop-n : goal.invariant-loop-n
invariant-loop-n g l =
    l.out.items ≡ l.fn.out.items ++ codes "text\n" ++ flat_map line_text (take l.n (g.L.Lines.text l.lines))
