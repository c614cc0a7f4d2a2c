use Rattle.std.proofs.Common.{◌≡◌, ◌++◌, take, codes, length}
use Rattle.std.specs.List.{flat_map}
use Rattle.std.specs.FinMap.{entries}
use Rattle.kte_report.specs.Report.{number_line}
use Rattle.kte_report.specs.Shown.{shown_line}
use Rattle.kte_report.proofs.report.push_ranges.Given as goal

abbrev pub invariant-loop-id : goal.invariant-loop-id
invariant-loop-id l =
    l.out.items ≡ l.fn.out.items ++ number_line (codes "ranges") (length (entries l.doc.ranges))
    ++ flat_map (λ e. shown_line e.0 e.1) (take l.id-index (entries l.doc.ranges))
