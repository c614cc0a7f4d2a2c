-- The ranges of a document, as the report has them.
use Rattle.std.specs.Prelude.{ℕ, List, ◌++◌, length, codes}
use Rattle.std.specs.List.{flat_map}
use Rattle.std.specs.FinMap.{entries}
use Rattle.kte_doc.specs.Standings.{Standing, Standings}
use Rattle.kte_report.specs.Report.{number_line, range_line}

-- the line of a range, where it is
abbrev pub shown_line : ℕ → Standing → List ℕ
shown_line id range = range_line id range.kind range.expand range.empty range.span

-- how many ranges there are, and then each of them
abbrev pub shown_lines : Standings → List ℕ
shown_lines ranges =
    number_line (codes "ranges") (length (entries ranges))
    ++ flat_map (λ e. shown_line e.0 e.1) (entries ranges)
