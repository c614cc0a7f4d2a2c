use Rattle.std.proofs.Common.{◌≡◌, ◌≤◌, length}
use Rattle.std.specs.Prelude.{filter}
use Rattle.std.specs.List.{range_with_len}
use Rattle.kte_core.specs.Folds.{is_line_hidden}
use Rattle.kte_core.specs.Replay.{present}
use Rattle.kte_report.specs.Report.{runs_of}
use Rattle.kte_report.proofs.hidden.hidden_runs.Given as goal

abbrev pub invariant-loop-line : goal.invariant-loop-line
invariant-loop-line l = record {
  lines : l.hidden.lines ≡ length (filter (is_line_hidden (present l.core)) (range_with_len 0 l.line));
  ends : l.hidden.ends.items ≡ runs_of (filter (is_line_hidden (present l.core)) (range_with_len 0 l.line));
  within : l.hidden.lines ≤ l.line;
}
