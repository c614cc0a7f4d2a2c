use Rattle.std.proofs.Common.{◌≡◌, ◌-◌, ◌<◌, ◌≤◌, ◌++◌}
use Rattle.kte_edit.specs.Steps.{removed_lines, without_empty}
use Rattle.kte_edit.proofs.listing.remove_lines.Given as goal

-- what is listed, and what is left to be, are the whole
abbrev pub invariant-loop-line : goal.invariant-loop-line
invariant-loop-line g l = record {
  after : l.first < l.line;
  inside : l.line ≤ l.end;
  whole : l.batch ++ without_empty (removed_lines (g.L.Lines.text l.lines) l.first (l.line - l.first - 1))
      ≡ l.initial.batch ++ without_empty (removed_lines (g.L.Lines.text l.lines) l.first (l.end - l.first - 1));
}

abbrev pub decreases-loop-line : goal.decreases-loop-line
decreases-loop-line g l = l.line - l.first
