use Rattle.std.proofs.Common.{◌≤◌, List, ◌++◌, length, take}
use Rattle.kte_find.specs.declared.found.TheConstants.{MAX_FINDINGS}
use Rattle.kte_find.specs.Brackets.{Placed, placed_on}
use Rattle.kte_find.specs.Reading.{HasRead}
use Rattle.kte_find.proofs.brackets.Reading.read_line.Given as goal

-- the units before the column are read
abbrev pub invariant-loop-column : goal.invariant-loop-column
invariant-loop-column l = record {
  few : length l.self.found ≤ MAX_FINDINGS;
  read : (before : List Placed) → HasRead before l.initial.self.opened.items l.initial.self.found
      → HasRead (before ++ placed_on l.line 0 (take l.column l.units)) l.self.opened.items l.self.found;
}
