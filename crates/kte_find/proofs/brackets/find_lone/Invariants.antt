use Rattle.std.proofs.Common.{◌≤◌, length, take}
use Rattle.kte_find.specs.declared.found.TheConstants.{MAX_FINDINGS}
use Rattle.kte_find.specs.Brackets.{placed_from}
use Rattle.kte_find.specs.Reading.{HasRead}
use Rattle.kte_find.proofs.brackets.find_lone.Given as goal

-- the lines before this one are read
abbrev pub invariant-loop-line : goal.invariant-loop-line
invariant-loop-line l = record {
  few : length l.reading.found ≤ MAX_FINDINGS;
  read : HasRead (placed_from 0 (take l.line l.text)) l.reading.opened.items l.reading.found;
}
