use Rattle.std.proofs.Common.{◌≡◌, ◌++◌, ◌-◌, ◌≤◌, length, drop, IsUtf8}
use Rattle.kte_text.specs.Reading.{lines_of}
use Rattle.kte_text.proofs.reading.lines_of.Given as goal

abbrev pub invariant-loop-length : goal.invariant-loop-length
invariant-loop-length l = record {
  within : l.from ≤ length l.text;
  utf8 : IsUtf8 (drop l.from l.text);
  made : l.lines.items ++ lines_of (drop l.from l.text) ≡ lines_of l.text;
}

abbrev pub decreases-loop-length : goal.decreases-loop-length
decreases-loop-length l = length l.text - l.from
