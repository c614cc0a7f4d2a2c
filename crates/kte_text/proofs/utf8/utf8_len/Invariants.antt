use Rattle.std.proofs.Common.{◌≡◌, ◌+◌, drop, sum_by}
use Rattle.kte_text.specs.Utf8.{width}
use Rattle.kte_text.proofs.utf8.utf8_len.Given as goal

-- the length so far, and that of the units that are left, are the whole
abbrev pub invariant-loop-unit : goal.invariant-loop-unit
invariant-loop-unit l = l.length + sum_by width (drop l.unit-index l.units) ≡ sum_by width l.units
