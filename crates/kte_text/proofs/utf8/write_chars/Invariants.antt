use Rattle.std.proofs.Common.{◌≡◌, ◌≤◌, ◌-◌, ◌++◌, false, length, take, drop}
use Rattle.std.specs.Char.Utf16.{has_unpaired_surrogate}
use Rattle.kte_text.specs.Units.{utf8_of}
use Rattle.kte_text.proofs.utf8.write_chars.Given as goal

-- what is written, and the bytes of the units that are left, are the line
abbrev pub invariant-loop-next : goal.invariant-loop-next
invariant-loop-next l =
    (take l.at l.room ++ utf8_of (drop l.next l.units) ≡ utf8_of l.units)
    × (has_unpaired_surrogate (drop l.next l.units) ≡ false)
    × (length l.room ≡ length (utf8_of l.units)) × (l.at ≤ length l.room)

abbrev pub decreases-loop-next : goal.decreases-loop-next
decreases-loop-next l = length l.units - l.next
