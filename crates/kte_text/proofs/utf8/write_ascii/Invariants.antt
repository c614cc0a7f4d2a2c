use Rattle.std.proofs.Common.{◌≡◌, length, take}
use Rattle.kte_text.proofs.utf8.write_ascii.Given as goal

-- the units so far are written
abbrev pub invariant-loop-n : goal.invariant-loop-n
invariant-loop-n l = (take l.n l.room ≡ take l.n l.units) × (length l.room ≡ length l.units)
