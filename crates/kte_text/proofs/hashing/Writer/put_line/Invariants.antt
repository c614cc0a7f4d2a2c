use Rattle.std.proofs.Common.{◌≡◌, ◌≤◌, ◌-◌, ℕ, List, ◌++◌, length, take}
use Rattle.kte_text.specs.Units.{IsBoundary, utf8_of}
use Rattle.kte_text.specs.Inside.{Gathers}
use Rattle.kte_text.proofs.hashing.Writer.put_line.Given as goal

-- the units so far are added
abbrev pub invariant-loop-next : goal.invariant-loop-next
invariant-loop-next l =
    (l.self.filled ≤ 8192) × IsBoundary l.units l.next
    × ((m : List ℕ) → Gathers l.initial.self m → Gathers l.self (m ++ utf8_of (take l.next l.units)))

abbrev pub decreases-loop-next : goal.decreases-loop-next
decreases-loop-next l = length l.units - l.next
