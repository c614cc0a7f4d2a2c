use Rattle.std.proofs.Common.{◌≡◌, map, take}
use Rattle.kte_text.specs.Words.{compared}
use Rattle.kte_text.proofs.words.are_same.Given as goal

-- the units so far are the same
abbrev pub invariant-loop-n : goal.invariant-loop-n
invariant-loop-n l = map (compared l.fold) (take l.n l.units) ≡ map (compared l.fold) (take l.n l.pattern)
