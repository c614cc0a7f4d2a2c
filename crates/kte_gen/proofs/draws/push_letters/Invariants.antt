use Rattle.std.proofs.Common.{◌≡◌, ◌++◌}
use Rattle.kte_gen.specs.Draws.{skip, letters}
use Rattle.kte_gen.proofs.draws.push_letters.Given as goal

abbrev pub invariant-loop : goal.invariant-loop
invariant-loop l =
    (l.x ≡ skip l.counter l.fn.x) × (l.script.items ≡ l.fn.script.items ++ letters l.counter l.fn.x)
