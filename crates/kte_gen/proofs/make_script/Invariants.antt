use Rattle.std.proofs.Common.{◌≡◌, ◌*◌}
use Rattle.kte_gen.specs.Commands.{with_parts, after_commands}
use Rattle.kte_gen.proofs.KeptLemmas.{Kept}
use Rattle.kte_gen.proofs.make_script.Given as goal

abbrev pub invariant-loop : goal.invariant-loop
invariant-loop l =
    (with_parts l.x l.lengths.items l.script.items ≡ after_commands l.number l.counter)
    × Kept (8 * l.counter) l.lengths.items
