use Rattle.std.proofs.Common.{◌≡◌, ◌++◌, take}
use Rattle.kte_gen.specs.Commands.{spell_numbers}
use Rattle.kte_gen.proofs.commands.push_numbers.Given as goal

abbrev pub invariant-loop-number : goal.invariant-loop-number
invariant-loop-number l =
    l.script.items ≡ l.fn.script.items ++ spell_numbers (take l.number-index l.numbers)
