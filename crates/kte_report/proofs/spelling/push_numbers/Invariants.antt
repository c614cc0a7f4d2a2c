use Rattle.std.proofs.Common.{◌≡◌, ◌++◌, take}
use Rattle.std.specs.List.{flat_map}
use Rattle.kte_script.specs.Fields.{spell_number}
use Rattle.kte_report.proofs.spelling.push_numbers.Given as goal

abbrev pub invariant-loop-number : goal.invariant-loop-number
invariant-loop-number l =
    l.out.items ≡ l.fn.out.items ++ (l.word ++ flat_map spell_number (take l.number-index l.numbers))
