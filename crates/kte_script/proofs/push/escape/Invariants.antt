use Rattle.std.proofs.Common.{◌≡◌, ◌++◌, take}
use Rattle.std.specs.List.{flat_map}
use Rattle.kte_script.specs.Strings.{spell_byte}
use Rattle.kte_script.proofs.push.escape.Given as goal

abbrev pub invariant-loop-byte : goal.invariant-loop-byte
invariant-loop-byte l =
    l.out.items ≡ take l.start l.fn.out.items ++ flat_map spell_byte (take l.byte-index l.byte-items)
