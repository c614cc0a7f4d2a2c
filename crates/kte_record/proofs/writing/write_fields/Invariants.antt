use Rattle.std.proofs.Common.{◌≡◌, ◌≤◌, ◌+◌, ◌-◌, ◌*◌, ◌∷◌, ◌++◌, length, drop, vec_len, vec_capacity}
use Rattle.std.specs.List.{flat_map}
use Rattle.kte_record.specs.Grammar.{number}
use Rattle.kte_record.proofs.writing.write_fields.Given as goal

-- what is written, and the numbers that are left, are the tag and the numbers; and there is room
abbrev pub invariant-loop-number : goal.invariant-loop-number
invariant-loop-number l = record {
  written : l.out.items ++ flat_map number (drop l.number-index l.numbers) ≡ l.fn.out.items ++ (l.tag ∷ flat_map number l.numbers);
  room : vec_len l.out + 4 * (length l.numbers - l.number-index) + length l.text ≤ vec_capacity l.out;
}
