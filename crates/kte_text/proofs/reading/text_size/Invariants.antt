use Rattle.std.proofs.Common.{◌≡◌, ◌+◌, ◌*◌, ◌≤◌, drop}
use Rattle.kte_text.specs.Reading.{size_after, text_size}
use Rattle.kte_text.proofs.reading.text_size.Given as goal

abbrev pub invariant-loop-byte : goal.invariant-loop-byte
invariant-loop-byte l =
    (l.size + size_after l.after_cr (drop l.byte-index l.bytes) ≡ text_size l.fn.bytes) × (l.size ≤ 2 * l.byte-index)
