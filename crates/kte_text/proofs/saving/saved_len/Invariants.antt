use Rattle.std.proofs.Common.{◌≡◌, ◌+◌, length, drop}
use Rattle.std.specs.List.{flat_map}
use Rattle.kte_text.specs.Saving.{bytes_of}
use Rattle.kte_text.proofs.SavingLemmas.{ended}
use Rattle.kte_text.proofs.saving.saved_len.Given as goal

-- the length so far, and that of the lines that are left, each after its end, are the file's
abbrev pub invariant-loop-n : goal.invariant-loop-n
invariant-loop-n g l =
    l.length + length (flat_map (ended l.fn.eol) (drop l.n (g.L.Lines.text l.lines)))
    ≡ length (bytes_of (g.L.Lines.text l.lines) l.fn.eol l.fn.bom)
