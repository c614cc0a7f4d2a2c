use Rattle.std.proofs.Common.{◌≡◌, ◌≤◌, ◌++◌, drop}
use Rattle.std.specs.List.{flat_map}
use Rattle.kte_text.specs.Saving.{bytes_of}
use Rattle.kte_text.proofs.SavingLemmas.{ended}
use Rattle.kte_text.proofs.saving.save.Given as goal

-- what is written, and the lines that are left, each after its end, are the file
abbrev pub invariant-loop-n : goal.invariant-loop-n
invariant-loop-n g l =
    l.bytes.items ++ flat_map (ended l.eol) (drop l.n (g.L.Lines.text l.lines))
    ≡ bytes_of (g.L.Lines.text l.lines) l.eol l.bom
