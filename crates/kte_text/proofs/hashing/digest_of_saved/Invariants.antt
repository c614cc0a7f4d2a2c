use Rattle.std.proofs.Common.{◌≡◌, ◌≤◌, ℕ, List, ◌++◌, drop}
use Rattle.std.specs.List.{flat_map}
use Rattle.kte_text.specs.Saving.{bytes_of}
use Rattle.kte_text.specs.Digests.{blob}
use Rattle.kte_text.specs.Inside.{Gathers}
use Rattle.kte_text.proofs.SavingLemmas.{ended}
use Rattle.kte_text.proofs.hashing.digest_of_saved.Given as goal

-- what the writer has taken, and the lines that are left, each after its end, are the blob
abbrev pub invariant-loop-n : goal.invariant-loop-n
invariant-loop-n g l =
    (l.writer.filled ≤ 8192) × ((m : List ℕ) × Gathers l.writer m
    × (m ++ flat_map (ended l.eol) (drop l.n (g.L.Lines.text l.lines))
    ≡ blob (bytes_of (g.L.Lines.text l.lines) l.eol l.bom)))
