use Rattle.std.proofs.Common.{ℕ, ◌<◌}
use Rattle.std.specs.Prelude.{slice_index_or}
use Rattle.kte_text.specs.Primitives.{HasLine}
use Rattle.kte_text.specs.declared.primitive.Primitive.{Primitive}
use Rattle.kte_run.proofs.alone.inserts_lines.Given as goal

-- the insertions so far are lines
abbrev pub invariant-loop-n : goal.invariant-loop-n
invariant-loop-n l = (k : ℕ) (d : Primitive) → k < l.n → HasLine (slice_index_or l.made k d)
