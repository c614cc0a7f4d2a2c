use Rattle.std.proofs.Common.{◌≡◌, ◌++◌, take}
use Rattle.kte_run.proofs.editor.note.Given as goal

abbrev pub invariant-loop-n : goal.invariant-loop-n
invariant-loop-n l = l.current ≡ l.initial.current ++ take l.n l.made-inside.primitives.items
