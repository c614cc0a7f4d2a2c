use Rattle.std.proofs.Common.{◌-◌, length}
use Rattle.kte_core.proofs.StepLemmas.{Applied}
use Rattle.kte_core.proofs.edits.apply_all.Given as goal

abbrev pub invariant-loop-done : goal.invariant-loop-done
invariant-loop-done l = Applied l.primitives l.done l.initial.doc l.doc

abbrev pub decreases-loop-done : goal.decreases-loop-done
decreases-loop-done l = length l.primitives - l.done
