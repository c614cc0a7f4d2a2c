use Rattle.std.proofs.Common.{◌≡◌, ◌-◌, length, take, All}
use Rattle.kte_text.specs.Primitives.{HasLine}
use Rattle.kte_undo.specs.Steps.{steps_along}
use Rattle.kte_core.specs.Editing.{noted_all}
use Rattle.kte_core.proofs.StepLemmas.{Applied}
use Rattle.kte_core.proofs.edits.apply_noted.Given as goal

abbrev pub invariant-loop-done : goal.invariant-loop-done
invariant-loop-done l = record {
  applied : Applied l.primitives l.done l.initial.doc l.doc;
  lines : All HasLine (take l.done l.primitives);
  noted : l.undo.edits ≡ noted_all (steps_along (take l.done l.primitives) l.initial.doc.text) l.initial.undo.edits;
}

abbrev pub decreases-loop-done : goal.decreases-loop-done
decreases-loop-done l = length l.primitives - l.done
