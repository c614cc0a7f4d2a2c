use Rattle.std.proofs.Common.{◌≡◌, take}
use Rattle.kte_undo.specs.Steps.{redo_of}
use Rattle.kte_undo.proofs.group.Group.forth.Given as goal

-- the primitives so far redo the steps so far
abbrev pub invariant-loop-step : goal.invariant-loop-step
invariant-loop-step l = l.batch ≡ redo_of (take l.step-index l.step-items)
