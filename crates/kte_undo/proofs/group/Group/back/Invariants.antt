use Rattle.std.proofs.Common.{◌≡◌, ◌≤◌, ◌++◌, length, take}
use Rattle.kte_undo.specs.Steps.{undo_of}
use Rattle.kte_undo.proofs.group.Group.back.Given as goal

-- what is listed, and what is left to be, undo the whole group
abbrev pub invariant-loop-left : goal.invariant-loop-left
invariant-loop-left l = record {
  inside : l.left ≤ length l.self-inside.steps.items;
  whole : l.batch ++ undo_of (take l.left l.self-inside.steps.items) ≡ undo_of l.self-inside.steps.items;
}

abbrev pub decreases-loop-left : goal.decreases-loop-left
decreases-loop-left l = l.left
