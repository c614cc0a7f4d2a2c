use Rattle.std.proofs.Common.{◌≡◌, ◌+◌, ◌≤◌, ◌++◌, reverse, vec_len, vec_capacity}
use Rattle.kte_undo.proofs.group.Group.cut.Given as goal

-- the steps that are left, and then those that were cut off, are the group
abbrev pub invariant-loop-steps : goal.invariant-loop-steps
invariant-loop-steps l = record {
  inside : l.at ≤ vec_len l.steps;
  room : vec_len l.rest + vec_len l.steps ≤ vec_capacity l.rest + l.at;
  whole : l.steps.items ++ reverse l.rest.items ≡ l.initial.steps.items;
}

abbrev pub decreases-loop-steps : goal.decreases-loop-steps
decreases-loop-steps l = vec_len l.steps
