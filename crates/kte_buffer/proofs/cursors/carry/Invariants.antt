use Rattle.std.proofs.Common.{◌≤◌, length}
use Rattle.std.specs.Vec.{vec_capacity}
use Rattle.kte_buffer.proofs.CursorLemmas.{CarriedBelow, ListedBelow}
use Rattle.kte_buffer.proofs.cursors.carry.Given as goal

abbrev pub invariant-loop-key : goal.invariant-loop-key
invariant-loop-key l =
    CarriedBelow l.entry l.initial.cursors l.cursors l.key × ListedBelow l.entry l.cursors l.near.items l.key
    × (length l.initial.cursors.slots ≤ vec_capacity l.near)
