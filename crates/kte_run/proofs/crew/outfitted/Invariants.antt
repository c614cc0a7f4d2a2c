use Rattle.std.proofs.Common.{◌≡◌, ◌≤◌, length, map, Some, vec_capacity}
use Rattle.kte_run.specs.Crew.{pass_of}
use Rattle.kte_run.proofs.crew.outfitted.Given as goal

abbrev pub invariant-loop-pass : goal.invariant-loop-pass
invariant-loop-pass g l =
    (goal.iterator-loop-pass g).can_next l.pass-iterator ×
    (goal.iterator-loop-pass g).is_finite l.pass-iterator ×
    (map pass_of l.checkers.items ≡ map Some l.yielded) ×
    (length l.fn.passes.items ≤ vec_capacity l.checkers)
