use Rattle.std.proofs.Common.{◌≡◌, ◌≤◌, length, map, Some, true, All, vec_capacity}
use Rattle.kte_run.specs.Crew.{is_done, pass_of}
use Rattle.kte_run.proofs.crew.gathered.Given as goal

abbrev pub invariant-loop-checker : goal.invariant-loop-checker
invariant-loop-checker g l =
    (goal.iterator-loop-checker g).can_next l.checker-iterator ×
    (goal.iterator-loop-checker g).is_finite l.checker-iterator ×
    (map Some l.passes.items ≡ map pass_of l.yielded) ×
    (length l.fn.checkers.items ≤ vec_capacity l.passes) ×
    (l.are_done ≡ true → All (λ checker. is_done checker ≡ true) l.yielded)
