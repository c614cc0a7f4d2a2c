-- What the checkers of a run have. This project's own rules.
use Rattle.std.specs.Prelude.{Bool, Option}
use Rattle.kte_desk.specs.declared.pass.CheckerPass.{CheckerPass}
use Rattle.kte_run.specs.declared.checkers.CheckerActor.{CheckerActor}

-- the pass that a checker has
abbrev pub pass_of : {K : Type 0} → CheckerActor K → Option CheckerPass
pass_of checker = checker.pass

-- it has acted, and memory did not run out
abbrev pub is_done : {K : Type 0} → CheckerActor K → Bool
is_done checker = checker.is_done
