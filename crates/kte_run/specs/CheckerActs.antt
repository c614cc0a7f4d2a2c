-- What a checker of a run has done, once it has acted. This project's own rules.
use Rattle.std.specs.Prelude.{◌≡◌, Some, IfSome}
use Rattle.kte_desk.specs.declared.pass.CheckerPass.{CheckerPass}
use Rattle.kte_run.specs.declared.checkers.CheckerActor.{CheckerActor}
use Rattle.kte_run.specs.Beside.{Checks}

-- the checker has the pass that it had
abbrev pub CheckerActs : {K : Type 0} → CheckerActor K → CheckerActor K → Type 0
CheckerActs before after =
    IfSome before.pass (λ pass. (later : CheckerPass) × (after.pass ≡ Some later)
    × Checks pass later after.is_done)
