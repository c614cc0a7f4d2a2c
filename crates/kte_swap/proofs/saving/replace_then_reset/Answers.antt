use Rattle.std.proofs.Common.{[], ◌∷◌}
use Rattle.kte_swap.specs.Saving.{replaces, resets}
use Rattle.kte_swap.proofs.Calls.{Makes-one, Makes-then}
use Rattle.kte_swap.proofs.saving.replace_then_reset.Goals as goal

pub returns-clause-moments : goal.returns-clause-moments
returns-clause-moments g c =
    Makes-then c.args.bytes.now replaces (resets ∷ []) c.reset.result _ _ _
    (Makes-one c.args.bytes.now replaces _ _ c.in_ok-replace.ensures.moments) c.reset.ensures.moments
