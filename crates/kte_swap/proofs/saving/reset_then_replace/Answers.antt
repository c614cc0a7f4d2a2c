use Rattle.std.proofs.Common.{[], ◌∷◌}
use Rattle.kte_swap.specs.Saving.{replaces, resets}
use Rattle.kte_swap.proofs.Calls.{Makes-one, Makes-then}
use Rattle.kte_swap.proofs.saving.reset_then_replace.Goals as goal

pub returns-clause-moments : goal.returns-clause-moments
returns-clause-moments g c =
    Makes-then c.args.bytes.now resets (replaces ∷ []) c.replace.result _ _ _
    (Makes-one [] resets _ _ c.in_ok-reset.ensures.moments) c.replace.ensures.moments
