use Rattle.kte_core.proofs.FoldStepLemmas.{IsAfter-one}
use Rattle.kte_core.proofs.StepLemmas.{on_mapped, on_success}
use Rattle.kte_core.proofs.edits.apply.Goals as goal

pub returns-clause-after : goal.returns-clause-after
returns-clause-after c = on_mapped c.primitive.result c.map_err.result _ c.map_err.ensures.variant (λ fine.
    let result = c.primitive.result in
    IsAfter-one c.cursors_in_list.ensures.inside c.args.primitive.now c.args.doc.now c.primitive.new.self
    (on_success result _ fine c.primitive.ensures.fits) (on_success result _ fine c.primitive.ensures.trail)
    (on_success result _ fine c.primitive.ensures.ok) (on_success result _ fine c.primitive.ensures.ranges))
