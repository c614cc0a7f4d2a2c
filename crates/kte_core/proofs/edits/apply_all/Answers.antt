use Rattle.kte_core.proofs.StepLemmas.{applied_more, applied_none, fits_next}
use Rattle.kte_core.proofs.edits.apply_all.Goals as goal

pub loop-done-init : goal.loop-done-init
loop-done-init c = applied_none c.args.primitives.now c.args.doc.now c.requires.fit

pub apply-requires-clause-fits : goal.apply-requires-clause-fits
apply-requires-clause-fits c =
    (fits_next c.args.primitives.now c.loop-done.done c.get.result.now c.loop-done.doc.text c.get.ensures c.loop-done.invariant.fit).fits

pub apply-requires-clause-some : goal.apply-requires-clause-some
apply-requires-clause-some c =
    (fits_next c.args.primitives.now c.loop-done.done c.get.result.now c.loop-done.doc.text c.get.ensures c.loop-done.invariant.fit).some

pub loop-done-preserved : goal.loop-done-preserved
loop-done-preserved c =
    applied_more c.args.primitives.now c.loop-done.done c.get.result.now c.args.doc.now c.loop-done.doc c.apply.new.doc c.apply.result
    c.get.ensures c.loop-done.invariant (cc) c.apply.ensures.after
