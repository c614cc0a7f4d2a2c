use Rattle.std.proofs.Common.{List, Some, slice_get, ap, sym, ◌∙◌}
use Rattle.kte_text.specs.declared.primitive.Primitive.{Primitive}
use Rattle.kte_run.proofs.CallLemmas.{noted-more}
use Rattle.kte_run.proofs.editor.note.Goals as goal

pub loop-n-preserved : goal.loop-n-preserved
loop-n-preserved c =
    noted-more c.args.current.now c.loop-n.current c.push.new.self c.made.inside.primitives.items c.loop-n.n c.in_ok-primitive.primitive
    c.in_ok-push.ensures.ok c.loop-n.invariant
    (ap (λ (ps : List Primitive). slice_get ps c.loop-n.n) c.made.view_is ∙ c.get.ensures ∙ ap Some (sym c.in_ok-primitive.ensures))
