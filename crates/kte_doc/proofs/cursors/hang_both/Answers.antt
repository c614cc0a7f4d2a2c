use Rattle.std.proofs.Common.{ap, ◌∙◌}
use Rattle.kte_place.specs.Ends.{Ends}
use Rattle.kte_place.specs.Span.{start_on, end_on}
use Rattle.kte_buffer.specs.Cursors.{hanging}
use Rattle.kte_doc.proofs.Hanging.{come_hangs, come_and_gone, come_both}
use Rattle.kte_doc.proofs.cursors.hang_both.Goals as goal

pub unhang-requires : goal.unhang-requires
unhang-requires c = come_hangs _ _ _ _ (ap (λ b. b.hung) (c.in-Err.ensures.err ∙ c.in_ok-start.ensures.ok))

pub returns-in-Ok-clause-cursors : goal.returns-in-Ok-clause-cursors
returns-in-Ok-clause-cursors c =
    come_both _ _ _ c.args.expand c.args.span c.in_ok-start.start c.in-Ok.end
    (hanging c.span.inside.start c.start.result) (hanging c.span.inside.end c.end.result)
    (ap (λ on. hanging c.span.inside.start on) c.start.ensures ∙ ap (λ (s : Ends). hanging s.start (start_on c.args.expand)) c.span.view_is)
    (ap (λ on. hanging c.span.inside.end on) c.end.ensures ∙ ap (λ (s : Ends). hanging s.end (end_on c.args.expand)) c.span.view_is)
    c.in_ok-start.ensures.free (ap (λ b. b.hung) c.in_ok-start.ensures.ok) c.in-Ok.ensures.free (ap (λ b. b.hung) c.in-Ok.ensures.ok)

pub returns-in-Err-clause-err : goal.returns-in-Err-clause-err
returns-in-Err-clause-err c =
    come_and_gone _ _ _ _ _ c.in_ok-start.ensures.free (ap (λ b. b.hung) (c.in-Err.ensures.err ∙ c.in_ok-start.ensures.ok)) (ap (λ b. b.hung) c.unhang.ensures.gone)
