use Rattle.std.proofs.Common.{◌-◌, ◌+◌, [], ◌∷◌, length, ap}
use Rattle.kte_place.specs.Ends.{Ends}
use Rattle.kte_text.specs.declared.primitive.Primitive.TheVariants.{Unwrap, Remove}
use Rattle.kte_edit.specs.Steps.{removed_lines, without_empty, removal}
use Rattle.kte_edit.proofs.ListLemmas.{removal_parts, grown, on_ok}
use Rattle.kte_edit.proofs.listing.remove.Goals as goal

pub returns : goal.returns
returns g c =
    let T = g.L.Lines.text c.args.lines.now in
    let span : Ends = record { start = c.span.inside.start; end = c.span.inside.end } in
    let parts = removal_parts span T (length c.line.result.now) c.if-start-end.false (ap length c.line.ensures) in
    rw (← c.span.view_is)
    (on_ok c.push.result _ _
    (λ last.
    grown c.args.batch.now c.push_removal-2.new.batch c.remove_lines.new.batch c.push_removal-3.new.batch c.push.new.self
    (without_empty (Remove span.end.line 0 span.end.column ∷ []))
    (without_empty (removed_lines T span.start.line (span.end.line - span.start.line - 1)))
    (without_empty (Remove span.start.line span.start.column (length c.line.result.now - span.start.column) ∷ []))
    (Unwrap (span.start.line + 1) ∷ []) (without_empty (removal span T))
    c.in_ok-push_removal.ensures c.in_ok-remove_lines.ensures c.in_ok-push_removal-2.ensures last parts)
    c.push.ensures.ok)
