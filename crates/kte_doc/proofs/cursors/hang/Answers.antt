use Rattle.std.proofs.Common.{length, sym, subst, arith}
use Rattle.kte_place.specs.Ends.{Ends, SpanIsInReach}
use Rattle.kte_doc.proofs.Batches.{settled_hangs}
use Rattle.kte_doc.proofs.cursors.hang.Goals as goal

pub hang_at-requires : goal.hang_at-requires
hang_at-requires c =
    let span : Ends = record { start = c.span.inside.start; end = c.span.inside.end } in
    record {
      within = settled_hangs (length c.args.buffer.now.text) span c.args.empty c.settle.result c.settle.ensures
          (subst (λ (s : Ends). SpanIsInReach s) (sym c.span.view_is) c.requires)
          (omega (arith, c.lines-lines.ensures.count, c.if-span-lines.false))
          (omega (arith, c.lines-lines.ensures.count, c.if-span-lines-2.false));
    }
