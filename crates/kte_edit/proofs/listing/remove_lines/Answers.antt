use Rattle.std.proofs.Common.{◌≡◌, ◌+◌, ◌-◌, [], ◌∷◌, length, arith, ap, sym}
use Rattle.kte_text.specs.declared.primitive.Primitive.TheVariants.{Unwrap, Remove}
use Rattle.kte_edit.specs.Steps.{removed_lines, without_empty}
use Rattle.kte_edit.proofs.ListLemmas.{removed_next, grown_by}
use Rattle.kte_edit.proofs.listing.remove_lines.Goals as goal

pub loop-line-preserved : goal.loop-line-preserved
loop-line-preserved g c =
    let T = g.L.Lines.text c.args.lines.now in
    let first = c.args.first in
    let line = c.loop-line.line - 1 in
    let one : line + 1 ≡ c.loop-line.line = omega arith in
    let next = removed_next T first line c.loop-line.line (length c.line_hinted.result.now) (omega arith) (sym one)
    (ap length c.line_hinted.ensures) in
    record {
      after = omega arith;
      inside = omega arith;
      whole = grown_by c.loop-line.batch c.push_removal.new.batch c.push.new.self
          (without_empty (Remove line 0 (length c.line_hinted.result.now) ∷ [])) (Unwrap (line + 1) ∷ [])
          (without_empty (removed_lines T first (c.loop-line.line - first - 1))) (without_empty (removed_lines T first (line - first - 1))) _
          c.in_ok-push_removal.ensures c.in_ok-push.ensures.ok next c.loop-line.invariant.whole;
    }
