use Rattle.std.proofs.Common.{◌+◌, sym, ◌∙◌, ap, subst, arith}
use Rattle.std.proofs.lemmas.List.Elements.{All-get_or}
use Rattle.kte_text.specs.Units.{IsLine}
use Rattle.kte_text.specs.Texts.{size_of}
use Rattle.kte_text.proofs.PrimitiveLemmas.{size_of-take-le}
use Rattle.kte_buffer.specs.Rows.{lines_in}
use Rattle.kte_buffer.proofs.RowLemmas.{later_row, later_within}
use Rattle.kte_buffer.proofs.TextLemmas.{take-line}
use Rattle.kte_buffer.proofs.rows.copy_text.Goals as goal

pub of_units-requires-in-loop-row : goal.of_units-requires-in-loop-row
of_units-requires-in-loop-row c =
    let read = later_row c.args.rows.now c.loop-row.row-index c.row-item.result (omega arith) c.row-item.is in
    let there = later_within c.args.rows.now c.loop-row.row-index (omega arith) in
    subst IsLine (sym (c.as_slice-in-loop-row.ensures.value ∙ read))
    (All-get_or IsLine (lines_in c.args.rows.now) (c.loop-row.row-index + 1) _ there c.requires.whole)

pub push-requires : goal.push-requires
push-requires c =
    let read = later_row c.args.rows.now c.loop-row.row-index c.row-item.result (omega arith) c.row-item.is in
    let there = later_within c.args.rows.now c.loop-row.row-index (omega arith) in
    let next = take-line _ _ _ _ there c.loop-row.invariant (c.in_ok-of_units-2.ensures ∙ c.as_slice-in-loop-row.ensures.value ∙ read) in
    omega (arith, ap size_of next, size_of-take-le (c.loop-row.row-index + 1 + 1) (lines_in c.args.rows.now))

pub loop-row-preserved : goal.loop-row-preserved
loop-row-preserved c =
    let read = later_row c.args.rows.now c.loop-row.row-index c.row-item.result (omega arith) c.row-item.is in
    let there = later_within c.args.rows.now c.loop-row.row-index (omega arith) in
    c.in_ok-push.ensures.ok ∙ take-line _ _ _ _ there c.loop-row.invariant (c.in_ok-of_units-2.ensures ∙ c.as_slice-in-loop-row.ensures.value ∙ read)
