use Rattle.std.proofs.Common.{arith}
use Rattle.kte_place.specs.Place.{at}
use Rattle.kte_find.specs.OnLine.{IsRepeated}
use Rattle.kte_find.specs.Findings.{IsInLine}
use Rattle.kte_find.proofs.FirstLemmas.{first_few}
use Rattle.kte_find.proofs.LineLemmas.{column_one, column_none, line_done}
use Rattle.kte_find.proofs.RunLemmas.{one_repeat}
use Rattle.kte_find.proofs.lines.find_repeats.Goals.{in-Some+in_ok-note, in_default}
use Rattle.kte_find.proofs.lines.find_repeats.Goals as goal

pub note-requires : goal.note-requires
note-requires c = first_few (IsInLine IsRepeated c.args.text.now) (at c.args.line c.loop-column.column) c.loop-column.found c.loop-column.invariant

pub loop-column-preserved : goal.loop-column-preserved
loop-column-preserved c =
    let units = c.line-units.result.now in
    let column = c.loop-column.column in
    elim c.match-repeat_end.branch [
      | in-Some+in_ok-note w ↦
          rw (w.found-is, w.in_ok-note.ensures, w.span_on.ensures)
          (column_one IsRepeated c.args.text.now c.args.line units c.line-units.ensures c.loop-column.found column w.in-Some.end
          c.loop-column.invariant c.requires.there w.in-Some.ensures
          (λ other h. one_repeat units column w.in-Some.end other w.in-Some.ensures h))
      | in_default w ↦
          rw w.found-is
          (column_none IsRepeated c.args.text.now c.args.line units c.line-units.ensures c.loop-column.found column
          c.loop-column.invariant w.in_default.ensures)
    ]

pub returns : goal.returns
returns c =
    let units = c.line-units.result.now in
    let past = c.loop-column-test.false in
    line_done IsRepeated c.args.text.now c.args.line units c.line-units.ensures c.loop-column.found c.loop-column.column c.loop-column.invariant
    (λ start end h. let some = h.word.some in let within = h.word.within in omega arith)
