use Rattle.std.proofs.Common.{◌+◌, length, sym, refl, arith}
use Rattle.std.proofs.lemmas.Bool.{both_ways}
use Rattle.kte_place.specs.Place.{at}
use Rattle.kte_find.specs.OnLine.{IsPlaceOf}
use Rattle.kte_find.specs.Findings.{IsInLine}
use Rattle.kte_find.proofs.FirstLemmas.{first_few}
use Rattle.kte_find.proofs.LineLemmas.{column_one, column_none, line_done}
use Rattle.kte_find.proofs.lines.find_word.Goals.{then-is_place+in_ok-note, else-is_place}
use Rattle.kte_find.proofs.lines.find_word.Goals as goal

pub note-requires : goal.note-requires
note-requires c = first_few (IsInLine (IsPlaceOf c.args.word.now) c.args.text.now) (at c.args.line c.loop-column.column) c.loop-column.found c.loop-column.invariant

pub loop-column-preserved : goal.loop-column-preserved
loop-column-preserved c =
    let units = c.line-units.result.now in
    let word = c.args.word.now in
    let column = c.loop-column.column in
    elim c.if-is_place.branch [
      | then-is_place+in_ok-note w ↦
          rw (w.found-is, w.in_ok-note.ensures, w.span_on.ensures)
          (column_one (IsPlaceOf word) c.args.text.now c.args.line units c.line-units.ensures c.loop-column.found column (column + length word)
          c.loop-column.invariant c.requires.there
          (record { found = c.is_place.ensures.0 w.if-is_place.true; whole = refl })
          (λ other h. sym h.whole))
      | else-is_place w ↦
          rw w.found-is
          (column_none (IsPlaceOf word) c.args.text.now c.args.line units c.line-units.ensures c.loop-column.found column
          c.loop-column.invariant
          (λ end h. both_ways _ w.if-is_place.false (c.is_place.ensures.1 h.found)))
    ]

pub returns : goal.returns
returns c =
    let units = c.line-units.result.now in
    let past = c.loop-column-test.false in
    let some = c.requires.some in
    line_done (IsPlaceOf c.args.word.now) c.args.text.now c.args.line units c.line-units.ensures c.loop-column.found c.loop-column.column c.loop-column.invariant
    (λ start end h. let within = h.found.within in omega arith)
