use Rattle.std.proofs.Common.{length}
use Rattle.kte_place.specs.Place.{at}
use Rattle.kte_find.specs.OnLine.{IsBlankEnd}
use Rattle.kte_find.specs.Findings.{IsInLine}
use Rattle.kte_find.proofs.FirstLemmas.{first_few}
use Rattle.kte_find.proofs.LineLemmas.{line_one, line_none}
use Rattle.kte_find.proofs.RunLemmas.{blank_end, one_blank_end, no_blank_end}
use Rattle.kte_find.proofs.lines.find_blanks.Goals as goal

pub note-requires : goal.note-requires
note-requires c = first_few (IsInLine IsBlankEnd c.args.text.now) (at c.args.line 0) c.args.found.now c.requires.before

pub returns-in_ok-note : goal.returns-in_ok-note
returns-in_ok-note c =
    let units = c.line-units.result.now in
    let start = c.blanks_start-start.result in
    let found = c.blanks_start-start.ensures in
    rw (c.in_ok-note.ensures, c.span_on.ensures)
    (line_one IsBlankEnd c.args.text.now c.args.line units c.line-units.ensures c.args.found.now start (length units)
    c.requires.before c.requires.there
    (blank_end units start found.blank found.first c.if-start-units.true)
    (one_blank_end units start found.blank found.first found.order))

pub returns-else-start-units : goal.returns-else-start-units
returns-else-start-units c =
    let units = c.line-units.result.now in
    let start = c.blanks_start-start.result in
    let found = c.blanks_start-start.ensures in
    line_none IsBlankEnd c.args.text.now c.args.line units c.line-units.ensures c.args.found.now c.requires.before
    (no_blank_end units start found.blank found.first c.if-start-units.false found.order)
