use Rattle.std.proofs.Common.{length, sym, refl, arith}
use Rattle.kte_place.specs.Place.{at}
use Rattle.kte_find.specs.OnLine.{IsBeyond}
use Rattle.kte_find.specs.Findings.{IsInLine}
use Rattle.kte_find.proofs.FirstLemmas.{first_few}
use Rattle.kte_find.proofs.LineLemmas.{line_one, line_none}
use Rattle.kte_find.proofs.lines.find_long.Goals as goal

pub note-requires : goal.note-requires
note-requires c = first_few (IsInLine (IsBeyond c.args.limit) c.args.text.now) (at c.args.line 0) c.args.found.now c.requires.before

pub returns-in_ok-note : goal.returns-in_ok-note
returns-in_ok-note c =
    let units = c.line.result.now in
    rw (c.in_ok-note.ensures, c.span_on.ensures)
    (line_one (IsBeyond c.args.limit) c.args.text.now c.args.line units c.line.ensures c.args.found.now c.args.limit (length units)
    c.requires.before c.requires.there
    (record { some = c.if-limit-length.true; whole = refl; first = refl })
    (λ s e h. (sym h.first, sym h.whole)))

pub returns-else-limit-length : goal.returns-else-limit-length
returns-else-limit-length c =
    let units = c.line.result.now in
    let short = c.if-limit-length.false in
    line_none (IsBeyond c.args.limit) c.args.text.now c.args.line units c.line.ensures c.args.found.now c.requires.before
    (λ s e h. let some = h.some in let first = h.first in let whole = h.whole in omega arith)
