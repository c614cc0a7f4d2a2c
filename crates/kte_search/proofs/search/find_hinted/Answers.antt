use Rattle.std.proofs.Common.{arith}
use Rattle.kte_search.proofs.MatchLemmas.{first_on_line}
use Rattle.kte_search.proofs.search.find_hinted.Goals as goal

pub returns-in-Some-clause-found : goal.returns-in-Some-clause-found
returns-in-Some-clause-found g c =
    let text = g.L.Lines.text c.args.lines.now in
    rw c.span_at.ensures
    (first_on_line c.args.query.now text c.args.from c.loop-line.line c.in-Some.column (omega arith) (omega arith) c.loop-line.invariant
    (rw (c.line_hinted-units.ensures, c.first_column.ensures) at c.in-Some.ensures.found))
