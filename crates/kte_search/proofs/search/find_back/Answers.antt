use Rattle.std.proofs.Common.{◌-◌, ◌<◌, ◌≤◌, length, arith}
use Rattle.kte_search.proofs.MatchLemmas.{last_on_line}
use Rattle.kte_search.proofs.search.find_back.Goals as goal
use Rattle.kte_search.proofs.search.find_back.Goals.{then-before-count, else-before-count}

pub returns-in-Some-clause-found : goal.returns-in-Some-clause-found
returns-in-Some-clause-found g c =
    let text = g.L.Lines.text c.args.lines.now in
    let there : c.loop-line.line - 1 < length text = elim c.if-before-count.branch [ then-before-count w ↦ omega arith | else-before-count w ↦ omega arith ] in
    let reached : c.loop-line.line - 1 ≤ c.args.before.line = elim c.if-before-count.branch [ then-before-count w ↦ omega arith | else-before-count w ↦ omega arith ] in
    rw c.span_at.ensures
    (last_on_line c.args.query.now text c.args.before (c.loop-line.line - 1) c.in-Some.column there reached
    (λ t m f. let below = c.loop-line.invariant t m f in omega arith)
    (rw (c.last_column-end.ensures, c.line_hinted-units.ensures) at c.in-Some.ensures.found))
