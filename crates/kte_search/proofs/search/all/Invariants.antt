use Rattle.kte_search.specs.Inside.{FoundSoFar}
use Rattle.kte_search.proofs.search.all.Given as goal

-- the matches so far
abbrev pub invariant-loop : goal.invariant-loop
invariant-loop g l = FoundSoFar l.query (g.L.Lines.text l.lines) l.spans l.from l.counter
