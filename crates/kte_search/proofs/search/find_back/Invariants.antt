use Rattle.std.proofs.Common.{◌<◌, IsTrue}
use Rattle.kte_place.specs.Ends.{Ends}
use Rattle.kte_place.specs.Place.{is_at_or_before}
use Rattle.kte_search.specs.Matches.{IsMatch}
use Rattle.kte_search.proofs.search.find_back.Given as goal

-- no match on the lines that were searched
abbrev pub invariant-loop-line : goal.invariant-loop-line
invariant-loop-line g l =
    (t : Ends) → IsMatch l.query (g.L.Lines.text l.lines) t → IsTrue (is_at_or_before t.end l.before)
    → t.start.line < l.line
