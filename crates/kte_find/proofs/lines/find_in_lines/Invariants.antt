use Rattle.kte_place.specs.Place.{at}
use Rattle.kte_find.specs.Inside.{AreFound}
use Rattle.kte_find.proofs.lines.find_in_lines.Given as goal

-- the findings of the lines before this one are found
abbrev pub invariant-loop-line : goal.invariant-loop-line
invariant-loop-line l = AreFound l.rule l.text (at l.line 0) l.found
