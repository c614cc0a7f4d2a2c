use Rattle.kte_place.specs.Place.{at}
use Rattle.kte_find.specs.declared.rule.Rule.TheVariants as Rule
use Rattle.kte_find.specs.Inside.{AreFound}
use Rattle.kte_find.proofs.lines.find_repeats.Given as goal

-- the repeated words that start before this column are found
abbrev pub invariant-loop-column : goal.invariant-loop-column
invariant-loop-column l = AreFound Rule.Repeat l.text (at l.line l.column) l.found
