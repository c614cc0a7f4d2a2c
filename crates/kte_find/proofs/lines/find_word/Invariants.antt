use Rattle.kte_place.specs.Place.{at}
use Rattle.kte_find.specs.declared.rule.Rule.TheVariants as Rule
use Rattle.kte_find.specs.Inside.{AreFound}
use Rattle.kte_find.proofs.lines.find_word.Given as goal

-- the places before this column are found
abbrev pub invariant-loop-column : goal.invariant-loop-column
invariant-loop-column l = AreFound (Rule.Word l.word) l.text (at l.line l.column) l.found
