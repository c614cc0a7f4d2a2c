use Rattle.std.proofs.Common.{◌-◌, length}
use Rattle.kte_fold.specs.Inside.{Descended}
use Rattle.kte_fold.proofs.outline.find_seat.Given as goal

-- each fold before holds the span or precedes it
abbrev pub invariant-loop-at : goal.invariant-loop-at
invariant-loop-at g l =
    Descended (g.S.Spanned.spans l.spans) l.numbers l.initial.inside l.inside l.span l.at l.end

abbrev pub decreases-loop-at : goal.decreases-loop-at
decreases-loop-at g l = length l.numbers - l.at
