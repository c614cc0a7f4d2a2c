use Rattle.std.proofs.Common.{◌-◌, ◌≤◌}
use Rattle.kte_fold.specs.Inside.{LieInside}
use Rattle.kte_fold.proofs.outline.end_of_inner.Given as goal

-- the folds so far lie in the span
abbrev pub invariant-loop-next : goal.invariant-loop-next
invariant-loop-next g l = record {
  after : l.seat.at ≤ l.next;
  bounded : l.next ≤ l.seat.end;
  inner : LieInside (g.S.Spanned.spans l.spans) l.numbers l.inside l.fn.span l.seat.at l.next;
}

abbrev pub decreases-loop-next : goal.decreases-loop-next
decreases-loop-next g l = l.seat.end - l.next
