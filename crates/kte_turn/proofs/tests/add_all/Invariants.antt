use Rattle.std.proofs.Common.{◌≡◌}
use Rattle.kte_turn.specs.Passes.{IsPassOf, pass_known}
use Rattle.kte_turn.proofs.tests.add_all.Given as goal

abbrev pub invariant-loop-count : goal.invariant-loop-count
invariant-loop-count g l =
    IsPassOf l.turn l.pass
    × ((pass_known l.pass).share ≡ (pass_known l.fn.pass).share)
    × ((pass_known l.pass).seats ≡ (pass_known l.fn.pass).seats)
