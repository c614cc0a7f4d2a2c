use Rattle.std.proofs.Common.{◌≡◌, ◌+◌}
use Rattle.kte_turn.specs.Passes.{IsPassOf, pass_known}
use Rattle.kte_turn.proofs.tests.three_turns.Given as goal

abbrev pub invariant-loop-made : goal.invariant-loop-made
invariant-loop-made g l =
    IsPassOf l.turn l.pass
    × ((pass_known l.pass).turns ≡ (pass_known l.fn.pass).turns + l._made)
    × ((pass_known l.pass).share ≡ (pass_known l.fn.pass).share)
    × ((pass_known l.pass).seats ≡ (pass_known l.fn.pass).seats)
