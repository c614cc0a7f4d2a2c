use Rattle.std.proofs.Common.{◌≡◌, ◌+◌, ◌-◌, ◌≤◌, All, length, vec_capacity}
use Rattle.kte_turn.specs.Passes.{pass_known, pass_turn, turn_id}
use Rattle.kte_desk.specs.Calls.{AreFresh}
use Rattle.kte_desk.specs.declared.pass.CheckerPass.{CheckerPass}
use Rattle.kte_desk.proofs.desk.split_off.Given as goal

abbrev pub invariant-loop : goal.invariant-loop
invariant-loop l =
    (pass_turn l.pass ≡ turn_id l.turn)
    × (pass_known l.pass ≡ record (pass_known l.fn.pass) { share = l.checkers - l.counter + 1 })
    × (length l.passes.items ≡ l.counter)
    × (l.counter ≤ l.checkers)
    × (l.checkers ≤ vec_capacity l.passes)
    × All (λ (pass : CheckerPass). pass_turn pass.pass ≡ turn_id l.turn) l.passes.items
    × AreFresh (record (pass_known l.fn.pass) { share = 1 }) l.passes.items
