use Rattle.std.proofs.Common.{◌≡◌, ℕ, ◌%◌, ◌^◌, []}
use Rattle.kte_turn.specs.Steps.{staged}
use Rattle.kte_turn.specs.declared.view.Stage.TheVariants.{Waits}
use Rattle.kte_turn.proofs.turn.Turn.enter.Given as goal

-- the pass waits with its ticket, and has nothing of the slot
abbrev pub invariant-loop : goal.invariant-loop
invariant-loop g l =
    (l.token.table_id ≡ l.self.table.shared.table_id)
    × ((t : ℕ) × (t % 2 ^ 64 ≡ l.ticket) × (l.token.me ≡ (staged (Waits t) l.fn.pass.token.me.0, [])))
