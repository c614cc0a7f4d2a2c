use Rattle.std.proofs.Common.{◌≡◌}
use Rattle.kte_turn.specs.Passes.{pass_known, pass_turn, turn_id}
use Rattle.kte_desk.proofs.JoinLemmas.{Joined}
use Rattle.kte_desk.proofs.desk.Desk.close.Given as goal

abbrev pub invariant-loop-checker : goal.invariant-loop-checker
invariant-loop-checker l =
    (goal.iterator-loop-checker).can_next l.checker-iterator
    × (goal.iterator-loop-checker).is_finite l.checker-iterator
    × (pass_turn l.pass ≡ turn_id l.turn)
    × Joined (pass_known l.fn.editor.pass) l.yielded (pass_known l.pass)
