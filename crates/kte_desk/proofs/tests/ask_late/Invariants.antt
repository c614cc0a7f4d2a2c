use Rattle.std.proofs.Common.{◌≡◌}
use Rattle.kte_desk.specs.Passes.{IsEditorOf, editor_known}
use Rattle.kte_desk.proofs.tests.ask_late.Given as goal

abbrev pub invariant-loop : goal.invariant-loop
invariant-loop g l =
    IsEditorOf l.desk l.pass
    × ((editor_known l.pass).share ≡ (editor_known l.fn.pass).share)
    × ((editor_known l.pass).seats ≡ (editor_known l.fn.pass).seats)
    × ((editor_known l.pass).own ≡ (editor_known l.fn.pass).own)
