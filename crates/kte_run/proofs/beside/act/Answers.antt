use Rattle.std.proofs.Common.{◌≡◌, ◌∙◌, Option, Some, IfSome, Result, Ok, Err, IfOk, refl, sym, subst}
use Rattle.std.specs.Result.{result_ok}
use Rattle.kte_desk.specs.Passes.{editor_known}
use Rattle.kte_desk.specs.declared.pass.EditorPass.{EditorPass}
use Rattle.kte_run.specs.declared.status.Status.{Status}
use Rattle.kte_run.specs.Beside.{CanEdit, EditsTo, EditsWith}
use Rattle.kte_run.specs.Run.{Outer, outer}
use Rattle.kte_run.proofs.beside.act.Goals as goal

-- what holds of a value that came holds of it where the error is dropped
if-ok : {T E : Type 0} (P : T → Type 0) (result : Result T E) → IfOk result P → IfSome (result_ok result) P
if-ok P (Ok value) holds = holds
if-ok P (Err error) holds = tt

pub returns : goal.returns
returns g c =
    let first : EditorPass = c.in-Some.taken in
    let later : EditorPass = c.ask_beside-ending.result.1 in
    let pass_is : c.args.pass.now ≡ Some first = sym c.take.ensures.value ∙ c.in-Some.is in
    let can = subst (λ (o : Option EditorPass). IfSome o (λ pass. CanEdit c.args.desk.now pass c.args.editor.now)) pass_is c.requires.can in
    let before : Outer = outer (g.D.Disk.moments c.args.disk.now) (g.D.Disk.faults c.args.disk.now) in
    let after : Outer = outer (g.D.Disk.moments c.ask_beside-ending.new.disk) (g.D.Disk.faults c.ask_beside-ending.new.disk) in
    let ends : Status → Type 0 = λ ending. EditsTo c.args.editor.now (editor_known first) ending (editor_known later) before after in
    subst (λ (o : Option EditorPass). IfSome o (λ pass. EditsWith c.args.editor.now pass (Some later) c.ok.result before after)) (sym pass_is) (
      later,
      refl,
      record {
        desk = c.ask_beside-ending.ensures.own ∙ sym can.own;
        later = c.ask_beside-ending.ensures.later;
        goes_on = c.ask_beside-ending.ensures.goes_on;
        edits = subst (λ (o : Option Status). IfSome o ends) (sym c.ok.ensures.value)
            (if-ok ends c.ask_beside-ending.result.0 c.ask_beside-ending.ensures.edits);
      },
    )
