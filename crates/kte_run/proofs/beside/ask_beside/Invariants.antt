use Rattle.std.proofs.Common.{◌≡◌, false, List, length}
use Rattle.kte_command.specs.declared.command.Command.{Command}
use Rattle.kte_swap.specs.Swap.{SwapView}
use Rattle.kte_swap.specs.declared.causes.SwapState.TheVariants.{Guarded}
use Rattle.kte_desk.specs.Passes.{IsEditorOf, editor_known}
use Rattle.kte_run.specs.Editor.{part_of, work}
use Rattle.kte_run.specs.Alone.{GoesOn}
use Rattle.kte_run.specs.Beside.{HasRequests, IsLater, IsNew, Knows}
use Rattle.kte_run.specs.Run.{outer}
use Rattle.kte_run.proofs.BesideLemmas.{IsAsking}
use Rattle.kte_run.proofs.beside.ask_beside.Given as goal

-- the pass is the desk's, and has only made requests, of which there are not too many; the editor
-- knows the state; the disk goes on telling; and unless memory ran out, the requests so far were made
abbrev pub invariant-loop-request : goal.invariant-loop-request
invariant-loop-request g l =
    record {
      own : IsEditorOf l.desk l.pass;
      later : IsLater (editor_known l.fn.pass) (editor_known l.pass);
      few : HasRequests (length (editor_known l.pass).own) l.editor;
      knows : ∥ Knows (editor_known l.pass) l.editor ∥₁;
      goes_on : GoesOn (outer (g.D.Disk.moments l.fn.disk) (g.D.Disk.faults l.fn.disk)) (outer (g.D.Disk.moments l.disk) (g.D.Disk.faults l.disk));
      asks : l.editor.failed ≡ false → (commands : List Command) (swap : SwapView) → l.fn.editor ≡ part_of commands swap → swap.state ≡ Guarded
          → IsNew (editor_known l.fn.pass)
          → IsAsking commands swap (editor_known l.pass) l.editor (outer (g.D.Disk.moments l.fn.disk) (g.D.Disk.faults l.fn.disk))
          (outer (g.D.Disk.moments l.disk) (g.D.Disk.faults l.disk));
    }

-- how many are left
abbrev pub decreases-loop-request : goal.decreases-loop-request
decreases-loop-request g l = work l.editor
