use Rattle.std.proofs.Common.{◌≡◌, ℕ, List, refl, subst}
use Rattle.kte_run.specs.Edit.{IsWritten, inputs}
use Rattle.kte_run.specs.Run.{outer, outside}
use Rattle.kte_run.proofs.Answering.{ends-early, ends-in-edit, ends-in-writing}
use Rattle.kte_run.proofs.program.edit_checked.Goals as goal

pub returns-in-Err : goal.returns-in-Err
returns-in-Err g c =
    ends-early (inputs (g.S.Source.left c.args.script.now) (g.S.Source.faults c.args.script.now) (g.D.Disk.moments c.args.disk.now) (g.D.Disk.faults c.args.disk.now))
    (inputs (g.S.Source.left c.begin.new.script) (g.S.Source.faults c.begin.new.script) (g.D.Disk.moments c.begin.new.disk) (g.D.Disk.faults c.begin.new.disk))
    (c.begin.new.disk ≡ c.args.disk.now) (c.args.out.now ≡ c.args.out.now) c.in-Err.status c.args.workers (g.O.Sink.got c.args.out.now) (g.O.Sink.faults c.args.out.now)
    c.in-Err.ensures.early refl

pub returns-in-Err-edited_beside : goal.returns-in-Err-edited_beside
returns-in-Err-edited_beside g c =
    ends-in-edit c.args.workers (outside (g.S.Source.left c.args.script.now) (g.S.Source.faults c.args.script.now) (g.D.Disk.moments c.args.disk.now) (g.D.Disk.faults c.args.disk.now) (g.O.Sink.got c.args.out.now) (g.O.Sink.faults c.args.out.now))
    (g.S.Source.left c.begin.new.script) (g.S.Source.faults c.begin.new.script) (outer (g.D.Disk.moments c.begin.new.disk) (g.D.Disk.faults c.begin.new.disk))
    c.in-Ok.begun.commands.items c.in-Ok.begun.loaded c.in-Ok.begun.swap c.in-Ok.ensures.begun
    (outer (g.D.Disk.moments c.edited_beside.new.disk) (g.D.Disk.faults c.edited_beside.new.disk))
    (c.edited_beside.new.disk ≡ c.args.disk.now) (c.args.out.now ≡ c.args.out.now) c.edited_beside.ensures.goes_on.reads

pub returns-in-Ok-edited_beside : goal.returns-in-Ok-edited_beside
returns-in-Ok-edited_beside g c =
    let got = g.O.Sink.got c.args.out.now in
    let now = g.O.Sink.got c.write_output.new.out in
    let faults = g.O.Sink.faults c.args.out.now in
    let later = g.O.Sink.faults c.write_output.new.out in
    ends-in-writing c.args.workers (outside (g.S.Source.left c.args.script.now) (g.S.Source.faults c.args.script.now) (g.D.Disk.moments c.args.disk.now) (g.D.Disk.faults c.args.disk.now) got faults)
    (g.S.Source.left c.begin.new.script) (g.S.Source.faults c.begin.new.script) (outer (g.D.Disk.moments c.begin.new.disk) (g.D.Disk.faults c.begin.new.disk))
    c.in-Ok.begun.commands.items c.in-Ok.begun.loaded c.in-Ok.begun.swap c.in-Ok.ensures.begun
    (outer (g.D.Disk.moments c.edited_beside.new.disk) (g.D.Disk.faults c.edited_beside.new.disk)) now later
    (c.edited_beside.new.disk ≡ c.args.disk.now) (c.write_output.new.out ≡ c.args.out.now) c.write_output.result c.in-Ok-edited_beside.ending c.in-Ok-edited_beside.output.items
    c.in-Ok-edited_beside.ensures.edited c.edited_beside.ensures.goes_on.reads
    (subst (λ (bytes : List ℕ). IsWritten bytes c.in-Ok-edited_beside.ending c.write_output.result got now faults later) c.deref.ensures.value c.write_output.ensures)
