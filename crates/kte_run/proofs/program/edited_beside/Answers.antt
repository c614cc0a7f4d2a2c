use Rattle.kte_run.specs.Run.{outer}
use Rattle.kte_run.proofs.OutputLemmas.{IsEdited-session}
use Rattle.kte_run.proofs.program.edited_beside.Goals as goal

pub returns-clause-edited : goal.returns-clause-edited
returns-clause-edited g c =
    IsEdited-session c.args.workers c.args.begun.commands.items c.args.begun.loaded c.args.begun.swap
    (outer (g.D.Disk.moments c.args.disk.now) (g.D.Disk.faults c.args.disk.now))
    (outer (g.D.Disk.moments c.carry_out_beside.new.disk) (g.D.Disk.faults c.carry_out_beside.new.disk))
    c.in_ok-core-2.ending c.in_ok-output_of.field-0.items c.in_ok-core.core c.in_ok-core-2.core c.in_ok-core.ensures
    c.in_ok-core-2.ensures.carried c.in_ok-output_of.ensures
