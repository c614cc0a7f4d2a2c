use Rattle.kte_run.specs.Run.{outer}
use Rattle.kte_run.proofs.OutputLemmas.{IsEdited-session}
use Rattle.kte_run.proofs.program.edited_alone.Goals as goal

pub returns-clause-edited : goal.returns-clause-edited
returns-clause-edited g c =
    let ran = c.in_ok-ending.ensures in
    IsEdited-session 0 c.args.begun.commands.items c.args.begun.loaded c.args.begun.swap
    (outer (g.D.Disk.moments c.args.disk.now) (g.D.Disk.faults c.args.disk.now))
    (outer (g.D.Disk.moments c.carry_out.new.disk) (g.D.Disk.faults c.carry_out.new.disk))
    c.in_ok-ending.ending c.in_ok-output_of.field-0.items c.in_ok-core.core c.carry_out.new.core c.in_ok-core.ensures
    (record { schedule = ran.schedule; begun = ran.begun; tells = ran.tells }) c.in_ok-output_of.ensures
