use Rattle.kte_core.specs.Replay.{beginning}
use Rattle.kte_run.specs.Run.{outer}
use Rattle.kte_run.proofs.CarryLemmas.{same, scheduled, tells-same}
use Rattle.kte_run.proofs.alone.carry_out.Goals as goal

pub returns-clause-schedule : goal.returns-clause-schedule
returns-clause-schedule g c =
    scheduled c.args.commands.items c.args.core.now c.ask_all.new.core c.drain.new.core c.requires.fresh c.in_ok-ending.ensures.ok
    (c.in_ok-drain.ensures.ok c.in_ok-ending.ensures.ok.idle)

pub returns-clause-tells : goal.returns-clause-tells
returns-clause-tells g c =
    tells-same c.in_ok-ending.ending (beginning c.args.core.now.loaded c.args.core.now.limit) c.ask_all.new.core.events c.drain.new.core.events
    c.args.swap (outer (g.D.Disk.moments c.args.disk.now) (g.D.Disk.faults c.args.disk.now))
    (outer (g.D.Disk.moments c.ask_all.new.disk) (g.D.Disk.faults c.ask_all.new.disk))
    (same c.args.commands.items c.args.core.now c.ask_all.new.core c.drain.new.core c.requires.fresh c.in_ok-ending.ensures.ok
    (c.in_ok-drain.ensures.ok c.in_ok-ending.ensures.ok.idle))
    c.in_ok-ending.ensures.tells
