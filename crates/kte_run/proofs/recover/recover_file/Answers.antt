use Rattle.std.proofs.Common.{◌≡◌, ℕ, List, Err, refl, ap, sym, subst}
use Rattle.std.specs.Io.KnownBytes.{Appends}
use Rattle.kte_causes.specs.Contents.{AppendsPrefix}
use Rattle.kte_run.specs.declared.status.Status.{Status}
use Rattle.kte_run.specs.Run.{Outer}
use Rattle.kte_run.specs.Recover.{IsRecovery}
use Rattle.kte_run.proofs.RecoverLemmas.{recovery_unwritten, recovery_written, recovery_failed}
use Rattle.kte_run.proofs.recover.recover_file.Goals as goal

pub returns-in-Err : goal.returns-in-Err
returns-in-Err g c =
    let before : Outer = record { faults = g.D.Disk.faults c.args.disk.now; moments = g.D.Disk.moments c.args.disk.now } in
    let after : Outer = record { faults = g.D.Disk.faults c.recovered.new.disk; moments = g.D.Disk.moments c.recovered.new.disk } in
    recovery_unwritten before after (g.O.Sink.got c.args.out.now) (g.O.Sink.faults c.args.out.now) _ c.in-Err.status c.in-Err.ensures.only
    c.in-Err.ensures.told (λ is. c.in-Err.ensures.failed (ap Err is))
    (λ call rose. let failed = c.in-Err.ensures.failed_comes call rose in cc) c.in-Err.ensures.files refl

pub returns-in-Ok-write_whole : goal.returns-in-Ok-write_whole
returns-in-Ok-write_whole g c =
    let before : Outer = record { faults = g.D.Disk.faults c.args.disk.now; moments = g.D.Disk.moments c.args.disk.now } in
    let after : Outer = record { faults = g.D.Disk.faults c.recovered.new.disk; moments = g.D.Disk.moments c.recovered.new.disk } in
    let got = g.O.Sink.got c.args.out.now in
    let now = g.O.Sink.got c.write_whole.new.sink in
    let gains = subst (λ (bytes : List ℕ). Appends got now bytes) c.deref.ensures.value c.in-Ok-write_whole.ensures.whole in
    recovery_written before after got now (g.O.Sink.faults c.args.out.now) (g.O.Sink.faults c.write_whole.new.sink) _ c.in-Ok.shown.0 c.in-Ok.shown.1.items
    c.in-Ok.ensures.shown.0 c.in-Ok.ensures.shown.1 c.in-Ok.ensures.shown.2 c.in-Ok.ensures.files gains c.in-Ok-write_whole.ensures.counts.calm

pub returns : goal.returns
returns g c =
    let before : Outer = record { faults = g.D.Disk.faults c.args.disk.now; moments = g.D.Disk.moments c.args.disk.now } in
    let after : Outer = record { faults = g.D.Disk.faults c.recovered.new.disk; moments = g.D.Disk.moments c.recovered.new.disk } in
    let got = g.O.Sink.got c.args.out.now in
    let now = g.O.Sink.got c.write_whole.new.sink in
    let gains = subst (λ (bytes : List ℕ). AppendsPrefix got now bytes) c.deref.ensures.value c.in-Err-write_whole.ensures.prefix in
    subst (λ (given : Status). IsRecovery before after got now (g.O.Sink.faults c.args.out.now) (g.O.Sink.faults c.write_whole.new.sink)
    (c.write_whole.new.sink ≡ c.args.out.now) given) (sym c.from.ensures)
    (recovery_failed before after got now (g.O.Sink.faults c.args.out.now) (g.O.Sink.faults c.write_whole.new.sink) _ c.in-Ok.shown.0 c.in-Ok.shown.1.items
    c.in-Err-write_whole.fail c.in-Ok.ensures.shown.1 c.in-Ok.ensures.shown.2 c.in-Ok.ensures.files gains
    (λ is. c.in-Err-write_whole.ensures.counts.failed (ap Err is)) c.in-Err-write_whole.ensures.counts.calm_error)
