use Rattle.std.proofs.Common.{ℕ, List, Err, ap, subst}
use Rattle.kte_causes.specs.Contents.{AppendsPrefix}
use Rattle.kte_run.proofs.GenerateLemmas.{ends-unwritten}
use Rattle.kte_run.proofs.generation.generate.Goals as goal

pub returns : goal.returns
returns g c =
    let got = g.O.Sink.got c.args.out.now in
    let now = g.O.Sink.got c.write_whole.new.sink in
    ends-unwritten c.args.number c.args.count got now (g.O.Sink.faults c.args.out.now) (g.O.Sink.faults c.write_whole.new.sink)
    c.in-Ok.output.items c.in-Err.fail c.from.result c.from.ensures c.in-Ok.ensures
    (subst (λ (bytes : List ℕ). AppendsPrefix got now bytes) c.deref.ensures.value c.in-Err.ensures.prefix)
    (λ is. c.in-Err.ensures.counts.failed (ap Err is)) c.in-Err.ensures.counts.calm_error
