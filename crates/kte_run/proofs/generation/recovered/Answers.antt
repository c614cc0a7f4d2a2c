use Rattle.std.proofs.Common.{◌∙◌}
use Rattle.std.proofs.lemmas.Result.{IfOk-weaker}
use Rattle.kte_causes.specs.Moments.{latest}
use Rattle.kte_run.proofs.GenerateLemmas.{recovers, swap-stays}
use Rattle.kte_run.proofs.generation.recovered.Goals as goal

pub returns : goal.returns
returns c =
    IfOk-weaker c.done_in.result _ _
    (λ done counts. recovers (latest c.args.disk.now).saved (latest c.args.disk.now).swap c.deref.result.now c.deref-2.result.now c.recover.result done
    (c.deref.ensures.value ∙ c.in_ok-saved.ensures.bytes)
    (c.deref-2.ensures.value ∙ c.in_ok-swap.ensures.bytes ∙ swap-stays c.args.disk.now c.bytes_of.new.disk c.bytes_of.ensures.files)
    c.recover.ensures.answer counts)
    c.done_in.ensures
