use Rattle.std.proofs.Common.{◌≡◌, ◌∙◌, ℕ, List, Err, refl, ap}
use Rattle.kte_causes.specs.Moments.{saved_now}
use Rattle.kte_causes.proofs.CallerLemmas.{Staying-then, saved_now-stays}
use Rattle.kte_text.specs.Digests.{digest_of}
use Rattle.kte_swap.specs.Swap.{SwapView}
use Rattle.kte_swap.specs.declared.causes.SwapState.TheVariants.{Guarded}
use Rattle.kte_run.specs.Edit.{EndsEarly, beside, inputs}
use Rattle.kte_run.specs.Run.{outer}
use Rattle.kte_run.proofs.Files.{later}
use Rattle.kte_run.proofs.Answering.{ends-at-script, ends-at-swap, ends-at-file, err_same, spells-from}
use Rattle.kte_run.proofs.RecoverLemmas.{if_err}
use Rattle.kte_run.proofs.program.begin.Goals as goal

pub returns-in_err-commands-clause-early : goal.returns-in_err-commands-clause-early
returns-in_err-commands-clause-early g c =
    let before = inputs (g.S.Source.left c.args.script.now) (g.S.Source.faults c.args.script.now) (g.D.Disk.moments c.args.disk.now) (g.D.Disk.faults c.args.disk.now) in
    let after = inputs (g.S.Source.left c.read_commands.new.script) (g.S.Source.faults c.read_commands.new.script) (g.D.Disk.moments c.args.disk.now) (g.D.Disk.faults c.args.disk.now) in
    let status = c.in_err-commands.field-0.0 in
    let says = c.in_err-commands.ensures in
    if_err _ status (EndsEarly before after (c.args.disk.now ≡ c.args.disk.now)) c.from_residual.ensures.1
    (λ workers got sink_faults. ends-at-script workers (beside before got sink_faults) after.left after.script_faults
    (c.args.disk.now ≡ c.args.disk.now) (Unit {0}) status refl tt says.only
    (λ is. says.failed (ap Err is))
    (λ more. err_same status _ (says.failed_comes more))
    (λ fault is. says.bad_script fault (ap Err is)))

pub returns-in_err-check_no_swap-clause-early : goal.returns-in_err-check_no_swap-clause-early
returns-in_err-check_no_swap-clause-early g c =
    let before = inputs (g.S.Source.left c.args.script.now) (g.S.Source.faults c.args.script.now) (g.D.Disk.moments c.args.disk.now) (g.D.Disk.faults c.args.disk.now) in
    let after = inputs (g.S.Source.left c.read_commands.new.script) (g.S.Source.faults c.read_commands.new.script) (g.D.Disk.moments c.check_no_swap.new.disk) (g.D.Disk.faults c.check_no_swap.new.disk) in
    let status = c.in_err-check_no_swap.field-0.0 in
    let says = c.in_err-check_no_swap.ensures in
    let read = c.in_ok-commands.ensures in
    if_err _ status (EndsEarly before after (c.check_no_swap.new.disk ≡ c.args.disk.now)) c.from_residual-in_err-check_no_swap.ensures.1
    (λ workers got sink_faults. ends-at-swap workers (beside before got sink_faults) after.left after.script_faults after.disk
    (c.check_no_swap.new.disk ≡ c.args.disk.now) (Unit {0}) status tt
    (record { whole = read.whole; calm = read.calm; spells = spells-from before.left c.in_ok-commands.commands.items read.commands })
    says.only c.check_no_swap.ensures.files
    (λ is. says.failed (ap Err is))
    (λ call more. err_same status _ (says.failed_comes call more))
    (λ bytes is. says.present bytes (ap Err is)))

pub returns-in_err-bytes-clause-early : goal.returns-in_err-bytes-clause-early
returns-in_err-bytes-clause-early g c =
    let before = inputs (g.S.Source.left c.args.script.now) (g.S.Source.faults c.args.script.now) (g.D.Disk.moments c.args.disk.now) (g.D.Disk.faults c.args.disk.now) in
    let after = inputs (g.S.Source.left c.read_commands.new.script) (g.S.Source.faults c.read_commands.new.script) (g.D.Disk.moments c.load_saved.new.disk) (g.D.Disk.faults c.load_saved.new.disk) in
    let mid = outer (g.D.Disk.moments c.check_no_swap.new.disk) (g.D.Disk.faults c.check_no_swap.new.disk) in
    let status = c.in_err-bytes.field-0.0 in
    let says = c.in_err-bytes.ensures in
    let read = c.in_ok-commands.ensures in
    if_err _ status (EndsEarly before after (c.load_saved.new.disk ≡ c.args.disk.now)) c.from_residual-in_err-bytes.ensures.1
    (λ workers got sink_faults. ends-at-file workers (beside before got sink_faults) after.left after.script_faults mid after.disk
    (c.load_saved.new.disk ≡ c.args.disk.now) (Unit {0}) status tt
    (record { whole = read.whole; calm = read.calm; spells = spells-from before.left c.in_ok-commands.commands.items read.commands })
    c.in_ok-check_no_swap.ensures.empty c.in_ok-check_no_swap.ensures.calm c.check_no_swap.ensures.files c.load_saved.ensures.files says.only
    (λ is. says.failed (ap Err is))
    (λ call more. err_same status _ (says.failed_comes call more))
    (λ fault some is. says.refused fault some (ap Err is))
    (λ fault refuses. says.refused_comes fault refuses))

pub returns-clause-begun : goal.returns-clause-begun
returns-clause-begun g c =
    let old = g.D.Disk.moments c.args.disk.now in
    let seen = g.D.Disk.moments c.check_no_swap.new.disk in
    let files = c.check_no_swap.ensures.files in
    let read = c.in_ok-commands.ensures in
    let bytes = c.in_ok-bytes.bytes.items in
    record {
      whole = read.whole;
      calm = read.calm;
      spelled = read.commands;
      stays = λ call. c.in_ok-bytes.ensures.calm call ∙ c.in_ok-check_no_swap.ensures.calm call;
      files = Staying-then old seen (g.D.Disk.moments c.load_saved.new.disk) files c.load_saved.ensures.files;
      empty = c.in_ok-check_no_swap.ensures.empty;
      bytes = bytes;
      saved = later (λ file. bytes ≡ file) (saved_now old) (saved_now seen) (saved_now-stays old seen files) c.in_ok-bytes.ensures.bytes;
      loads = c.in_ok-bytes.ensures.loads.0;
      loadable = c.in_ok-bytes.ensures.loads.1;
      beside = c.new-swap.ensures.new ∙ ap (λ (base : List ℕ). record { base = base; state = Guarded; count = 0 }) (c.digest.ensures ∙ ap (λ (b : List ℕ). digest_of b) c.deref.ensures.value);
    }

pub returns-clause-can : goal.returns-clause-can
returns-clause-can g c = record {
  in_range = c.in_ok-commands.ensures.in_range;
  few = c.in_ok-commands.ensures.few;
  guarded = ap (λ (swap : SwapView). swap.state) c.new-swap.ensures.new;
}
