use Rattle.std.proofs.Common.{◌∙◌, sym, ap, refl}
use Rattle.kte_script.specs.Script.{is_skipped}
use Rattle.kte_script.proofs.LineLemmas.{bad_text, skipped, says, misfits}
use Rattle.kte_script.proofs.lines.command_of.Goals as goal

pub returns-in-Err : goal.returns-in-Err
returns-in-Err c =
    let line = c.args.line.now in
    let at = c.valid_up_to.ensures ∙ c.in-Err.ensures.valid_len in
    rw c.bad.ensures (refl, bad_text line _ c.in-Err.ensures.cases.0 at)

pub returns-then-is_skipped : goal.returns-then-is_skipped
returns-then-is_skipped c =
    let test = ap is_skipped (sym c.skip.ensures.value) ∙ sym c.is_skipped.ensures ∙ c.if-is_skipped.true in
    skipped c.args.line.now c.in_default.ensures.cases.1 test

pub returns-in-Ok : goal.returns-in-Ok
returns-in-Ok c =
    let test = ap is_skipped (sym c.skip.ensures.value) ∙ sym c.is_skipped.ensures ∙ c.if-is_skipped.false in
    says c.args.line.now _ c.in_default.ensures.cases.1 test c.in-Ok.ensures

pub returns-in-Err-Misfit : goal.returns-in-Err-Misfit
returns-in-Err-Misfit c =
    let test = ap is_skipped (sym c.skip.ensures.value) ∙ sym c.is_skipped.ensures ∙ c.if-is_skipped.false in
    let read = rw c.in-Err-Misfit.field-0-is at c.in-Err-Misfit.ensures in
    rw (c.bad-in-Err-Misfit.ensures, c.saturating_sub.ensures) (refl, misfits c.args.line.now _ c.in_default.ensures.cases.1 test read)
