use Rattle.std.proofs.Common.{Some, ◌∙◌, ap, sym}
use Rattle.kte_history.proofs.LandingLemmas.{carried_next, carried_lost, clear_entry_keeps}
use Rattle.kte_history.proofs.landing.carry_all.Goals.{then-not-is_clear_of+in_ok-carried, else-not-is_clear_of}
use Rattle.kte_history.proofs.landing.carry_all.Goals as goal

pub returns-in_err-carried-clause-carried : goal.returns-in_err-carried-clause-carried
returns-in_err-carried-clause-carried c =
    let lost = sym c.carry_span.ensures ∙ c.in_err-carried.was in
    c.from_residual.ensures
    ∙ sym (carried_lost c.args.entries.now c.args.span c.loop-entry.carried c.args.expand c.args.empty c.loop-entry.entry-index _
    c.loop-entry.invariant c.loop-entry-test.true lost)

pub loop-entry-preserved : goal.loop-entry-preserved
loop-entry-preserved c =
    let within = c.loop-entry-test.true in
    let fits = c.requires.entries c.loop-entry.entry-index _ within in
    elim c.if-not-is_clear_of.branch [
      | then-not-is_clear_of+in_ok-carried w ↦
          carried_next c.args.entries.now c.args.span c.loop-entry.carried _ c.args.expand c.args.empty c.loop-entry.entry-index _ c.loop-entry.invariant within fits
          (sym w.carry_span.ensures ∙ w.in_ok-carried.was ∙ ap Some (sym w.carried-is))
      | else-not-is_clear_of w ↦
          carried_next c.args.entries.now c.args.span c.loop-entry.carried _ c.args.expand c.args.empty c.loop-entry.entry-index _ c.loop-entry.invariant within fits
          (clear_entry_keeps _ c.loop-entry.carried c.args.expand c.args.empty c.loop-entry.invariant.settled (sym c.is_clear_of.ensures ∙ w.if-not-is_clear_of.false)
          ∙ ap Some (sym w.carried-is))
    ]
