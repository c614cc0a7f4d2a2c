use Rattle.std.proofs.Common.{◌∙◌, ap, sym, List, ℕ, ◌++◌}
use Rattle.kte_report.specs.Events.{event_text}
use Rattle.kte_report.proofs.HeldLemmas.{event_fits}
use Rattle.kte_report.proofs.ReadingLemmas.{no_event, other_event, same_bytes, other_bytes}
use Rattle.kte_report.proofs.reading.read_event.Goals as goal

pub returns-in-Err-Misfit-clause-none : goal.returns-in-Err-Misfit-clause-none
returns-in-Err-Misfit-clause-none c =
    no_event c.args.line.now c.in-Err-Misfit.field-0-0 (rw c.in-Err-Misfit.field-0-is at c.in-Err-Misfit.ensures)

pub returns-then-eq-clause-some : goal.returns-then-eq-clause-some
returns-then-eq-clause-some c =
    let spelled = c.as_slice.ensures.value ∙ c.in_ok-push_event.ensures.ok ∙ ap (λ (xs : List ℕ). xs ++ event_text c.in-Ok.event) c.clear.ensures.items in (
      event_fits c.args.line.now c.take_event.new.words.rest.now c.in-Ok.event c.in-Ok.ensures,
      sym spelled ∙ same_bytes c.as_slice.result.now c.args.line.now c.if-eq.ensures,
    )

pub returns-else-eq-clause-none : goal.returns-else-eq-clause-none
returns-else-eq-clause-none c =
    let spelled = c.as_slice.ensures.value ∙ c.in_ok-push_event.ensures.ok ∙ ap (λ (xs : List ℕ). xs ++ event_text c.in-Ok.event) c.clear.ensures.items in
    other_event c.args.line.now c.take_event.new.words.rest.now c.as_slice.result.now c.in-Ok.event c.in-Ok.ensures spelled (other_bytes c.as_slice.result.now c.args.line.now c.if-eq.ensures)
