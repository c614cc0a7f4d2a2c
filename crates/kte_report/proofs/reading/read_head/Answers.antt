use Rattle.std.proofs.Common.{◌∙◌, ap, List, ℕ, ◌++◌}
use Rattle.kte_report.specs.Journal.{head}
use Rattle.kte_report.proofs.ReadingLemmas.{no_head, other_head, other_bytes}
use Rattle.kte_report.proofs.reading.read_head.Goals as goal

pub returns-in-Err-Misfit-clause-none : goal.returns-in-Err-Misfit-clause-none
returns-in-Err-Misfit-clause-none c =
    no_head c.args.line.now c.word.new.self.rest.now c.in-Err-Misfit.field-0-0 c.word.ensures.behind (rw c.in-Err-Misfit.field-0-is at c.in-Err-Misfit.ensures)

pub returns-else-eq-clause-none : goal.returns-else-eq-clause-none
returns-else-eq-clause-none c =
    other_head c.args.line.now c.word.new.self.rest.now c.long.new.self.rest.now c.as_slice.result.now c.in-Ok.count c.word.ensures.behind c.in-Ok.ensures
    (c.as_slice.ensures.value ∙ c.in_ok-push_head.ensures.ok ∙ ap (λ (xs : List ℕ). xs ++ head c.in-Ok.count) c.clear.ensures.items)
    (other_bytes c.as_slice.result.now c.args.line.now c.if-eq.ensures)
