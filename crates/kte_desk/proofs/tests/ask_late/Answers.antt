use Rattle.std.proofs.Common.{ap, ◌∙◌}
use Rattle.kte_desk.specs.Seen.{Sees}
use Rattle.kte_desk.proofs.tests.ask_late.Goals as goal

pub loop-preserved : goal.loop-preserved
loop-preserved g c =
    let same = c.saved_form-later.ensures.turns.same in (
      c.saved_form-later.ensures.own,
      ap (λ (s : Sees). s.share) same ∙ c.loop.invariant.1,
      ap (λ (s : Sees). s.seats) same ∙ c.loop.invariant.2,
      c.saved_form-later.ensures.none.own ∙ c.loop.invariant.3,
    )
