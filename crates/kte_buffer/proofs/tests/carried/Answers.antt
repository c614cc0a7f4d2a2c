use Rattle.std.proofs.Common.{ap, sym, subst, ◌∙◌}
use Rattle.std.specs.Option.{IsSome}
use Rattle.std.specs.FinMap as map
use Rattle.kte_buffer.specs.Buffer.{ColumnsFit}
use Rattle.kte_buffer.proofs.TestLemmas.{hangs, hangs_still, hangs_carried}
use Rattle.kte_buffer.proofs.tests.carried.Goals as goal

pub place-requires : goal.place-requires
place-requires g c =
    let id = c.in_ok-stays.stays in
    let first = subst (λ m. IsSome (map.get m id)) (sym c.in_ok-stays.ensures.hung) (hangs _ id _) in
    let both = subst (λ m. IsSome (map.get m id)) (sym (ap (λ b. b.hung) c.in_ok-reserve.ensures.kept ∙ c.in_ok-moves.ensures.hung)) (hangs_still _ _ id _ first) in
    subst (λ o. IsSome o) (sym (c.apply-entry.ensures.hung id)) (hangs_carried _ _ both)

pub place-requires-2 : goal.place-requires-2
place-requires-2 g c =
    let id = c.in_ok-moves.moves in
    let both = subst (λ m. IsSome (map.get m id)) (sym (ap (λ b. b.hung) c.in_ok-reserve.ensures.kept ∙ c.in_ok-moves.ensures.hung)) (hangs _ id _) in
    subst (λ o. IsSome o) (sym (c.apply-entry.ensures.hung id)) (hangs_carried _ _ both)

pub apply-entry-requires-clause-columns : goal.apply-entry-requires-clause-columns
apply-entry-requires-clause-columns g c =
    subst ColumnsFit (sym (ap (λ b. b.hung) c.in_ok-reserve.ensures.kept)) c.in_ok-moves.ensures.columns
