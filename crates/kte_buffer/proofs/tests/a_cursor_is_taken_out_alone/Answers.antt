use Rattle.std.proofs.Common.{ap, sym, subst}
use Rattle.std.specs.Option.{IsSome}
use Rattle.std.specs.FinMap as map
use Rattle.kte_buffer.proofs.TestLemmas.{hangs, hangs_still, hangs_without, free_differs}
use Rattle.kte_buffer.proofs.tests.a_cursor_is_taken_out_alone.Goals as goal

pub unhang-requires : goal.unhang-requires
unhang-requires g c =
    let id = c.in_ok-gone.gone in
    subst (λ m. IsSome (map.get m id)) (sym c.in_ok-gone.ensures.hung) (hangs _ id _)

pub place-requires : goal.place-requires
place-requires g c =
    let id = c.in_ok-kept.kept in
    let first = subst (λ m. IsSome (map.get m id)) (sym c.in_ok-kept.ensures.hung) (hangs _ id _) in
    let differs = free_differs _ c.in_ok-gone.gone id c.in_ok-gone.ensures.free first in
    let both = subst (λ m. IsSome (map.get m id)) (sym c.in_ok-gone.ensures.hung) (hangs_still _ _ id _ first) in
    subst (λ m. IsSome (map.get m id)) (sym (ap (λ b. b.hung) c.unhang.ensures.gone)) (hangs_without _ _ id differs both)
