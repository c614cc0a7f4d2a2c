use Rattle.std.proofs.Common.{ap}
use Rattle.kte_place.specs.declared.span.Empty.TheVariants.{Allow}
use Rattle.kte_ranges.proofs.Pegs.{pegs_hang, pegs_ready}
use Rattle.kte_ranges.proofs.tests.a_range_settles_to_where_its_cursors_stand.Goals as goal

pub settle_lone-requires-clause-hang : goal.settle_lone-requires-clause-hang
settle_lone-requires-clause-hang g c = pegs_hang Allow _ _

pub settle_lone-requires-clause-ready : goal.settle_lone-requires-clause-ready
settle_lone-requires-clause-ready g c = pegs_ready Allow _ _ (ap (λ p. p.line) c.place.ensures.place) c.place.ensures.bound
