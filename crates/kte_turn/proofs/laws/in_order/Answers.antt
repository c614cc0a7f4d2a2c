use Rattle.kte_turn.proofs.LawLemmas.{in_order}
use Rattle.kte_turn.proofs.laws.in_order.Goals as goal

pub returns : goal.returns
returns g c = in_order g.V.Storied.seat_of g.V.Storied.origin g.V.Storied.story
