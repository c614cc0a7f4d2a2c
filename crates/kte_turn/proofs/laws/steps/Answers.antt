use Rattle.std.proofs.Common.{Some, refl}
use Rattle.kte_turn.proofs.TicketLemmas.{draw_step, look_step}
use Rattle.kte_turn.proofs.TurnLemmas.{count_step, serve_step}
use Rattle.kte_turn.proofs.PassLemmas.{split_step, join_step, settle_step}
use Rattle.kte_turn.proofs.laws.steps.Goals as goal

pub returns-clause-draw : goal.returns-clause-draw
returns-clause-draw g c = λ seats o. draw_step g.V.Storied.seat_of g.V.Storied.origin g.V.Storied.story seats o

pub returns-clause-look : goal.returns-clause-look
returns-clause-look g c = λ seats o. look_step g.V.Storied.seat_of g.V.Storied.origin g.V.Storied.story seats o

pub returns-clause-count : goal.returns-clause-count
returns-clause-count g c = λ seats o n id m t e. count_step g.V.Storied.seat_of g.V.Storied.origin g.V.Storied.story seats o n id m t e (Some e) refl

pub returns-clause-serve : goal.returns-clause-serve
returns-clause-serve g c = λ seats o. serve_step g.V.Storied.seat_of g.V.Storied.origin g.V.Storied.story seats o

pub returns-clause-split : goal.returns-clause-split
returns-clause-split g c = λ seats o. split_step g.V.Storied.seat_of g.V.Storied.origin g.V.Storied.story seats o

pub returns-clause-join : goal.returns-clause-join
returns-clause-join g c = λ seats o. join_step g.V.Storied.seat_of g.V.Storied.origin g.V.Storied.story seats o

pub returns-clause-settle : goal.returns-clause-settle
returns-clause-settle g c = λ seats o. settle_step g.V.Storied.seat_of g.V.Storied.origin g.V.Storied.story seats o
