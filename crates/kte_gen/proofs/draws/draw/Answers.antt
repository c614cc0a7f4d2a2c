use Rattle.std.proofs.Common.{ap, ◌/◌, ◌%◌}
use Rattle.kte_gen.specs.Draws.{drawn}
use Rattle.kte_gen.proofs.DrawLemmas.{one_modulus}
use Rattle.kte_gen.proofs.draws.draw.Goals as goal

pub returns-clause-state : goal.returns-clause-state
returns-clause-state c = one_modulus _

pub returns-clause-value : goal.returns-clause-value
unfolding drawn
returns-clause-value c = ap (λ x. x / 8589934592 % c.args.below) (one_modulus _)
