use Rattle.std.proofs.Common.{ap, sym, subst, arith}
use Rattle.kte_buffer.specs.Buffer.{ColumnsFit}
use Rattle.kte_buffer.proofs.TestLemmas.{ColumnsFit-insert}
use Rattle.kte_buffer.proofs.tests.hang.Goals as goal

pub returns-clause-columns : goal.returns-clause-columns
returns-clause-columns g c =
    subst ColumnsFit (sym (ap (λ b. b.hung) c.in_ok-hang.ensures.ok)) (ColumnsFit-insert _ _ _ c.requires (omega arith))

pub returns-clause-hung : goal.returns-clause-hung
returns-clause-hung g c = ap (λ b. b.hung) c.in_ok-hang.ensures.ok
