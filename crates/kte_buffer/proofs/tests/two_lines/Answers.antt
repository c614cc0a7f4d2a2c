use Rattle.std.proofs.Common.{ap, sym, subst}
use Rattle.kte_buffer.specs.Buffer.{ColumnsFit}
use Rattle.kte_buffer.proofs.TestLemmas.{ColumnsFit-empty}
use Rattle.kte_buffer.proofs.tests.two_lines.Goals as goal

pub returns-clause-columns : goal.returns-clause-columns
returns-clause-columns c = subst ColumnsFit (sym (ap (λ b. b.hung) c.in_ok-new.ensures)) ColumnsFit-empty

pub returns-clause-empty : goal.returns-clause-empty
returns-clause-empty c = ap (λ b. b.hung) c.in_ok-new.ensures
