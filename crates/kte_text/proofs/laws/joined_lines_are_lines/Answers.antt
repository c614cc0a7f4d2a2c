use Rattle.kte_text.proofs.LineLemmas.{IsLine-append, IsLine-insert, IsLine-remove}
use Rattle.kte_text.proofs.laws.joined_lines_are_lines.Goals as goal

pub returns-clause-joined : goal.returns-clause-joined
returns-clause-joined c = IsLine-append

pub returns-clause-inserted : goal.returns-clause-inserted
returns-clause-inserted c = IsLine-insert

pub returns-clause-removed : goal.returns-clause-removed
returns-clause-removed c = IsLine-remove
