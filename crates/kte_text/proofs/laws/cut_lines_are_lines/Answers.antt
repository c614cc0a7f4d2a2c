use Rattle.kte_text.proofs.LineLemmas.{IsLine-take, IsLine-drop}
use Rattle.kte_text.proofs.laws.cut_lines_are_lines.Goals as goal

pub returns-clause-front : goal.returns-clause-front
returns-clause-front c = IsLine-take

pub returns-clause-back : goal.returns-clause-back
returns-clause-back c = IsLine-drop
