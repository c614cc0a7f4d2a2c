use Rattle.kte_edit.proofs.ChangeLemmas.{replaces_change}
use Rattle.kte_edit.proofs.laws.changes_replace_one_part.Goals as goal

pub returns : goal.returns
returns c = replaces_change
