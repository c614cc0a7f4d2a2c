use Rattle.kte_text.proofs.PrimitiveLemmas.{length-after_wrap, length-after_unwrap, length-after_insert, length-after_remove}
use Rattle.kte_text.proofs.laws.lengths_after.Goals as goal

pub returns-clause-wrap : goal.returns-clause-wrap
returns-clause-wrap c = length-after_wrap

pub returns-clause-unwrap : goal.returns-clause-unwrap
returns-clause-unwrap c = length-after_unwrap

pub returns-clause-insert : goal.returns-clause-insert
returns-clause-insert c = length-after_insert

pub returns-clause-remove : goal.returns-clause-remove
returns-clause-remove c = length-after_remove
