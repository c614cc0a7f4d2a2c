use Rattle.kte_text.proofs.PrimitiveLemmas.{size_of-after_wrap, size_of-after_unwrap, size_of-after_insert, size_of-after_remove}
use Rattle.kte_text.proofs.laws.sizes_after.Goals as goal

pub returns-clause-wrap : goal.returns-clause-wrap
returns-clause-wrap c = size_of-after_wrap

pub returns-clause-unwrap : goal.returns-clause-unwrap
returns-clause-unwrap c = size_of-after_unwrap

pub returns-clause-insert : goal.returns-clause-insert
returns-clause-insert c = size_of-after_insert

pub returns-clause-remove : goal.returns-clause-remove
returns-clause-remove c = size_of-after_remove
