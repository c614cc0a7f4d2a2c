use Rattle.kte_ranges.proofs.Coming.{goes_apart, goes_free, goes_hung}
use Rattle.kte_ranges.proofs.laws.going.Goals as goal

pub returns-clause-apart : goal.returns-clause-apart
returns-clause-apart c = goes_apart

pub returns-clause-free : goal.returns-clause-free
returns-clause-free c = goes_free

pub returns-clause-hung : goal.returns-clause-hung
returns-clause-hung c = goes_hung
