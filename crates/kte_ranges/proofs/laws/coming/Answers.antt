use Rattle.kte_ranges.proofs.Coming.{comes_apart, comes_hung}
use Rattle.kte_ranges.proofs.laws.coming.Goals as goal

pub returns-clause-apart : goal.returns-clause-apart
returns-clause-apart c = comes_apart

pub returns-clause-hung : goal.returns-clause-hung
returns-clause-hung c = comes_hung
