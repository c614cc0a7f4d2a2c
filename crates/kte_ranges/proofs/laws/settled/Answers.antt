use Rattle.kte_ranges.proofs.Coming.{settles_once}
use Rattle.kte_ranges.proofs.Untouched.{untouched_stays_settled}
use Rattle.kte_ranges.proofs.laws.settled.Goals as goal

pub returns-clause-once : goal.returns-clause-once
returns-clause-once c = settles_once

pub returns-clause-untouched : goal.returns-clause-untouched
returns-clause-untouched c = untouched_stays_settled
