use Rattle.kte_report.proofs.spelling.push_reply.Goals as goal

pub returns-in-Edited-clause-ok : goal.returns-in-Edited-clause-ok
returns-in-Edited-clause-ok c = rw (c.in-Edited.is, ← c.from.ensures) c.push_numbers.ensures.ok

pub returns-in-Cut-clause-ok : goal.returns-in-Cut-clause-ok
returns-in-Cut-clause-ok c = rw (c.in-Cut.is, ← c.from-in-Cut.ensures) c.push_numbers-in-Cut.ensures.ok

pub returns-in-Depth-clause-ok : goal.returns-in-Depth-clause-ok
returns-in-Depth-clause-ok c = rw (c.in-Depth.is, ← c.from-in-Depth.ensures) c.push_numbers-in-Depth.ensures.ok

pub returns-in-Range-clause-ok : goal.returns-in-Range-clause-ok
returns-in-Range-clause-ok c = rw c.in-Range.is c.push_range.ensures.ok

pub returns-in-Dropped-clause-ok : goal.returns-in-Dropped-clause-ok
returns-in-Dropped-clause-ok c = rw c.in-Dropped.is c.push_numbers-in-Dropped.ensures.ok

pub returns-in-Locked-clause-ok : goal.returns-in-Locked-clause-ok
returns-in-Locked-clause-ok c = rw c.in-Locked.is c.push_numbers-in-Locked.ensures.ok

pub returns-in-Unlocked-clause-ok : goal.returns-in-Unlocked-clause-ok
returns-in-Unlocked-clause-ok c = rw c.in-Unlocked.is c.push_numbers-in-Unlocked.ensures.ok

pub returns-in-Landed-clause-ok : goal.returns-in-Landed-clause-ok
returns-in-Landed-clause-ok c = rw c.in-Landed.is c.push_landed.ensures.ok

pub returns-in-Found-clause-ok : goal.returns-in-Found-clause-ok
returns-in-Found-clause-ok c = rw c.in-Found.is c.push_found.ensures.ok

pub returns-in-Posted-clause-ok : goal.returns-in-Posted-clause-ok
returns-in-Posted-clause-ok c = rw (c.in-Posted.is, ← c.from-in-Posted.ensures) c.push_numbers-in-Posted.ensures.ok

pub returns-in-Took-clause-ok : goal.returns-in-Took-clause-ok
returns-in-Took-clause-ok c = rw (c.in-Took.is, ← c.from-in-Took.ensures) c.push_numbers-in-Took.ensures.ok

pub returns-in-Delivered-clause-ok : goal.returns-in-Delivered-clause-ok
returns-in-Delivered-clause-ok c = rw (c.in-Delivered.is, ← c.from-in-Delivered.ensures) c.push_numbers-in-Delivered.ensures.ok

pub returns-in-Returned-clause-ok : goal.returns-in-Returned-clause-ok
returns-in-Returned-clause-ok c = rw (c.in-Returned.is, ← c.from-in-Returned.ensures) c.push_numbers-in-Returned.ensures.ok
