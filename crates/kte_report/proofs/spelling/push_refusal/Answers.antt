use Rattle.kte_report.proofs.spelling.push_refusal.Goals as goal

pub returns-in-StillOpen-clause-ok : goal.returns-in-StillOpen-clause-ok
returns-in-StillOpen-clause-ok c = rw (c.in-StillOpen.is, ← c.from.ensures) c.push_numbers.ensures.ok

pub returns-in-RevisionsFull-clause-ok : goal.returns-in-RevisionsFull-clause-ok
returns-in-RevisionsFull-clause-ok c = rw c.in-RevisionsFull.is c.push_numbers-in-RevisionsFull.ensures.ok

pub returns-in-NoRange-clause-ok : goal.returns-in-NoRange-clause-ok
returns-in-NoRange-clause-ok c = rw c.in-NoRange.is c.push_numbers-in-NoRange.ensures.ok

pub returns-in-NoFold-clause-ok : goal.returns-in-NoFold-clause-ok
returns-in-NoFold-clause-ok c = rw c.in-NoFold.is c.push_numbers-in-NoFold.ensures.ok

pub returns-in-NotLocked-clause-ok : goal.returns-in-NotLocked-clause-ok
returns-in-NotLocked-clause-ok c = rw c.in-NotLocked.is c.push_notlocked.ensures.ok

pub returns-in-NotOwned-clause-ok : goal.returns-in-NotOwned-clause-ok
returns-in-NotOwned-clause-ok c = rw c.in-NotOwned.is c.push_numbers-in-NotOwned.ensures.ok

pub returns-in-NoJob-clause-ok : goal.returns-in-NoJob-clause-ok
returns-in-NoJob-clause-ok c = rw c.in-NoJob.is c.push_nojob.ensures.ok

pub returns-in-NotTaken-clause-ok : goal.returns-in-NotTaken-clause-ok
returns-in-NotTaken-clause-ok c = rw (c.in-NotTaken.is, ← c.from-in-NotTaken.ensures) c.push_numbers-in-NotTaken.ensures.ok
