use Rattle.kte_report.proofs.spelling.push_misfit.Goals as goal

pub returns-in-NoLine-clause-ok : goal.returns-in-NoLine-clause-ok
returns-in-NoLine-clause-ok c = rw (c.in-NoLine.is, ← c.from.ensures) c.push_numbers.ensures.ok

pub returns-in-NoColumn-clause-ok : goal.returns-in-NoColumn-clause-ok
returns-in-NoColumn-clause-ok c = rw c.in-NoColumn.is c.push_at.ensures.ok

pub returns-in-SplitsPair-clause-ok : goal.returns-in-SplitsPair-clause-ok
returns-in-SplitsPair-clause-ok c = rw c.in-SplitsPair.is c.push_at-in-SplitsPair.ensures.ok

pub returns-in-TooLarge-clause-ok : goal.returns-in-TooLarge-clause-ok
returns-in-TooLarge-clause-ok c = rw c.in-TooLarge.is c.push_numbers-in-TooLarge.ensures.ok
