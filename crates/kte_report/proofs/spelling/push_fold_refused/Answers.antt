use Rattle.kte_report.proofs.spelling.push_fold_refused.Goals as goal

pub returns-in-Crosses-clause-ok : goal.returns-in-Crosses-clause-ok
returns-in-Crosses-clause-ok c = rw c.in-Crosses.is c.push_numbers.ensures.ok
