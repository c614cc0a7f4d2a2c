use Rattle.kte_report.proofs.spelling.push_request.Goals as goal

pub returns-in-Deliver-clause-ok : goal.returns-in-Deliver-clause-ok
returns-in-Deliver-clause-ok c = rw c.in-Deliver.is c.push_deliver.ensures.ok

pub returns-in-GiveBack-clause-ok : goal.returns-in-GiveBack-clause-ok
returns-in-GiveBack-clause-ok c = rw (c.in-GiveBack.is, ← c.from.ensures) c.push_numbers.ensures.ok

pub returns-in-Outcome-clause-ok : goal.returns-in-Outcome-clause-ok
returns-in-Outcome-clause-ok c = rw c.in-Outcome.is c.push_outcome.ensures.ok
