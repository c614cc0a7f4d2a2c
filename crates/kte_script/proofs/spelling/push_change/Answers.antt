use Rattle.kte_script.proofs.spelling.push_change.Goals as goal

pub returns-in-Wrap-clause-ok : goal.returns-in-Wrap-clause-ok
returns-in-Wrap-clause-ok c = rw c.in-Wrap.is c.push_wrap.ensures.ok

pub returns-in-Unwrap-clause-ok : goal.returns-in-Unwrap-clause-ok
returns-in-Unwrap-clause-ok c = rw c.in-Unwrap.is c.push_unwrap.ensures.ok

pub returns-in-Insert-clause-ok : goal.returns-in-Insert-clause-ok
returns-in-Insert-clause-ok c = rw c.in-Insert.is c.push_insert.ensures.ok

pub returns-in-Remove-clause-ok : goal.returns-in-Remove-clause-ok
returns-in-Remove-clause-ok c = rw c.in-Remove.is c.push_remove.ensures.ok

pub returns-in-Replace-clause-ok : goal.returns-in-Replace-clause-ok
returns-in-Replace-clause-ok c = rw c.in-Replace.is c.push_replace.ensures.ok
