use Rattle.kte_script.proofs.spelling.push_command.Goals as goal

pub returns-in-Edit-clause-ok : goal.returns-in-Edit-clause-ok
returns-in-Edit-clause-ok c = rw c.in-Edit.is c.push_change.ensures.ok

pub returns-in-MakeRange-clause-ok : goal.returns-in-MakeRange-clause-ok
returns-in-MakeRange-clause-ok c = rw c.in-MakeRange.is c.push_range.ensures.ok

pub returns-in-SetRange-clause-ok : goal.returns-in-SetRange-clause-ok
returns-in-SetRange-clause-ok c = rw c.in-SetRange.is c.push_setrange.ensures.ok

pub returns-in-DropRange-clause-ok : goal.returns-in-DropRange-clause-ok
returns-in-DropRange-clause-ok c = rw c.in-DropRange.is c.push_droprange.ensures.ok

pub returns-in-ShowRange-clause-ok : goal.returns-in-ShowRange-clause-ok
returns-in-ShowRange-clause-ok c = rw c.in-ShowRange.is c.push_where.ensures.ok

pub returns-in-Unlock-clause-ok : goal.returns-in-Unlock-clause-ok
returns-in-Unlock-clause-ok c = rw c.in-Unlock.is c.push_unlock.ensures.ok

pub returns-in-Land-clause-ok : goal.returns-in-Land-clause-ok
returns-in-Land-clause-ok c = rw c.in-Land.is c.push_land.ensures.ok

pub returns-in-Fold-clause-ok : goal.returns-in-Fold-clause-ok
returns-in-Fold-clause-ok c = rw c.in-Fold.is c.push_fold.ensures.ok

pub returns-in-Unfold-clause-ok : goal.returns-in-Unfold-clause-ok
returns-in-Unfold-clause-ok c = rw c.in-Unfold.is c.push_unfold.ensures.ok

pub returns-in-Find-clause-ok : goal.returns-in-Find-clause-ok
returns-in-Find-clause-ok c = rw c.in-Find.is c.push_find.ensures.ok

pub returns-in-FindBack-clause-ok : goal.returns-in-FindBack-clause-ok
returns-in-FindBack-clause-ok c = rw c.in-FindBack.is c.push_findback.ensures.ok

pub returns-in-All-clause-ok : goal.returns-in-All-clause-ok
returns-in-All-clause-ok c = rw c.in-All.is c.push_all.ensures.ok

pub returns-in-Check-clause-ok : goal.returns-in-Check-clause-ok
returns-in-Check-clause-ok c = rw c.in-Check.is c.push_check.ensures.ok
