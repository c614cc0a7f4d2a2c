use Rattle.kte_record.proofs.writing.write.Goals as goal

pub returns-in-Insert-clause-ok : goal.returns-in-Insert-clause-ok
returns-in-Insert-clause-ok c = rw c.in-Insert.is c.write_fields-in-Insert.ensures.ok
