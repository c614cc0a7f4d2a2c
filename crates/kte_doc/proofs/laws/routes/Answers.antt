use Rattle.kte_doc.proofs.Landing.{lands_where_it_stands}
use Rattle.kte_doc.proofs.laws.routes.Goals as goal

pub returns : goal.returns
returns c = record { agree = lands_where_it_stands }
