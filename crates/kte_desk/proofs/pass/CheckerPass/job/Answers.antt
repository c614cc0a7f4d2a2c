use Rattle.std.proofs.Common.{Option, subst}
use Rattle.kte_turn.specs.Passes.{pass_known}
use Rattle.kte_core.proofs.KeptLemmas.{keeps-beginning, keeps-replay}
use Rattle.kte_desk.specs.Seen.{first_state}
use Rattle.kte_desk.specs.Works.{WorksAsSeen}
use Rattle.kte_desk.specs.declared.work.Work.{Work}
use Rattle.kte_desk.proofs.pass.CheckerPass.job.Goals as goal

pub returns-clause-kept : goal.returns-clause-kept
returns-clause-kept c = λ work has origin from.
    let pass = c.args.self.now in
    let sees = pass_known pass.pass in
    let works = subst (λ (o : Option Work). WorksAsSeen sees o) has pass.works in
    keeps-replay (first_state origin) sees.seen (keeps-beginning origin.loaded origin.limit) work.job sees.seat work.revision
    (works origin from).works.taken
