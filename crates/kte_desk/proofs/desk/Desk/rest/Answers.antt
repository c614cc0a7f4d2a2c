use Rattle.kte_turn.specs.Passes.{pass_known, stay_known}
use Rattle.kte_desk.proofs.CallLemmas.{checker_still, works_still}
use Rattle.kte_desk.proofs.desk.Desk.rest.Goals as goal

pub invariant_of-result : goal.invariant_of-result
invariant_of-result g c = record {
  other = checker_still (pass_known c.args.pass.pass) (stay_known c.enter-core.result.1) (pass_known c.leave_unchanged-pass.result)
      c.enter-core.result.0 c.enter-core.ensures.found c.enter-core.ensures.stay c.leave_unchanged-pass.ensures.pass c.args.pass.other;
  works = works_still (pass_known c.args.pass.pass) (stay_known c.enter-core.result.1) (pass_known c.leave_unchanged-pass.result)
      c.enter-core.result.0 c.enter-core.ensures.found c.enter-core.ensures.stay c.leave_unchanged-pass.ensures.pass c.args.pass.work c.args.pass.works;
}
