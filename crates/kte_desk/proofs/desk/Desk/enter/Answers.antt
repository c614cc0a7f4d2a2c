use Rattle.std.proofs.Common.{refl, arith}
use Rattle.kte_desk.proofs.desk.Desk.enter.Goals as goal

pub returns-clause-found : goal.returns-clause-found
returns-clause-found g c =
    let entered = c.enter-recorded.ensures in
    let seat = c.args.pass.number in
    record {
      origin = entered.origin;
      seen = entered.seen;
      none = entered.no_news seat (0, omega arith, refl);
      mine = entered.calls seat (0, omega arith, refl);
      legal = c.enter-recorded.result.0.legal;
      few = c.enter-recorded.result.0.few;
    }
