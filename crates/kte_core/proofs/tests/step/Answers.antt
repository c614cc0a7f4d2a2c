use Rattle.std.proofs.Common.{length, ap, arith}
use Rattle.kte_core.proofs.CallerLemmas.{has_numbers}
use Rattle.kte_core.proofs.tests.step.Goals as goal

pub step-requires-clause-numbers : goal.step-requires-clause-numbers
step-requires-clause-numbers c =
    let events = ap length c.journal.ensures.events in
    let next = c.doc.ensures.next_id in
    has_numbers c.args.core.now c.args.request
    (omega (arith, c.if-len-gt99.false, c.len.ensures)) (omega (arith, c.if-next_id-gt99.false, c.next_id.ensures.next, c.requires.few))
