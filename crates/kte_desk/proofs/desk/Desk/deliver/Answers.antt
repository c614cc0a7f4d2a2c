use Rattle.std.proofs.Common.{None, refl, subst, arith}
use Rattle.kte_turn.specs.Passes.{pass_known, stay_known}
use Rattle.kte_core.specs.Replay.{present}
use Rattle.kte_core.specs.declared.event.Event.{Event}
use Rattle.kte_core.specs.declared.request.Request.TheVariants.{Deliver}
use Rattle.kte_core.proofs.ReachLemmas.{few_found}
use Rattle.kte_desk.specs.Calls.{Adds}
use Rattle.kte_desk.proofs.CallLemmas.{checker_after, checker_still, delivery_told, findings_in_reach, free_delivered, its_findings, its_rule, leaves, legal_delivery, turned, works_after, works_still}
use Rattle.kte_desk.proofs.NumberLemmas.{has_numbers}
use Rattle.kte_desk.proofs.TurnLemmas.{few_other}
use Rattle.kte_desk.proofs.desk.Desk.deliver.Goals as goal

pub step-requires-clause-allowed : goal.step-requires-clause-allowed
step-requires-clause-allowed g c =
    let sees = pass_known c.args.pass.pass in let before = c.enter-core.result.0 in
    let found = c.enter-core.ensures.found in let stays = c.enter-core.ensures.stay in let had = c.args.pass.work in let has = c.args.pass.works in
    let work = c.unwrap-job.result in let is = c.unwrap-job.ensures in
    findings_in_reach sees before found had has work is c.args.findings c.requires.found c.rule-rule.result c.rule-rule.ensures.value c.rule-rule.ensures.word

pub step-requires-clause-numbers : goal.step-requires-clause-numbers
step-requires-clause-numbers g c =
    let sees = pass_known c.args.pass.pass in let before = c.enter-core.result.0 in
    let found = c.enter-core.ensures.found in let stays = c.enter-core.ensures.stay in let had = c.args.pass.work in let has = c.args.pass.works in
    let work = c.unwrap-job.result in let is = c.unwrap-job.ensures in
    has_numbers before (Deliver work.job c.args.findings) found.legal found.few
    (few_found (its_rule sees before found had has work is) _ c.args.findings (its_findings sees before found had has work is c.args.findings c.requires.found))

pub leave-pass-requires-clause-leaves : goal.leave-pass-requires-clause-leaves
leave-pass-requires-clause-leaves g c =
    let sees = pass_known c.args.pass.pass in let before = c.enter-core.result.0 in let after = c.step.new.self in
    let found = c.enter-core.ensures.found in let stays = c.enter-core.ensures.stay in let had = c.args.pass.work in let has = c.args.pass.works in
    let work = c.unwrap-job.result in let is = c.unwrap-job.ensures in
    let reach = findings_in_reach sees before found had has work is c.args.findings c.requires.found c.rule-rule.result c.rule-rule.ensures.value c.rule-rule.ensures.word in
    let stay = stay_known c.enter-core.result.1 in let more = c.in-Ok.ensures.event in let seat = c.seat-seat.result in let mine = c.seat-seat.ensures in
    let step = c.in-Ok.step in let reacts = c.in-Ok.ensures.reacts in
    let event : Event = record { seat = seat; request = Deliver work.job c.args.findings; reply = step.reply } in
    let legal = legal_delivery sees before found had has work is seat mine c.args.findings c.requires.found reach (present after) step reacts in
    let positive = c.args.pass.other in
    leaves sees stay before after event found stays more mine legal (few_other before after event more (λ zero. omega (arith, mine)) found.few)

pub invariant_of-result : goal.invariant_of-result
invariant_of-result g c =
    let sees = pass_known c.args.pass.pass in let before = c.enter-core.result.0 in let after = c.step.new.self in
    let found = c.enter-core.ensures.found in let stays = c.enter-core.ensures.stay in let had = c.args.pass.work in let has = c.args.pass.works in
    let work = c.unwrap-job.result in let is = c.unwrap-job.ensures in
    let reach = findings_in_reach sees before found had has work is c.args.findings c.requires.found c.rule-rule.result c.rule-rule.ensures.value c.rule-rule.ensures.word in
    let stay = stay_known c.enter-core.result.1 in let more = c.in-Ok.ensures.event in let seat = c.seat-seat.result in let mine = c.seat-seat.ensures in
    let step = c.in-Ok.step in let reacts = c.in-Ok.ensures.reacts in
    let event : Event = record { seat = seat; request = Deliver work.job c.args.findings; reply = step.reply } in
    let legal = legal_delivery sees before found had has work is seat mine c.args.findings c.requires.found reach (present after) step reacts in
    let known = pass_known c.leave-pass.result in let left = c.leave-pass.ensures.pass in
    record {
      other = checker_after sees stay before after event found stays more known left c.args.pass.other;
      works = works_after sees stay before after event found stays more known None left
          (free_delivered sees before found had has work is seat mine c.args.findings c.requires.found reach (present after) step reacts);
    }

pub invariant_of-result-in-Err : goal.invariant_of-result-in-Err
invariant_of-result-in-Err g c =
    let sees = pass_known c.args.pass.pass in let before = c.enter-core.result.0 in let found = c.enter-core.ensures.found in
    let stays = c.enter-core.ensures.stay in let stay = stay_known c.enter-core.result.1 in
    let known = pass_known c.leave_unchanged-pass.result in let left = c.leave_unchanged-pass.ensures.pass in
    record {
      other = checker_still sees stay known before found stays left c.args.pass.other;
      works = works_still sees stay known before found stays left c.args.pass.work c.args.pass.works;
    }

pub returns-in-Ok-clause-turns : goal.returns-in-Ok-clause-turns
returns-in-Ok-clause-turns g c =
    let sees = pass_known c.args.pass.pass in let before = c.enter-core.result.0 in let after = c.step.new.self in
    let found = c.enter-core.ensures.found in let stays = c.enter-core.ensures.stay in let had = c.args.pass.work in let has = c.args.pass.works in
    let work = c.unwrap-job.result in let is = c.unwrap-job.ensures in
    let reach = findings_in_reach sees before found had has work is c.args.findings c.requires.found c.rule-rule.result c.rule-rule.ensures.value c.rule-rule.ensures.word in
    let stay = stay_known c.enter-core.result.1 in let more = c.in-Ok.ensures.event in let seat = c.seat-seat.result in let mine = c.seat-seat.ensures in
    let step = c.in-Ok.step in let reacts = c.in-Ok.ensures.reacts in
    let event : Event = record { seat = seat; request = Deliver work.job c.args.findings; reply = step.reply } in
    let legal = legal_delivery sees before found had has work is seat mine c.args.findings c.requires.found reach (present after) step reacts in
    (turned sees stay before after event found stays more (pass_known c.leave-pass.result) mine legal c.leave-pass.ensures.pass).0

pub returns-in-Ok-clause-delivered : goal.returns-in-Ok-clause-delivered
returns-in-Ok-clause-delivered g c =
    let sees = pass_known c.args.pass.pass in let before = c.enter-core.result.0 in let after = c.step.new.self in
    let found = c.enter-core.ensures.found in let stays = c.enter-core.ensures.stay in let had = c.args.pass.work in let has = c.args.pass.works in
    let work = c.unwrap-job.result in let is = c.unwrap-job.ensures in
    let reach = findings_in_reach sees before found had has work is c.args.findings c.requires.found c.rule-rule.result c.rule-rule.ensures.value c.rule-rule.ensures.word in
    let stay = stay_known c.enter-core.result.1 in let more = c.in-Ok.ensures.event in let seat = c.seat-seat.result in let mine = c.seat-seat.ensures in
    let step = c.in-Ok.step in let reacts = c.in-Ok.ensures.reacts in
    let event : Event = record { seat = seat; request = Deliver work.job c.args.findings; reply = step.reply } in
    let legal = legal_delivery sees before found had has work is seat mine c.args.findings c.requires.found reach (present after) step reacts in
    let made = (turned sees stay before after event found stays more (pass_known c.leave-pass.result) mine legal c.leave-pass.ensures.pass).1 in
    record {
      work = work;
      had = is;
      first = (present before).next_id;
      reply = delivery_told sees before found had has work is seat mine c.args.findings c.requires.found reach (present after) step reacts;
      event = subst (λ k. Adds sees (pass_known c.leave-pass.result) (record { seat = k; request = Deliver work.job c.args.findings; reply = step.reply })) mine made;
      none = refl;
    }
