use Rattle.std.proofs.Common.{None, IsOk, refl, sym, ap, subst, ◌∙◌, arith}
use Rattle.std.proofs.lemmas.Bool.{true≢false}
use Rattle.kte_turn.specs.Passes.{pass_known, stay_known}
use Rattle.kte_core.specs.Replay.{present}
use Rattle.kte_core.specs.declared.event.Event.{Event}
use Rattle.kte_core.specs.declared.request.Request.TheVariants.{GiveBack}
use Rattle.kte_desk.specs.Calls.{Adds}
use Rattle.kte_desk.proofs.CallLemmas.{checker_after, free_returned, leaves, legal_return, return_told, taken_by, turned, works_after}
use Rattle.kte_desk.proofs.NumberLemmas.{has_numbers}
use Rattle.kte_desk.proofs.TurnLemmas.{few_other}
use Rattle.kte_desk.proofs.desk.Desk.give_back.Goals as goal

pub step-requires-clause-numbers : goal.step-requires-clause-numbers
step-requires-clause-numbers g c =
    let found = c.enter-core.ensures.found in
    has_numbers c.enter-core.result.0 (GiveBack c.unwrap-job.result.job) found.legal found.few (omega arith)

pub unreachable-requires : goal.unreachable-requires
unreachable-requires g c =
    let sees = pass_known c.args.pass.pass in let before = c.enter-core.result.0 in
    let found = c.enter-core.ensures.found in let stays = c.enter-core.ensures.stay in let had = c.args.pass.work in let has = c.args.pass.works in
    let work = c.unwrap-job.result in let is = c.unwrap-job.ensures in
    let back = c.step.ensures.returns work.job work.revision refl (taken_by sees before found had has work is c.seat-seat.result c.seat-seat.ensures) in
    true≢false (sym (subst IsOk c.in_default.is back))

pub leave-pass-requires-clause-leaves : goal.leave-pass-requires-clause-leaves
leave-pass-requires-clause-leaves g c =
    let sees = pass_known c.args.pass.pass in let before = c.enter-core.result.0 in let after = c.step.new.self in
    let found = c.enter-core.ensures.found in let stays = c.enter-core.ensures.stay in let had = c.args.pass.work in let has = c.args.pass.works in
    let work = c.unwrap-job.result in let is = c.unwrap-job.ensures in
    let stay = stay_known c.enter-core.result.1 in let more = c.in-Ok.ensures.event in let seat = c.seat-seat.result in let mine = c.seat-seat.ensures in
    let step = c.in-Ok.step in let reacts = c.in-Ok.ensures.reacts in
    let event : Event = record { seat = seat; request = GiveBack work.job; reply = step.reply } in
    let legal = legal_return sees before found had has work is seat mine (present after) step reacts in
    let positive = c.args.pass.other in
    leaves sees stay before after event found stays more mine legal (few_other before after event more (λ zero. omega (arith, mine)) found.few)

pub invariant_of-result : goal.invariant_of-result
invariant_of-result g c =
    let sees = pass_known c.args.pass.pass in let before = c.enter-core.result.0 in let after = c.step.new.self in
    let found = c.enter-core.ensures.found in let stays = c.enter-core.ensures.stay in let had = c.args.pass.work in let has = c.args.pass.works in
    let work = c.unwrap-job.result in let is = c.unwrap-job.ensures in
    let stay = stay_known c.enter-core.result.1 in let more = c.in-Ok.ensures.event in let seat = c.seat-seat.result in let mine = c.seat-seat.ensures in
    let step = c.in-Ok.step in let reacts = c.in-Ok.ensures.reacts in
    let event : Event = record { seat = seat; request = GiveBack work.job; reply = step.reply } in
    let legal = legal_return sees before found had has work is seat mine (present after) step reacts in
    let known = pass_known c.leave-pass.result in let left = c.leave-pass.ensures.pass in
    record {
      other = checker_after sees stay before after event found stays more known left c.args.pass.other;
      works = works_after sees stay before after event found stays more known None left
          (free_returned sees before found had has work is seat mine (present after) step reacts);
    }

pub returns-clause-turns : goal.returns-clause-turns
returns-clause-turns g c =
    let sees = pass_known c.args.pass.pass in let before = c.enter-core.result.0 in let after = c.step.new.self in
    let found = c.enter-core.ensures.found in let stays = c.enter-core.ensures.stay in let had = c.args.pass.work in let has = c.args.pass.works in
    let work = c.unwrap-job.result in let is = c.unwrap-job.ensures in
    let stay = stay_known c.enter-core.result.1 in let more = c.in-Ok.ensures.event in let seat = c.seat-seat.result in let mine = c.seat-seat.ensures in
    let step = c.in-Ok.step in let reacts = c.in-Ok.ensures.reacts in
    let event : Event = record { seat = seat; request = GiveBack work.job; reply = step.reply } in
    let legal = legal_return sees before found had has work is seat mine (present after) step reacts in
    (turned sees stay before after event found stays more (pass_known c.leave-pass.result) mine legal c.leave-pass.ensures.pass).0

pub returns-clause-returned : goal.returns-clause-returned
returns-clause-returned g c =
    let sees = pass_known c.args.pass.pass in let before = c.enter-core.result.0 in let after = c.step.new.self in
    let found = c.enter-core.ensures.found in let stays = c.enter-core.ensures.stay in let had = c.args.pass.work in let has = c.args.pass.works in
    let work = c.unwrap-job.result in let is = c.unwrap-job.ensures in
    let stay = stay_known c.enter-core.result.1 in let more = c.in-Ok.ensures.event in let seat = c.seat-seat.result in let mine = c.seat-seat.ensures in
    let step = c.in-Ok.step in let reacts = c.in-Ok.ensures.reacts in
    let event : Event = record { seat = seat; request = GiveBack work.job; reply = step.reply } in
    let legal = legal_return sees before found had has work is seat mine (present after) step reacts in
    let known = pass_known c.leave-pass.result in
    let made = (turned sees stay before after event found stays more known mine legal c.leave-pass.ensures.pass).1 in
    let told = return_told sees before found had has work is seat mine (present after) step reacts in
    record {
      work = work;
      had = is;
      event = subst (λ (e : Event). Adds sees known e) (ap (λ k. record { seat = k; request = GiveBack work.job; reply = step.reply }) mine
          ∙ ap (λ r. record { seat = sees.seat; request = GiveBack work.job; reply = r }) told) made;
      none = refl;
    }
