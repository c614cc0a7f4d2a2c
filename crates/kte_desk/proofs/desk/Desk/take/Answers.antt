use Rattle.std.proofs.Common.{◌≡◌, None, Some, Err, IsOk, refl, sym, subst, ◌∙◌, arith}
use Rattle.kte_turn.specs.Passes.{pass_known, stay_known}
use Rattle.kte_jobs.specs.Jobs.{rule_of}
use Rattle.kte_core.specs.State.{State}
use Rattle.kte_core.specs.JobsInWords.{NoneWaits}
use Rattle.kte_core.specs.Replay.{present}
use Rattle.kte_core.specs.declared.event.Event.{Event}
use Rattle.kte_core.specs.declared.request.Request.TheVariants.{Take}
use Rattle.kte_core.specs.declared.reply.Reply.TheVariants.{Took}
use Rattle.kte_core.proofs.AllJobLemmas.{rule_stays}
use Rattle.kte_core.proofs.OneJobLemmas.{least_none}
use Rattle.kte_desk.specs.Calls.{Adds}
use Rattle.kte_desk.specs.Works.{WorksAsSeen, text_then}
use Rattle.kte_desk.specs.declared.pass.Taking.{Taking}
use Rattle.kte_desk.proofs.CallLemmas.{checker_after, checker_still, leaves, one_waits, sees_after, sees_still, takes_work, text_took, turned, turned_still, works_after, works_still}
use Rattle.kte_desk.proofs.NumberLemmas.{has_numbers}
use Rattle.kte_desk.proofs.TurnLemmas.{few_other, found_works}
use Rattle.kte_desk.proofs.desk.Desk.take.Goals as goal

pub invariant_of-pass : goal.invariant_of-pass
invariant_of-pass g c =
    let sees = pass_known c.args.pass.pass in let before = c.enter-core.result.0 in let found = c.enter-core.ensures.found in
    let stays = c.enter-core.ensures.stay in let stay = stay_known c.enter-core.result.1 in
    let known = pass_known c.leave_unchanged-pass.result in let left = c.leave_unchanged-pass.ensures.pass in
    record {
      other = checker_still sees stay known before found stays left c.args.pass.other;
      works = works_still sees stay known before found stays left None (subst (WorksAsSeen sees) c.requires.free c.args.pass.works);
    }

pub returns-in_default-clause-taken : goal.returns-in_default-clause-taken
returns-in_default-clause-taken g c =
    let sees = pass_known c.args.pass.pass in let before = c.enter-core.result.0 in let found = c.enter-core.ensures.found in
    let stays = c.enter-core.ensures.stay in let stay = stay_known c.enter-core.result.1 in
    let known = pass_known c.leave_unchanged-pass.result in let left = c.leave_unchanged-pass.ensures.pass in (
      refl,
      (turned_still sees stay known before found stays left).1,
      sees_still sees stay known before found stays left (λ (state : State). NoneWaits state × (c.is_closed-closed.result ≡ state.closed))
          (least_none (present before).jobs (sym c.waiting.ensures ∙ c.in_default.is), c.is_closed-closed.ensures),
    )

pub take_least-requires-clause-numbers : goal.take_least-requires-clause-numbers
take_least-requires-clause-numbers g c =
    let found = c.enter-core.ensures.found in has_numbers c.enter-core.result.0 Take found.legal found.few (omega arith)

pub leave-pass-requires-clause-leaves : goal.leave-pass-requires-clause-leaves
leave-pass-requires-clause-leaves g c =
    let sees = pass_known c.args.pass.pass in let before = c.enter-core.result.0 in let after = c.take_least.new.core in
    let found = c.enter-core.ensures.found in let stays = c.enter-core.ensures.stay in let stay = stay_known c.enter-core.result.1 in
    let took = c.in-Ok.ensures.took in let more = took.event in let seat = c.seat-seat.result in let mine = c.seat-seat.ensures in
    let job = c.in-Some.job in let revision = c.in-Ok.revision in
    let event : Event = record { seat = seat; request = Take; reply = Took job revision } in
    let positive = c.args.pass.other in
    leaves sees stay before after event found stays more mine (record { answered = took.answered; finds = tt })
    (few_other before after event more (λ zero. omega (arith, mine)) found.few)

pub invariant_of-pass-in-Ok : goal.invariant_of-pass-in-Ok
invariant_of-pass-in-Ok g c =
    let sees = pass_known c.args.pass.pass in let before = c.enter-core.result.0 in let after = c.take_least.new.core in
    let found = c.enter-core.ensures.found in let stays = c.enter-core.ensures.stay in let stay = stay_known c.enter-core.result.1 in
    let took = c.in-Ok.ensures.took in let more = took.event in let seat = c.seat-seat.result in let mine = c.seat-seat.ensures in
    let job = c.in-Some.job in let revision = c.in-Ok.revision in
    let event : Event = record { seat = seat; request = Take; reply = Took job revision } in
    let known = pass_known c.leave-pass.result in let left = c.leave-pass.ensures.pass in
    let free = found_works sees before found None (subst (WorksAsSeen sees) c.requires.free c.args.pass.works) in
    record {
      other = checker_after sees stay before after event found stays more known left c.args.pass.other;
      works = works_after sees stay before after event found stays more known (Some (record { job = job; revision = revision })) left
          (takes_work (present before) event sees.seat job revision c.in-Ok.text took.answered mine refl refl free took.text_is took.is_text);
    }

pub invariant_of-result : goal.invariant_of-result
invariant_of-result g c =
    let sees = pass_known c.args.pass.pass in let before = c.enter-core.result.0 in let found = c.enter-core.ensures.found in
    let stays = c.enter-core.ensures.stay in let stay = stay_known c.enter-core.result.1 in
    let known = pass_known c.leave_unchanged-pass-in-Err.result in let left = c.leave_unchanged-pass-in-Err.ensures.pass in
    record {
      other = checker_still sees stay known before found stays left c.args.pass.other;
      works = works_still sees stay known before found stays left None (subst (WorksAsSeen sees) c.requires.free c.args.pass.works);
    }

pub returns-in-Ok-clause-turns : goal.returns-in-Ok-clause-turns
returns-in-Ok-clause-turns g c =
    let sees = pass_known c.args.pass.pass in let before = c.enter-core.result.0 in let after = c.take_least.new.core in
    let found = c.enter-core.ensures.found in let stays = c.enter-core.ensures.stay in let stay = stay_known c.enter-core.result.1 in
    let took = c.in-Ok.ensures.took in let more = took.event in let seat = c.seat-seat.result in let mine = c.seat-seat.ensures in
    let job = c.in-Some.job in let revision = c.in-Ok.revision in
    let event : Event = record { seat = seat; request = Take; reply = Took job revision } in
    (turned sees stay before after event found stays more (pass_known c.leave-pass.result) mine (record { answered = took.answered; finds = tt })
    c.leave-pass.ensures.pass).0

pub returns-in-Ok-clause-taken : goal.returns-in-Ok-clause-taken
returns-in-Ok-clause-taken g c =
    let sees = pass_known c.args.pass.pass in let before = c.enter-core.result.0 in let after = c.take_least.new.core in
    let found = c.enter-core.ensures.found in let stays = c.enter-core.ensures.stay in let stay = stay_known c.enter-core.result.1 in
    let took = c.in-Ok.ensures.took in let more = took.event in let seat = c.seat-seat.result in let mine = c.seat-seat.ensures in
    let job = c.in-Some.job in let revision = c.in-Ok.revision in
    let event : Event = record { seat = seat; request = Take; reply = Took job revision } in
    let known = pass_known c.leave-pass.result in let left = c.leave-pass.ensures.pass in
    let made = (turned sees stay before after event found stays more known mine (record { answered = took.answered; finds = tt }) left).1 in (
      refl,
      took.word,
      subst (λ k. Adds sees known (record { seat = k; request = Take; reply = Took job revision })) mine made,
      sees_after sees stay before after event found stays more known
          (λ (state : State). (rule_of state.jobs job ≡ Some c.in-Ok.rule) × (c.in-Ok.text ≡ text_then state revision)) left (
            rule_stays (present before) event job c.in-Ok.rule took.rule_is,
            took.text_is ∙ sym (text_took (present before) event job revision took.answered refl refl),
          ),
    )

pub returns-in-Err-clause-none : goal.returns-in-Err-clause-none
returns-in-Err-clause-none g c =
    let sees = pass_known c.args.pass.pass in let before = c.enter-core.result.0 in let found = c.enter-core.ensures.found in
    let stays = c.enter-core.ensures.stay in let stay = stay_known c.enter-core.result.1 in
    sees_still sees stay (pass_known c.leave_unchanged-pass-in-Err.result) before found stays c.leave_unchanged-pass-in-Err.ensures.pass
    (λ (state : State). NoneWaits state → IsOk {T = Taking} (Err c.in-Err.fail))
    (λ none. absurd (one_waits (present before) c.in-Some.job (sym c.waiting.ensures ∙ c.in-Some.is) none))
