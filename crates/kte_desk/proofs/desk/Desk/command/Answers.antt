use Rattle.std.proofs.Common.{sym, subst, IsOk}
use Rattle.kte_turn.specs.Passes.{pass_known, stay_known}
use Rattle.kte_core.specs.Replay.{present}
use Rattle.kte_core.specs.declared.event.Event.{Event}
use Rattle.kte_desk.specs.Calls.{MadeIn}
use Rattle.kte_desk.proofs.CallLemmas.{found_open, leaves, legal_editor, made_as, made_in, ranges_editor, turned}
use Rattle.kte_desk.proofs.NumberLemmas.{has_numbers}
use Rattle.kte_desk.proofs.TurnLemmas.{few_own}
use Rattle.kte_desk.proofs.desk.Desk.command.Goals as goal

pub step-requires-clause-numbers : goal.step-requires-clause-numbers
step-requires-clause-numbers g c =
    let found = c.enter-core.ensures.found in
    has_numbers c.enter-core.result.0 c.args.request found.legal found.few (ranges_editor c.args.request c.requires.of_editor)

pub leave-pass-requires-clause-leaves : goal.leave-pass-requires-clause-leaves
leave-pass-requires-clause-leaves g c =
    let before = c.enter-core.result.0 in let after = c.step.new.self in let sees = pass_known c.args.pass.pass in
    let found = c.enter-core.ensures.found in let more = c.in-Ok.ensures.event in
    let event : Event = record { seat = 0; request = c.args.request; reply = c.in-Ok.step.reply } in
    leaves sees (stay_known c.enter-core.result.1) before after event found c.enter-core.ensures.stay more (sym c.args.pass.first)
    (legal_editor (present before) (present after) c.args.request c.in-Ok.step c.requires.of_editor c.requires.allowed c.in-Ok.ensures.reacts)
    (few_own sees before after event found more c.args.pass.first c.requires.few)

pub returns-in-Ok-clause-turns : goal.returns-in-Ok-clause-turns
returns-in-Ok-clause-turns g c =
    let before = c.enter-core.result.0 in let after = c.step.new.self in let sees = pass_known c.args.pass.pass in
    let event : Event = record { seat = 0; request = c.args.request; reply = c.in-Ok.step.reply } in
    (turned sees (stay_known c.enter-core.result.1) before after event c.enter-core.ensures.found c.enter-core.ensures.stay c.in-Ok.ensures.event
    (pass_known c.leave-pass.result) (sym c.args.pass.first)
    (legal_editor (present before) (present after) c.args.request c.in-Ok.step c.requires.of_editor c.requires.allowed c.in-Ok.ensures.reacts)
    c.leave-pass.ensures.pass).0

pub returns-in-Ok-clause-event : goal.returns-in-Ok-clause-event
returns-in-Ok-clause-event g c =
    let before = c.enter-core.result.0 in let after = c.step.new.self in let sees = pass_known c.args.pass.pass in
    let event : Event = record { seat = 0; request = c.args.request; reply = c.in-Ok.step.reply } in
    (turned sees (stay_known c.enter-core.result.1) before after event c.enter-core.ensures.found c.enter-core.ensures.stay c.in-Ok.ensures.event
    (pass_known c.leave-pass.result) (sym c.args.pass.first)
    (legal_editor (present before) (present after) c.args.request c.in-Ok.step c.requires.of_editor c.requires.allowed c.in-Ok.ensures.reacts)
    c.leave-pass.ensures.pass).1

pub returns-in-Ok-clause-made : goal.returns-in-Ok-clause-made
returns-in-Ok-clause-made g c =
    let before = c.enter-core.result.0 in let after = c.step.new.self in let sees = pass_known c.args.pass.pass in
    let event : Event = record { seat = 0; request = c.args.request; reply = c.in-Ok.step.reply } in
    made_as sees (stay_known c.enter-core.result.1) before after event c.enter-core.ensures.found c.enter-core.ensures.stay c.in-Ok.ensures.event
    (pass_known c.leave-pass.result) (λ state. MadeIn state event c.in-Ok.step.made) c.leave-pass.ensures.pass
    (made_in (present before) (present after) event c.in-Ok.step.made c.in-Ok.ensures.reacts.leads c.in-Ok.ensures.reacts.made
    c.made_fits.ensures.text c.made_fits-in-Ok.ensures.turn c.made_fits-in-Ok.ensures.text)

pub returns-in-Err-clause-closes : goal.returns-in-Err-clause-closes
returns-in-Err-clause-closes g c asked none =
    subst IsOk c.in-Err.is
    (c.step.ensures.closes asked (found_open (pass_known c.args.pass.pass) c.enter-core.result.0 c.enter-core.ensures.found c.args.pass.first none))
