use Rattle.std.proofs.Common.{◌∙◌, refl, sym}
use Rattle.kte_core.specs.JobsInWords.{count_waiting}
use Rattle.kte_core.specs.Editing.{revision_of}
use Rattle.kte_core.specs.Replay.{present}
use Rattle.kte_core.specs.declared.request.Request.TheVariants.{Take}
use Rattle.kte_desk.proofs.ServeLemmas.{numbers-take, takes_by, takes_still, room-one, numbers-back, given_back, answered_of, Served, served}
use Rattle.kte_desk.proofs.serving.serve.Goals as goal
use Rattle.kte_desk.proofs.serving.serve.Goals.{In-Ok}
use Rattle.kte_desk.proofs.serving.serve.Given.{Over}

pub step-requires-clause-numbers : goal.step-requires-clause-numbers
step-requires-clause-numbers g c = numbers-take (present c.args.core.now) c.args.job c.requires.can c.requires.least

pub deliver-requires-clause-taken : goal.deliver-requires-clause-taken
deliver-requires-clause-taken g c =
    (takes_by (present c.args.core.now) (present c.step.new.self) c.args.job c.in_ok-step.field-0 c.requires.can c.requires.least c.in_ok-step.ensures.reacts).taken

-- the Take has left the text as it was
pub deliver-requires-clause-text : goal.deliver-requires-clause-text
deliver-requires-clause-text g c =
    c.requires.text
    ∙ sym (takes_by (present c.args.core.now) (present c.step.new.self) c.args.job c.in_ok-step.field-0 c.requires.can c.requires.least c.in_ok-step.ensures.reacts).text

pub deliver-requires-clause-room : goal.deliver-requires-clause-room
deliver-requires-clause-room g c =
    room-one (present c.step.new.self) (count_waiting (present c.step.new.self))
    (takes_by (present c.args.core.now) (present c.step.new.self) c.args.job c.in_ok-step.field-0 c.requires.can c.requires.least c.in_ok-step.ensures.reacts).room

pub step-requires-in-Err-clause-numbers : goal.step-requires-in-Err-clause-numbers
step-requires-in-Err-clause-numbers g c =
    numbers-back (present c.deliver.new.core) (count_waiting (present c.deliver.new.core)) c.args.job
    (takes_still (present c.args.core.now) c.step.new.self c.deliver.new.core c.args.job c.in_ok-step.field-0 c.requires.can c.requires.least
    c.in_ok-step.ensures.reacts c.in-Err.ensures.err).room

pub returns-in-Err-clause-err : goal.returns-in-Err-clause-err
returns-in-Err-clause-err g c = λ none.
    let held = takes_still (present c.args.core.now) c.step.new.self c.deliver.new.core c.args.job c.in_ok-step.field-0 c.requires.can c.requires.least
    c.in_ok-step.ensures.reacts c.in-Err.ensures.err in
    given_back (present c.deliver.new.core) (present c.step-in-Err.new.self) c.args.job (revision_of (present c.deliver.new.core).editing)
    c.step-in-Err.result (c.step-in-Err.ensures.returns c.args.job (revision_of (present c.deliver.new.core).editing) refl held.taken)
    c.step-in-Err.ensures.reacts held.taken (held.others none)

-- the job was delivered
done : (g : Over) (c : In-Ok g) → Served c.args.core.now c.deliver.new.core
done g c =
    served c.args.core.now c.step.new.self c.deliver.new.core c.args.job c.in_ok-step.field-0.reply c.requires.can c.requires.least
    c.in_ok-step.ensures.event
    (answered_of (present c.args.core.now) Take c.in_ok-step.field-0 (present c.step.new.self) tt c.in_ok-step.ensures.reacts)
    c.in-Ok.ensures.ok

pub returns-in-Ok-clause-ok : goal.returns-in-Ok-clause-ok
returns-in-Ok-clause-ok g c = (done g c).serves

pub returns-in-Ok-clause-can : goal.returns-in-Ok-clause-can
returns-in-Ok-clause-can g c = (done g c).can

pub returns-in-Ok-clause-fewer : goal.returns-in-Ok-clause-fewer
returns-in-Ok-clause-fewer g c = (done g c).fewer

pub returns-in-Ok-clause-none : goal.returns-in-Ok-clause-none
returns-in-Ok-clause-none g c = (done g c).none

pub returns-in-Ok-clause-idle : goal.returns-in-Ok-clause-idle
returns-in-Ok-clause-idle g c = λ idle. record { closed = (done g c).closed idle.closed; none_taken = (done g c).none idle.none_taken }

pub returns-in-Ok-clause-text : goal.returns-in-Ok-clause-text
returns-in-Ok-clause-text g c = (done g c).text
