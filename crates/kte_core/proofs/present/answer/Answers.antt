use Rattle.kte_core.specs.declared.reply.Reply.TheVariants.{Noted}
use Rattle.kte_core.proofs.AnswerLemmas.{Answers-given, Gives-noted}
use Rattle.kte_core.proofs.EditLemmas.{if_ok}
use Rattle.kte_core.proofs.present.answer.Goals as goal
use Rattle.kte_core.proofs.present.answer.Goals.{in-Close, in-Take+in_ok-reply-in-Take, in-Deliver+in_ok-reply-in-Deliver, in-GiveBack, in-Outcome}

pub returns-in-Cmd-clause-answers : goal.returns-in-Cmd-clause-answers
returns-in-Cmd-clause-answers c =
    if_ok c.answer_command.result _ _ (λ step answers state shows. rw c.in-Cmd.is (answers state c.args.seat shows)) c.answer_command.ensures.answers

pub returns-clause-answers : goal.returns-clause-answers
returns-clause-answers c = λ state shows.
    let seat = c.args.seat in
    let step = c.replied.result in
    elim c.match-request.branch [
      | in-Close w ↦ rw (w.present-is, w.in-Close.is) (Answers-given state seat _ w.close-reply.result step w.close-reply.new.present
          (w.close-reply.ensures.gives state seat shows) (cc) c.replied.ensures.made)
      | in-Take+in_ok-reply-in-Take w ↦ rw (w.present-is, w.in-Take.is) (Answers-given state seat _ w.in_ok-reply-in-Take.reply step w.take.new.present
          (w.in_ok-reply-in-Take.ensures.gives state shows) (cc) c.replied.ensures.made)
      | in-Deliver+in_ok-reply-in-Deliver w ↦ rw (w.present-is, w.in-Deliver.is) (Answers-given state seat _ w.in_ok-reply-in-Deliver.reply step
          w.deliver.new.present (w.in_ok-reply-in-Deliver.ensures.gives state shows) (cc) c.replied.ensures.made)
      | in-GiveBack w ↦ rw (w.present-is, w.in-GiveBack.is) (Answers-given state seat _ w.give_back-reply.result step w.give_back-reply.new.present
          (w.give_back-reply.ensures.gives state shows) (cc) c.replied.ensures.made)
      | in-Outcome w ↦ rw (w.present-is, w.in-Outcome.is) (Answers-given state seat _ Noted step c.args.present.now
          (Gives-noted state c.args.present.now shows) (cc) c.replied.ensures.made)
    ]
