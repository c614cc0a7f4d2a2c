use Rattle.kte_core.proofs.AnswerLemmas.{Answers-closed, Answers-open}
use Rattle.kte_core.proofs.EditLemmas.{if_ok}
use Rattle.kte_core.proofs.present.answer_command.Goals as goal

pub returns-then-present-clause-answers : goal.returns-then-present-clause-answers
returns-then-present-clause-answers c = λ state seat shows.
    Answers-closed state seat c.args.command.now c.replied.result c.args.present.now shows c.if-present.true c.replied.ensures.reply
    c.replied.ensures.made

pub returns-clause-answers : goal.returns-clause-answers
returns-clause-answers c =
    if_ok c.carry_out.result _ _
    (λ step meets state seat shows.
    Answers-open state seat c.args.command.now step c.args.present.now c.carry_out.new.doc c.carry_out.new.undo c.carry_out.new.jobs c.carry_out.new.folds shows
    c.if-present.false (meets state shows.document shows.edits shows.jobs) (c.carry_out.ensures.folds state shows.document))
    c.carry_out.ensures.meets
