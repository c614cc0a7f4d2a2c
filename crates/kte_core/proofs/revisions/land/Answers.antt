use Rattle.std.proofs.Common.{sym, subst, ◌∙◌}
use Rattle.kte_history.specs.declared.fault.NotLocked.{NotLocked}
use Rattle.kte_command.specs.declared.command.Command.TheVariants.{Land}
use Rattle.kte_core.specs.React.{react_command}
use Rattle.kte_core.specs.Shown.{Replies}
use Rattle.kte_core.specs.declared.reply.Reply.TheVariants as reply
use Rattle.kte_core.specs.declared.reply.Refusal.TheVariants as refusal
use Rattle.kte_core.proofs.RevisionLemmas.{Replies-landed, Replies-not_locked, landed_ok, landed_err}
use Rattle.kte_core.proofs.revisions.land.Goals as goal

pub returns-in-Ok : goal.returns-in-Ok
returns-in-Ok c = λ state is_of.
    let it = landed_ok _ _ _ _ (sym c.in-Ok.is ∙ c.land.ensures.landed) in
    Replies-landed state c.args.doc.now c.args.revision c.args.span c.args.expand c.args.empty c.in-Ok.span is_of it.0 c.in-Ok.ensures.stands

pub returns-in-Err : goal.returns-in-Err
returns-in-Err c = λ state is_of.
    let it = landed_err _ _ _ _ (sym c.in-Err.is ∙ c.land.ensures.landed) in
    subst (λ (e : NotLocked). Replies (react_command state (Land c.args.revision c.args.span c.args.expand c.args.empty)) (reply.Refused (refusal.NotLocked e.revision e.oldest)) c.args.doc.now)
    (sym it.1)
    (Replies-not_locked state c.args.doc.now c.args.revision c.args.span c.args.expand c.args.empty is_of it.0)
