use Rattle.std.proofs.Common.{◌≡◌, Ok, ap, rules}
use Rattle.kte_recover.proofs.RecoveryLemmas.{header_answers, nothing_refused}
use Rattle.kte_recover.proofs.recovery.recover_some.Goals as goal

pub returns-in_err-check_header-in-Ok-None-clause-answer :
    goal.returns-in_err-check_header-in-Ok-None-clause-answer
returns-in_err-check_header-in-Ok-None-clause-answer c =
    let answer = header_answers c.args.saved.now c.args.swap.now c.in_err-check_header-in-Ok-None.field-0.0 c.requires c.in-Ok-None.ensures.ok c.in_err-check_header-in-Ok-None.ensures.err in
    search (rules, answer)

pub returns-in_ok-check_header-in-Ok-None-clause-memory :
    goal.returns-in_ok-check_header-in-Ok-None-clause-memory
returns-in_ok-check_header-in-Ok-None-clause-memory c answer r h e =
    nothing_refused c.args.saved.now c.args.swap.now c.in_ok-check_header-in-Ok-None.field-0 c.requires c.in-Ok-None.ensures.ok
    (λ t. c.in_ok-check_header-in-Ok-None.ensures.whole (ap Ok t)) (λ f. c.in_ok-check_header-in-Ok-None.ensures.part (ap Ok f)) answer r h
