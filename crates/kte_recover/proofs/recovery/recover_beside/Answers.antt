use Rattle.std.proofs.Common.{◌≡◌, Ok, ap, rules}
use Rattle.kte_recover.proofs.RecoveryLemmas.{header_answers, nothing_refused}
use Rattle.kte_recover.proofs.recovery.recover_beside.Goals as goal

pub returns-in_err-is_whole-clause-answer : goal.returns-in_err-is_whole-clause-answer
returns-in_err-is_whole-clause-answer c =
    let answer = header_answers c.args.saved.now c.args.swap.now c.in_err-is_whole.field-0.0 c.requires.some c.requires.allowed c.in_err-is_whole.ensures.err in
    search (rules, answer)

pub returns-then-is_whole-clause-memory : goal.returns-then-is_whole-clause-memory
returns-then-is_whole-clause-memory c answer r h e =
    nothing_refused c.args.saved.now c.args.swap.now c.in_ok-is_whole.is_whole c.requires.some c.requires.allowed
    (λ t. c.in_ok-is_whole.ensures.whole (ap Ok t)) (λ f. c.in_ok-is_whole.ensures.part (ap Ok f)) answer r h
