use Rattle.std.proofs.Common.{rules, true}
use Rattle.kte_desk.specs.Calls.{Takes}
use Rattle.kte_desk.specs.Passes.{checker_known}
use Rattle.kte_desk.specs.declared.pass.Taking.{Taking}
use Rattle.kte_desk.specs.declared.pass.Taking.TheVariants as taking
use Rattle.kte_run.proofs.CheckerLemmas.{done_checking, keeps_job, of_ok}
use Rattle.kte_run.proofs.checkers.do_jobs.Goals as goal

pub returns-in-Ok-NoJob-true-clause-checked : goal.returns-in-Ok-NoJob-true-clause-checked
returns-in-Ok-NoJob-true-clause-checked g c _ fresh =
    let q = c.loop.pass in
    let r = c.take-taking.result.1 in
    let none : Takes q r (taking.NoJob true) =
    of_ok (λ (t : Taking). Takes q r t) c.take-taking.result.0 (taking.NoJob true) (search rules) c.take-taking.ensures.taken in
    done_checking (checker_known c.args.pass) q r c.loop.invariant.keeps c.take-taking.ensures.turns none fresh

pub loop-preserved-else-is_err : goal.loop-preserved-else-is_err
loop-preserved-else-is_err g c =
    let kept =
    keeps_job (checker_known c.args.pass) c.loop.pass c.take-taking.result.1 c.deliver-answer.result.1 c.in-Ok-Took.field-0-0
    c.in-Ok-Took.field-0-2 c.in-Ok-Took.rule c.in-Ok-Took.text c.in-Ok.findings c.take-taking.result.0 c.deliver-answer.result.0
    c.loop.invariant.keeps (search rules) c.take-taking.ensures.taken c.take-taking.ensures.turns (search rules)
    c.deliver-answer.ensures.delivered c.deliver-answer.ensures.turns in
    record { own = c.deliver-answer.ensures.own; free = kept.0; keeps = kept.1 }

pub loop-preserved : goal.loop-preserved
loop-preserved g c =
    let kept =
    keeps_job (checker_known c.args.pass) c.loop.pass c.take-taking.result.1 c.deliver-answer.result.1 c.in-Ok-Took.field-0-0
    c.in-Ok-Took.field-0-2 c.in-Ok-Took.rule c.in-Ok-Took.text c.in-Ok.findings c.take-taking.result.0 c.deliver-answer.result.0
    c.loop.invariant.keeps (search rules) c.take-taking.ensures.taken c.take-taking.ensures.turns (search rules)
    c.deliver-answer.ensures.delivered c.deliver-answer.ensures.turns in
    record { own = c.deliver-answer.ensures.own; free = kept.0; keeps = kept.1 }
