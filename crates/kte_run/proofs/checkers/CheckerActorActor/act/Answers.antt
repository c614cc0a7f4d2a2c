use Rattle.std.proofs.Common.{◌≡◌, Option, Some, IfSome, refl, ap, sym, subst, ◌∙◌}
use Rattle.kte_turn.specs.Passes.{pass_turn}
use Rattle.kte_desk.specs.Passes.{desk_id}
use Rattle.kte_desk.specs.declared.pass.CheckerPass.{CheckerPass}
use Rattle.kte_run.specs.Beside.{Checks, desk_of_checker}
use Rattle.kte_run.proofs.checkers.CheckerActorActor.act.Goals as goal

pub returns : goal.returns
returns g c =
    let desk = desk_id c.args.self.now.desk.now in
    let pass = c.in-Some.pass in
    let later = c.do_jobs-is_done.result.1 in
    let done = c.do_jobs-is_done.result.0 in
    let had : Some pass ≡ c.args.self.now.pass = sym c.in-Some.is ∙ c.take.ensures.value in
    let at : pass_turn pass.pass ≡ desk = ap (desk_of_checker desk) had ∙ c.args.self.now.at in
    let checks : Checks pass later done = record {
      desk = c.do_jobs-is_done.ensures.own ∙ sym at;
      later = c.do_jobs-is_done.ensures.later;
      checked = c.do_jobs-is_done.ensures.checked;
    } in
    subst (λ (o : Option CheckerPass). IfSome o (λ p. (q : CheckerPass) × (Some later ≡ Some q) × Checks p q done)) had (later, refl, checks)
