use Rattle.std.proofs.Common.{rules, ◌≡◌, None, Option, ap, sym, subst}
use Rattle.std.specs.Prelude.{is_some}
use Rattle.std.proofs.lemmas.Iterator.Adapters.{YieldsList-from_vec}
use Rattle.std.proofs.lemmas.Iterator.Consumers.{YieldsList-turn}
use Rattle.kte_desk.specs.Passes.{IsCheckerOf, work_of}
use Rattle.kte_desk.specs.declared.pass.CheckerPass.{CheckerPass}
use Rattle.kte_desk.specs.declared.work.Work.{Work}
use Rattle.kte_run.proofs.crew.outfitted.Goals as goal

pub invariant_of-push_reserved : goal.invariant_of-push_reserved
invariant_of-push_reserved g c =
    let turn = YieldsList-turn (YieldsList-from_vec {s = c.into_iter-pass-iterator.result} c.args.passes.items (search rules) (search rules))
    c.loop-pass.yielded c.loop-pass.pass-iterator c.loop-pass.yielded_by c.next.result c.next.new.self c.in-Some.pass c.in-Some.is c.next.ensures.steps in
    let own = subst (IsCheckerOf c.args.desk.now) (sym turn.1) (c.requires.own _ c.in-Some.pass turn.0) in
    let free = subst (λ (pass : CheckerPass). work_of pass ≡ None) (sym turn.1) (c.requires.free _ c.in-Some.pass turn.0) in
    record { at = own; free = ap (λ (work : Option Work). is_some work) free }
