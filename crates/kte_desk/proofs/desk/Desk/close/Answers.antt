use Rattle.std.proofs.Common.{rules, ◌≡◌, All, map-id, sym, ◌∙◌, subst}
use Rattle.std.proofs.lemmas.Iterator.Adapters.{YieldsList-from_vec}
use Rattle.std.proofs.lemmas.Iterator.Consumers.{YieldsList-end}
use mathlib.Core.List.{IsPrefix}
use Rattle.kte_turn.specs.Passes.{pass_known}
use Rattle.kte_desk.specs.Passes.{checker_known}
use Rattle.kte_desk.specs.declared.pass.CheckerPass.{CheckerPass}
use Rattle.kte_desk.proofs.JoinLemmas.{one_joined, prefix_then}
use Rattle.kte_desk.proofs.desk.Desk.close.Goals as goal

pub loop-checker-preserved : goal.loop-checker-preserved
loop-checker-preserved c =
    let kept = c.loop-checker.invariant in
    let joining = c.join-pass.ensures in (
      tt,
      tt,
      joining.own,
      one_joined (pass_known c.args.editor.pass) (pass_known c.loop-checker.pass) (pass_known c.join-pass.result)
          c.loop-checker.yielded c.in-Some.checker kept.3 joining.pass joining.seen joining.other_seen,
    )

pub returns-clause-seen : goal.returns-clause-seen
returns-clause-seen c =
    let joined = c.loop-checker.invariant.3 in
    let last = pass_known c.loop-checker.pass in
    let end = YieldsList-end (YieldsList-from_vec {s = c.into_iter-checker-iterator.result} c.args.checkers.items (search rules) (search rules))
    c.loop-checker.yielded c.loop-checker.checker-iterator c.loop-checker.yielded_by c.next.result c.next.new.self c.in-None.is c.next.ensures.steps in
    let all : c.loop-checker.yielded ≡ c.args.checkers.items = sym (map-id c.loop-checker.yielded) ∙ end.0 in
    let events = c.close-core.result.core.events in
    subst (All (λ (checker : CheckerPass). IsPrefix (checker_known checker).seen events)) all
    (λ k d within. prefix_then _ last.seen events (joined.all_begin k d within) c.close-core.ensures.seen)
