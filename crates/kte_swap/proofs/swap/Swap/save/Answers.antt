use Rattle.std.proofs.Common.{◌≡◌, ◌∙◌, ap, sym, subst, [], ◌∷◌, Ok}
use Rattle.std.proofs.lemmas.Result.{err_from_is_err_and}
use Rattle.kte_causes.specs.Moments.{AddsMoments}
use Rattle.kte_swap.specs.declared.causes.SaveFault.TheVariants as fault
use Rattle.kte_swap.specs.Saving.{Makes, Guarding, Emptying, Leaving, syncs, replaces, resets}
use Rattle.kte_swap.proofs.Calls.{failing, with_guarding, with_emptying, with_leaving}
use Rattle.kte_swap.proofs.Standing.{save-err, save-ok}
use Rattle.kte_swap.proofs.swap.Swap.save.Goals as goal

pub returns-clause-guarded : goal.returns-clause-guarded
returns-clause-guarded g c = λ e. with_guarding c.args.bytes.now (Ok tt) _ _ (c.in_ok-make_calls.ensures.guarded e)

pub returns-clause-same_base : goal.returns-clause-same_base
returns-clause-same_base g c = λ e same.
    with_emptying c.args.bytes.now (Ok tt) _ _ (c.in_ok-make_calls.ensures.same_base e (c.digest-base.ensures ∙ same))

pub returns-clause-other_base : goal.returns-clause-other_base
returns-clause-other_base g c = λ e other.
    with_leaving c.args.bytes.now (Ok tt) _ _ (c.in_ok-make_calls.ensures.other_base e (λ same. other (sym c.digest-base.ensures ∙ same)))

pub returns-clause-stands : goal.returns-clause-stands
returns-clause-stands g c = λ text after ts h file.
    save-ok c.digest-base.result.0 c.args.bytes.now c.args.self.now text after ts _ _ c.digest-base.ensures c.in_ok-make_calls.ensures.alone file h

pub returns-in_err-make_calls-clause-guarded : goal.returns-in_err-make_calls-clause-guarded
returns-in_err-make_calls-clause-guarded g c = λ e.
    let p = err_from_is_err_and c.from_residual.result c.from_residual.ensures.1 in
    subst (λ r. AddsMoments (λ old added. Makes c.args.bytes.now (syncs ∷ replaces ∷ resets ∷ []) r old added × Guarding c.args.bytes.now r old added)
    (g.D.Disk.moments c.args.disk.now) (g.D.Disk.moments c.make_calls.new.disk)) (sym (p.1 ∙ ap failing p.2))
    (with_guarding c.args.bytes.now (failing c.in_err-make_calls.field-0.0) _ _ (c.in_err-make_calls.ensures.guarded e))

pub returns-in_err-make_calls-clause-same_base : goal.returns-in_err-make_calls-clause-same_base
returns-in_err-make_calls-clause-same_base g c = λ e same.
    let p = err_from_is_err_and c.from_residual.result c.from_residual.ensures.1 in
    subst (λ r. AddsMoments (λ old added. Makes c.args.bytes.now (resets ∷ replaces ∷ []) r old added × Emptying c.args.bytes.now r old added)
    (g.D.Disk.moments c.args.disk.now) (g.D.Disk.moments c.make_calls.new.disk)) (sym (p.1 ∙ ap failing p.2))
    (with_emptying c.args.bytes.now (failing c.in_err-make_calls.field-0.0) _ _ (c.in_err-make_calls.ensures.same_base e (c.digest-base.ensures ∙ same)))

pub returns-in_err-make_calls-clause-other_base : goal.returns-in_err-make_calls-clause-other_base
returns-in_err-make_calls-clause-other_base g c = λ e other.
    let p = err_from_is_err_and c.from_residual.result c.from_residual.ensures.1 in
    subst (λ r. AddsMoments (λ old added. Makes c.args.bytes.now (replaces ∷ resets ∷ []) r old added × Leaving c.args.bytes.now r old added)
    (g.D.Disk.moments c.args.disk.now) (g.D.Disk.moments c.make_calls.new.disk)) (sym (p.1 ∙ ap failing p.2))
    (with_leaving c.args.bytes.now (failing c.in_err-make_calls.field-0.0) _ _
    (c.in_err-make_calls.ensures.other_base e (λ same. other (sym c.digest-base.ensures ∙ same))))

pub returns-in_err-make_calls-clause-stands : goal.returns-in_err-make_calls-clause-stands
returns-in_err-make_calls-clause-stands g c = λ text after ts h file.
    let p = err_from_is_err_and c.from_residual.result c.from_residual.ensures.1 in
    rw p.1
    (save-err (failing c.in_err-make_calls.field-0.0 ≡ failing fault.NoMemory) c.args.self.now c.make_calls.new.self text ts _ _
    c.in_err-make_calls.ensures.kept c.in_err-make_calls.ensures.err h)
