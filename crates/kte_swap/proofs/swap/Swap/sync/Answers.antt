use Rattle.std.proofs.Common.{◌≡◌, subst, sym, ap, ◌∙◌}
use Rattle.kte_swap.specs.Swap.{SwapView, lost}
use Rattle.kte_swap.specs.Guards.{Stands}
use Rattle.kte_swap.specs.declared.causes.SwapState.TheVariants.{Guarded}
use Rattle.kte_swap.proofs.Standing.{guarded-is, Stands-sync, Stands-sync_failed, sync_images}
use Rattle.kte_swap.proofs.swap.Swap.sync.Goals as goal

pub returns-in-Ok-clause-stands : goal.returns-in-Ok-clause-stands
returns-in-Ok-clause-stands g c = λ text ts h.
    let e : c.args.self.now.state ≡ Guarded =
    ap (λ (s : SwapView). s.state) (sym c.self.view_is) ∙ guarded-is c.self.inside.state c.if-eq.ensures in
    Stands-sync c.sync.result c.args.self.now text ts _ _ e h c.sync.ensures.moments

pub returns-in-Ok-clause-images : goal.returns-in-Ok-clause-images
returns-in-Ok-clause-images g c = λ text ts h.
    let e : c.args.self.now.state ≡ Guarded =
    ap (λ (s : SwapView). s.state) (sym c.self.view_is) ∙ guarded-is c.self.inside.state c.if-eq.ensures in
    sync_images c.sync.result c.args.self.now text ts _ _ e h c.sync.ensures.moments

pub returns-in-Err-Failed-clause-stands : goal.returns-in-Err-Failed-clause-stands
returns-in-Err-Failed-clause-stands g c = λ text ts h.
    let e : c.args.self.now.state ≡ Guarded =
    ap (λ (s : SwapView). s.state) (sym c.self.view_is) ∙ guarded-is c.self.inside.state c.if-eq.ensures in
    subst (λ (s : SwapView). Stands (lost s) text ts (g.D.Disk.moments c.sync.new.self)) (sym c.self.view_is)
    (Stands-sync_failed c.sync.result c.args.self.now text ts _ _ e h c.sync.ensures.moments)

pub returns-in-Err-Failed-clause-images : goal.returns-in-Err-Failed-clause-images
returns-in-Err-Failed-clause-images g c = λ text ts h.
    let e : c.args.self.now.state ≡ Guarded =
    ap (λ (s : SwapView). s.state) (sym c.self.view_is) ∙ guarded-is c.self.inside.state c.if-eq.ensures in
    sync_images c.sync.result c.args.self.now text ts _ _ e h c.sync.ensures.moments
