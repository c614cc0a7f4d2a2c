use Rattle.std.proofs.Common.{◌≡◌, [], ◌∷◌, Result, Err, subst}
use Rattle.kte_causes.specs.Moments.{AddsMoments, AddedBy, Syncing, Synced}
use Rattle.kte_swap.specs.declared.causes.SwapFault.{SwapFault}
use Rattle.kte_swap.specs.Swap.{disk_result}
use Rattle.kte_swap.specs.Saving.{syncs, replaces, resets}
use Rattle.kte_swap.proofs.Calls.{Makes-then, alone_guarding, alone_emptying, alone_leaving, failed-keeps, keeps, moves-then, moves-failed, moves-ok, moves-to}
use Rattle.kte_swap.proofs.swap.Swap.make_calls.Goals as goal

pub returns-then-eq-2-clause-alone : goal.returns-then-eq-2-clause-alone
returns-then-eq-2-clause-alone g c = alone_emptying c.args.bytes.now c.reset_then_replace.result _ _ c.reset_then_replace.ensures.moments

pub returns-then-eq-2-clause-kept : goal.returns-then-eq-2-clause-kept
returns-then-eq-2-clause-kept g c =
    keeps c.args.bytes.now (resets ∷ replaces ∷ []) c.reset_then_replace.result _ _ c.reset_then_replace.ensures.moments

pub returns-then-eq-2-clause-some : goal.returns-then-eq-2-clause-some
returns-then-eq-2-clause-some g c =
    moves-ok c.args.bytes.now resets (replaces ∷ []) c.reset_then_replace.result _ _ c.reset_then_replace.ensures.moments

pub returns-then-eq-clause-alone : goal.returns-then-eq-clause-alone
returns-then-eq-clause-alone g c = alone_leaving c.args.bytes.now c.replace_then_reset.result _ _ c.replace_then_reset.ensures.moments

pub returns-then-eq-clause-kept : goal.returns-then-eq-clause-kept
returns-then-eq-clause-kept g c =
    keeps c.args.bytes.now (replaces ∷ resets ∷ []) c.replace_then_reset.result _ _ c.replace_then_reset.ensures.moments

pub returns-then-eq-clause-some : goal.returns-then-eq-clause-some
returns-then-eq-clause-some g c =
    moves-ok c.args.bytes.now replaces (resets ∷ []) c.replace_then_reset.result _ _ c.replace_then_reset.ensures.moments

pub returns-in-Ok-clause-guarded : goal.returns-in-Ok-clause-guarded
returns-in-Ok-clause-guarded g c = λ _.
    Makes-then c.args.bytes.now syncs (replaces ∷ resets ∷ []) c.replace_then_reset-in-Ok.result _ _ _
    c.in-Ok.ensures.moments c.replace_then_reset-in-Ok.ensures.moments

pub returns-in-Ok-clause-alone : goal.returns-in-Ok-clause-alone
returns-in-Ok-clause-alone g c =
    alone_guarding c.args.bytes.now c.replace_then_reset-in-Ok.result _ _
    (Makes-then c.args.bytes.now syncs (replaces ∷ resets ∷ []) c.replace_then_reset-in-Ok.result _ _ _
    c.in-Ok.ensures.moments c.replace_then_reset-in-Ok.ensures.moments)

pub returns-in-Ok-clause-kept : goal.returns-in-Ok-clause-kept
returns-in-Ok-clause-kept g c =
    keeps c.args.bytes.now (syncs ∷ replaces ∷ resets ∷ []) c.replace_then_reset-in-Ok.result _ _
    (Makes-then c.args.bytes.now syncs (replaces ∷ resets ∷ []) c.replace_then_reset-in-Ok.result _ _ _
    c.in-Ok.ensures.moments c.replace_then_reset-in-Ok.ensures.moments)

pub returns-in-Ok-clause-some : goal.returns-in-Ok-clause-some
returns-in-Ok-clause-some g c =
    moves-ok c.args.bytes.now syncs (replaces ∷ resets ∷ []) c.replace_then_reset-in-Ok.result _ _
    (Makes-then c.args.bytes.now syncs (replaces ∷ resets ∷ []) c.replace_then_reset-in-Ok.result _ _ _
    c.in-Ok.ensures.moments c.replace_then_reset-in-Ok.ensures.moments)

pub returns-in-Ok-clause-unchanged : goal.returns-in-Ok-clause-unchanged
returns-in-Ok-clause-unchanged g c =
    moves-to _ _ _
    (moves-then c.args.bytes.now syncs (replaces ∷ resets ∷ []) c.replace_then_reset-in-Ok.result _ _ _
    c.in-Ok.ensures.moments c.replace_then_reset-in-Ok.ensures.moments)

pub returns-in-Err-Failed-clause-kept : goal.returns-in-Err-Failed-clause-kept
returns-in-Err-Failed-clause-kept g c =
    let sync : (f : SwapFault) → Result (Unit {0}) SwapFault = λ f. Err f in
    failed-keeps syncs c.args.bytes.now _ _
    (subst (λ f. AddsMoments (AddedBy (disk_result (sync f)) Syncing Synced) (g.D.Disk.moments c.args.disk.now) (g.D.Disk.moments c.sync.new.disk))
    c.in-Err-Failed.field-0-is c.in-Err-Failed.ensures.moments)

pub returns-in-Err-Failed-clause-unchanged : goal.returns-in-Err-Failed-clause-unchanged
returns-in-Err-Failed-clause-unchanged g c =
    let sync : (f : SwapFault) → Result (Unit {0}) SwapFault = λ f. Err f in
    moves-to (c.sync.new.self ≡ c.args.self.now) _ _
    (moves-failed syncs c.args.bytes.now _ _
    (subst (λ f. AddsMoments (AddedBy (disk_result (sync f)) Syncing Synced) (g.D.Disk.moments c.args.disk.now) (g.D.Disk.moments c.sync.new.disk))
    c.in-Err-Failed.field-0-is c.in-Err-Failed.ensures.moments))
