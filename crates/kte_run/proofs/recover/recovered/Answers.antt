use Rattle.std.proofs.Common.{◌≡◌, ◌∙◌, ℕ, true, List, Err, IfSome, ap, sym, subst}
use Rattle.kte_causes.specs.DiskFaults.{AllStay}
use Rattle.kte_causes.specs.Moments.{AddsMoments, Staying, saved_now}
use Rattle.kte_causes.proofs.CallerLemmas.{Staying-then, saved_now-stays}
use Rattle.kte_text.specs.Files.{Refuses}
use Rattle.kte_run.specs.Recover.{Shows, Tells, is_answer}
use Rattle.kte_run.proofs.Files.{later}
use Rattle.kte_run.proofs.RecoverLemmas.{Untold, both_by, err_then, if_err, ok_then, untold_length, untold_saved}
use Rattle.kte_run.proofs.recover.recovered.Given.{Over}
use Rattle.kte_run.proofs.recover.recovered.Goals as goal
use Rattle.kte_run.proofs.recover.recovered.Goals.{After-deref, After-load_saved}

pub returns-in_err-check_swap-clause-told : goal.returns-in_err-check_swap-clause-told
returns-in_err-check_swap-clause-told g c =
    let old = g.D.Disk.moments c.args.disk.now in
    if_err _ c.in_err-check_swap.field-0.0 (λ given. is_answer given ≡ true → Untold (AllStay (g.D.Disk.faults c.args.disk.now) (g.D.Disk.faults c.check_swap.new.disk)) old given)
    c.from_residual.ensures.1
    (λ one. untold_length (AllStay (g.D.Disk.faults c.args.disk.now) (g.D.Disk.faults c.check_swap.new.disk)) old c.in_err-check_swap.field-0.0
    c.in_err-check_swap.ensures.only (λ is. c.in_err-check_swap.ensures.empty (ap Err is)) one)

pub returns-in_err-saved-clause-told : goal.returns-in_err-saved-clause-told
returns-in_err-saved-clause-told g c =
    let old = g.D.Disk.moments c.args.disk.now in
    let mid = g.D.Disk.moments c.check_swap.new.disk in
    let on = saved_now-stays old mid c.check_swap.ensures.files in
    if_err _ c.in_err-saved.field-0.0 (λ given. is_answer given ≡ true → Untold (AllStay (g.D.Disk.faults c.args.disk.now) (g.D.Disk.faults c.load_saved.new.disk)) old given)
    c.from_residual-in_err-saved.ensures.1
    (λ one. untold_saved (AllStay (g.D.Disk.faults c.args.disk.now) (g.D.Disk.faults c.load_saved.new.disk)) old c.in_err-saved.field-0.0
    c.in_err-saved.ensures.only
    (λ fault some is. let denied = c.in_err-saved.ensures.refused fault some (ap Err is) in
    (λ call. denied.0 call ∙ c.in_ok-check_swap.ensures.calm call, later (λ file. Refuses file fault) (saved_now old) (saved_now mid) on denied.1))
    c.in_ok-check_swap.ensures.some one)

-- both files are as before, and the bytes that were read are the saved file
files : (g : Over) (c : After-load_saved g) → AddsMoments Staying (g.D.Disk.moments c.args.disk.now) (g.D.Disk.moments c.load_saved.new.disk)
files g c =
    Staying-then (g.D.Disk.moments c.args.disk.now) (g.D.Disk.moments c.check_swap.new.disk) (g.D.Disk.moments c.load_saved.new.disk)
    c.check_swap.ensures.files c.load_saved.ensures.files

same : (g : Over) (c : After-deref g) → IfSome (saved_now (g.D.Disk.moments c.args.disk.now)) (λ file. c.deref.result.now ≡ file)
same g c =
    let old = g.D.Disk.moments c.args.disk.now in
    let first = g.D.Disk.moments c.check_swap.new.disk in
    later (λ file. c.deref.result.now ≡ file) (saved_now old) (saved_now first) (saved_now-stays old first c.check_swap.ensures.files)
    (subst (λ (bytes : List ℕ). IfSome (saved_now first) (λ file. bytes ≡ file)) (sym c.deref.ensures.value) c.in_ok-saved.ensures.bytes)

pub returns-in_err-saved-clause-files : goal.returns-in_err-saved-clause-files
returns-in_err-saved-clause-files g c = files g (goal.at.returns-in_err-saved-clause-files g c).After-load_saved

pub returns-clause-files : goal.returns-clause-files
returns-clause-files g c =
    Staying-then (g.D.Disk.moments c.args.disk.now) (g.D.Disk.moments c.load_saved.new.disk) (g.D.Disk.moments c.recovered_beside.new.disk)
    (files g (goal.at.returns-clause-files g c).After-load_saved) c.recovered_beside.ensures.files

pub returns-clause-shown : goal.returns-clause-shown
returns-clause-shown g c =
    let old = g.D.Disk.moments c.args.disk.now in
    let mid = g.D.Disk.moments c.load_saved.new.disk in
    ok_then c.recovered_beside.result _ _
    (λ done h. (
      h.0,
      λ call. h.1 call ∙ c.in_ok-saved.ensures.calm call ∙ c.in_ok-check_swap.ensures.calm call,
      both_by (λ saved swap. Shows saved swap done.0 done.1.items) old mid c.deref.result.now
          (files g (goal.at.returns-clause-shown g c).After-load_saved) (same g (goal.at.returns-clause-shown g c).After-deref) h.2,
    ))
    c.recovered_beside.ensures.shown

pub returns-clause-told : goal.returns-clause-told
returns-clause-told g c =
    let old = g.D.Disk.moments c.args.disk.now in
    let mid = g.D.Disk.moments c.load_saved.new.disk in
    err_then c.recovered_beside.result _ _
    (λ told h one. let has = h one in (
      has.0,
      λ call. has.1 call ∙ c.in_ok-saved.ensures.calm call ∙ c.in_ok-check_swap.ensures.calm call,
      both_by (λ saved swap. Tells saved swap told) old mid c.deref.result.now
          (files g (goal.at.returns-clause-told g c).After-load_saved) (same g (goal.at.returns-clause-told g c).After-deref) has.2,
    ))
    c.recovered_beside.ensures.told
