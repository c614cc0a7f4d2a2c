use Rattle.std.proofs.Common.{◌≡◌, ◌∙◌, ℕ, List, IfSome, sym, subst}
use Rattle.kte_causes.specs.Moments.{swap_now}
use Rattle.kte_causes.proofs.CallerLemmas.{Staying-then}
use Rattle.kte_run.specs.Recover.{Shows, Tells}
use Rattle.kte_run.specs.declared.saved.DiskFile.TheVariants.{Swap}
use Rattle.kte_run.proofs.Files.{file_now-stays, later}
use Rattle.kte_run.proofs.RecoverLemmas.{err_then, is_some, of_file, ok_then}
use Rattle.kte_run.proofs.recover.recovered_beside.Goals as goal

pub returns-in_err-swap-clause-files : goal.returns-in_err-swap-clause-files
returns-in_err-swap-clause-files g c =
    Staying-then (g.D.Disk.moments c.args.disk.now) (g.D.Disk.moments c.length_of.new.disk) (g.D.Disk.moments c.read_file.new.disk) c.length_of.ensures.files c.read_file.ensures.files

pub returns-clause-files : goal.returns-clause-files
returns-clause-files g c =
    Staying-then (g.D.Disk.moments c.args.disk.now) (g.D.Disk.moments c.length_of.new.disk) (g.D.Disk.moments c.read_file.new.disk) c.length_of.ensures.files c.read_file.ensures.files

pub returns-clause-shown : goal.returns-clause-shown
returns-clause-shown g c =
    let old = g.D.Disk.moments c.args.disk.now in
    let mid = g.D.Disk.moments c.length_of.new.disk in
    let read = subst (λ (bytes : List ℕ). IfSome (swap_now mid) (λ file. bytes ≡ file)) (sym c.deref.ensures.value) c.in_ok-swap.ensures.bytes in
    let same = later (λ file. c.deref.result.now ≡ file) (swap_now old) (swap_now mid) (file_now-stays Swap old mid c.length_of.ensures.files) read in
    ok_then c.shown.result _ _
    (λ done h. (
      h.0,
      λ call. c.in_ok-swap.ensures.counts.calm call ∙ c.in_ok-size.ensures.counts.calm call,
      of_file (λ swap. Shows c.args.saved.now swap done.0 done.1.items) (swap_now old) c.deref.result.now same h.1,
    ))
    c.shown.ensures.shown

pub returns-clause-told : goal.returns-clause-told
returns-clause-told g c =
    let old = g.D.Disk.moments c.args.disk.now in
    let mid = g.D.Disk.moments c.length_of.new.disk in
    let read = subst (λ (bytes : List ℕ). IfSome (swap_now mid) (λ file. bytes ≡ file)) (sym c.deref.ensures.value) c.in_ok-swap.ensures.bytes in
    let same = later (λ file. c.deref.result.now ≡ file) (swap_now old) (swap_now mid) (file_now-stays Swap old mid c.length_of.ensures.files) read in
    err_then c.shown.result _ _
    (λ told h one. let tells = h (is_some told one) in (
      tells.0,
      λ call. c.in_ok-swap.ensures.counts.calm call ∙ c.in_ok-size.ensures.counts.calm call,
      of_file (λ swap. Tells c.args.saved.now swap told) (swap_now old) c.deref.result.now same tells.1,
    ))
    c.shown.ensures.told
