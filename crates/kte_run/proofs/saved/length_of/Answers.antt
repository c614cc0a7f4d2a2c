use Rattle.std.proofs.Common.{◌≡◌, length, IfOk}
use Rattle.kte_causes.proofs.CallerLemmas.{Staying-after, saved_now-holds}
use Rattle.kte_run.specs.Files.{file_now}
use Rattle.kte_run.proofs.Files.{file_now-stays, later, swap_now-holds}
use Rattle.kte_run.proofs.saved.length_of.Goals as goal

pub returns-in-Saved-clause-value : goal.returns-in-Saved-clause-value
returns-in-Saved-clause-value g c =
    rw c.in-Saved.is (saved_now-holds (λ bytes. IfOk c.saved_len.result (λ n. n ≡ length bytes)) (g.D.Disk.moments c.saved_len.new.self) c.saved_len.ensures.value)

pub returns-in-Saved-clause-before : goal.returns-in-Saved-clause-before
returns-in-Saved-clause-before g c =
    let old = g.D.Disk.moments c.args.disk.now in
    let new = g.D.Disk.moments c.saved_len.new.self in
    later (λ bytes. IfOk c.saved_len.result (λ n. n ≡ length bytes)) (file_now c.args.file old) (file_now c.args.file new)
    (file_now-stays c.args.file old new (Staying-after c.saved_len.result old new c.saved_len.ensures.moments)) (returns-in-Saved-clause-value g c)

pub returns-in-Saved-clause-files : goal.returns-in-Saved-clause-files
returns-in-Saved-clause-files g c = Staying-after c.saved_len.result (g.D.Disk.moments c.args.disk.now) (g.D.Disk.moments c.saved_len.new.self) c.saved_len.ensures.moments

pub returns-in-Saved-clause-counts : goal.returns-in-Saved-clause-counts
returns-in-Saved-clause-counts g c = rw c.in-Saved.is c.saved_len.ensures.counts

pub returns-in-Swap-clause-value : goal.returns-in-Swap-clause-value
returns-in-Swap-clause-value g c =
    rw c.in-Swap.is (swap_now-holds (λ bytes. IfOk c.swap_len.result (λ n. n ≡ length bytes)) (g.D.Disk.moments c.swap_len.new.self) c.swap_len.ensures.value)

pub returns-in-Swap-clause-before : goal.returns-in-Swap-clause-before
returns-in-Swap-clause-before g c =
    let old = g.D.Disk.moments c.args.disk.now in
    let new = g.D.Disk.moments c.swap_len.new.self in
    later (λ bytes. IfOk c.swap_len.result (λ n. n ≡ length bytes)) (file_now c.args.file old) (file_now c.args.file new)
    (file_now-stays c.args.file old new (Staying-after c.swap_len.result old new c.swap_len.ensures.moments)) (returns-in-Swap-clause-value g c)

pub returns-in-Swap-clause-files : goal.returns-in-Swap-clause-files
returns-in-Swap-clause-files g c = Staying-after c.swap_len.result (g.D.Disk.moments c.args.disk.now) (g.D.Disk.moments c.swap_len.new.self) c.swap_len.ensures.moments

pub returns-in-Swap-clause-counts : goal.returns-in-Swap-clause-counts
returns-in-Swap-clause-counts g c = rw c.in-Swap.is c.swap_len.ensures.counts
