use Rattle.std.proofs.Common.{◌≡◌, length, take, OnOk}
use Rattle.kte_causes.specs.Moments.{latest}
use Rattle.kte_causes.proofs.CallerLemmas.{Staying-after, saved_now-holds}
use Rattle.kte_run.proofs.Files.{room, swap_now-holds}
use Rattle.kte_run.proofs.saved.fill.Goals as goal

pub saved_at-requires : goal.saved_at-requires
saved_at-requires g c = room (λ told. (latest told).saved) (length c.args.buf.now) (g.D.Disk.moments c.args.disk.now) (rw c.in-Saved.is at c.requires)

pub returns-in-Saved-clause-value : goal.returns-in-Saved-clause-value
returns-in-Saved-clause-value g c =
    rw c.in-Saved.is (saved_now-holds (λ bytes. OnOk c.saved_at.result (c.saved_at.new.buf ≡ take (length c.args.buf.now) bytes)) (g.D.Disk.moments c.saved_at.new.self) c.saved_at.ensures.value)

pub returns-in-Saved-clause-files : goal.returns-in-Saved-clause-files
returns-in-Saved-clause-files g c = Staying-after c.saved_at.result (g.D.Disk.moments c.args.disk.now) (g.D.Disk.moments c.saved_at.new.self) c.saved_at.ensures.moments

pub returns-in-Saved-clause-counts : goal.returns-in-Saved-clause-counts
returns-in-Saved-clause-counts g c = rw c.in-Saved.is c.saved_at.ensures.counts

pub swap_at-requires : goal.swap_at-requires
swap_at-requires g c = room (λ told. (latest told).swap) (length c.args.buf.now) (g.D.Disk.moments c.args.disk.now) (rw c.in-Swap.is at c.requires)

pub returns-in-Swap-clause-value : goal.returns-in-Swap-clause-value
returns-in-Swap-clause-value g c =
    rw c.in-Swap.is (swap_now-holds (λ bytes. OnOk c.swap_at.result (c.swap_at.new.buf ≡ take (length c.args.buf.now) bytes)) (g.D.Disk.moments c.swap_at.new.self) c.swap_at.ensures.value)

pub returns-in-Swap-clause-files : goal.returns-in-Swap-clause-files
returns-in-Swap-clause-files g c = Staying-after c.swap_at.result (g.D.Disk.moments c.args.disk.now) (g.D.Disk.moments c.swap_at.new.self) c.swap_at.ensures.moments

pub returns-in-Swap-clause-counts : goal.returns-in-Swap-clause-counts
returns-in-Swap-clause-counts g c = rw c.in-Swap.is c.swap_at.ensures.counts
