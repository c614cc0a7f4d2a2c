use Rattle.std.proofs.Common.{rules, ◌≡◌, ◌≤◌, length, arith}
use Rattle.kte_causes.proofs.CallerLemmas.{Staying-none}
use Rattle.kte_run.specs.Files.{file_now}
use Rattle.kte_run.proofs.Files.{file_now-stays, front, if_then, read}
use Rattle.kte_run.proofs.saved.read_file.Goals as goal

pub returns-in_err-bytes-clause-files : goal.returns-in_err-bytes-clause-files
returns-in_err-bytes-clause-files g c = Staying-none (g.D.Disk.moments c.args.disk.now)

pub fill-requires : goal.fill-requires
fill-requires g c =
    let room : length c.deref_mut.result.now ≡ c.args.size = search rules in
    if_then (λ bytes. c.args.size ≡ length bytes) (λ bytes. length c.deref_mut.result.now ≤ length bytes)
    (λ bytes long. omega arith) (file_now c.args.file (g.D.Disk.moments c.args.disk.now)) c.requires

pub returns-clause-bytes : goal.returns-clause-bytes
returns-clause-bytes g c =
    let room : length c.deref_mut.result.now ≡ c.args.size = search rules in
    let long : c.in_ok-bytes.bytes.len ≡ length c.fill.new.buf = search rules in
    let old = g.D.Disk.moments c.args.disk.now in
    let new = g.D.Disk.moments c.fill.new.disk in
    read (file_now c.args.file old) (file_now c.args.file new) c.args.size c.deref_mut.result.now c.fill.new.buf _
    (file_now-stays c.args.file old new c.fill.ensures.files) c.requires room c.in_ok-fill.ensures.value (front c.in_ok-bytes.bytes.len c.fill.new.buf _ long)
