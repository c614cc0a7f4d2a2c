use Rattle.std.proofs.Common.{◌≡◌, Some}
use Rattle.kte_causes.proofs.CallerLemmas.{Staying-then}
use Rattle.kte_run.specs.Files.{file_now}
use Rattle.kte_run.proofs.Files.{file_now-stays, later}
use Rattle.kte_run.proofs.generation.bytes_of.Goals as goal

pub returns-in-Ok-read_file-clause-bytes : goal.returns-in-Ok-read_file-clause-bytes
returns-in-Ok-read_file-clause-bytes c =
    let old = Some c.args.disk.now in
    let mid = Some c.length_of.new.disk in
    later (λ there. c.in-Ok-read_file.bytes.items ≡ there) (file_now c.args.file old) (file_now c.args.file mid)
    (file_now-stays c.args.file old mid c.length_of.ensures.files) c.in-Ok-read_file.ensures.bytes

pub returns-in-Ok-read_file-clause-files : goal.returns-in-Ok-read_file-clause-files
returns-in-Ok-read_file-clause-files c =
    Staying-then (Some c.args.disk.now) (Some c.length_of.new.disk) (Some c.read_file.new.disk) c.length_of.ensures.files c.read_file.ensures.files

pub returns-in-Err-clause-files : goal.returns-in-Err-clause-files
returns-in-Err-clause-files c =
    Staying-then (Some c.args.disk.now) (Some c.length_of.new.disk) (Some c.read_file.new.disk) c.length_of.ensures.files c.read_file.ensures.files
