use Rattle.std.proofs.Common.{◌≡◌, ◌∙◌, ℕ, List, inl, sym, ap, subst, Err}
use Rattle.kte_causes.specs.Moments.{saved_now}
use Rattle.kte_causes.proofs.CallerLemmas.{Staying-then}
use Rattle.kte_text.specs.Files.{Refuses}
use Rattle.kte_run.specs.Statuses.{file_status}
use Rattle.kte_run.specs.declared.saved.DiskFile.TheVariants.{Saved}
use Rattle.kte_run.proofs.Files.{file_now-stays, later, long_refused, long_comes, refused_file, refused_bytes, same_fault, err_status, err_any, not_memory}
use Rattle.kte_run.proofs.saved.load_saved.Goals as goal

pub returns-then-size-gt-MAX_FILE_LENGTH-clause-refused :
    goal.returns-then-size-gt-MAX_FILE_LENGTH-clause-refused
returns-then-size-gt-MAX_FILE_LENGTH-clause-refused g c = λ fault some is.
    let old = g.D.Disk.moments c.args.disk.now in
    (c.in_ok-size.ensures.counts.calm, long_refused (saved_now old) c.in_ok-size.size c.from.result fault c.from.ensures (let e : c.from.result ≡ file_status fault = cc is in e) c.in_ok-size.ensures.before c.if-size-gt-MAX_FILE_LENGTH.true)

pub returns-then-size-gt-MAX_FILE_LENGTH-clause-refused_comes :
    goal.returns-then-size-gt-MAX_FILE_LENGTH-clause-refused_comes
returns-then-size-gt-MAX_FILE_LENGTH-clause-refused_comes g c = λ fault refuses.
    inl (long_comes (saved_now (g.D.Disk.moments c.args.disk.now)) c.in_ok-size.size c.from.result fault c.from.ensures c.in_ok-size.ensures.before c.if-size-gt-MAX_FILE_LENGTH.true refuses)

pub returns-in_err-bytes-clause-files : goal.returns-in_err-bytes-clause-files
returns-in_err-bytes-clause-files g c =
    Staying-then (g.D.Disk.moments c.args.disk.now) (g.D.Disk.moments c.length_of.new.disk) (g.D.Disk.moments c.read_file.new.disk) c.length_of.ensures.files c.read_file.ensures.files

pub returns-in_err-loaded-clause-files : goal.returns-in_err-loaded-clause-files
returns-in_err-loaded-clause-files g c =
    Staying-then (g.D.Disk.moments c.args.disk.now) (g.D.Disk.moments c.length_of.new.disk) (g.D.Disk.moments c.read_file.new.disk) c.length_of.ensures.files c.read_file.ensures.files

pub returns-in_err-loaded-clause-refused : goal.returns-in_err-loaded-clause-refused
returns-in_err-loaded-clause-refused g c = λ fault some is.
    let old = g.D.Disk.moments c.args.disk.now in
    let mid = g.D.Disk.moments c.length_of.new.disk in
    let same = later (λ file. c.in_ok-bytes.bytes.items ≡ file) (saved_now old) (saved_now mid) (file_now-stays Saved old mid c.length_of.ensures.files) c.in_ok-bytes.ensures.bytes in
    let from = err_status c.from_residual-in_err-loaded.result c.in_err-loaded.field-0.0 (file_status fault) c.from_residual-in_err-loaded.ensures.1 is in
    let fails = c.in_err-loaded.was ∙ ap Err (sym (same_fault fault c.in_err-loaded.field-0.0 from)) in (
      λ call. c.in_ok-bytes.ensures.counts.calm call ∙ c.in_ok-size.ensures.counts.calm call,
      refused_file (saved_now old) c.in_ok-bytes.bytes.items fault same
          (subst (λ (bytes : List ℕ). Refuses bytes fault) c.deref.ensures.value ((c.load.ensures.refused fault some).0 fails)),
    )

pub returns-in_err-loaded-clause-refused_comes : goal.returns-in_err-loaded-clause-refused_comes
returns-in_err-loaded-clause-refused_comes g c = λ fault refuses.
    let old = g.D.Disk.moments c.args.disk.now in
    let mid = g.D.Disk.moments c.length_of.new.disk in
    let same = later (λ file. c.in_ok-bytes.bytes.items ≡ file) (saved_now old) (saved_now mid) (file_now-stays Saved old mid c.length_of.ensures.files) c.in_ok-bytes.ensures.bytes in
    let bytes = subst (λ (bytes : List ℕ). Refuses bytes fault) (sym c.deref.ensures.value) (refused_bytes (saved_now old) c.in_ok-bytes.bytes.items fault same refuses) in
    let fails = (c.load.ensures.refused fault (not_memory c.deref.result.now fault bytes)).1 bytes in
    let is : c.in_err-loaded.field-0.0 ≡ fault = cc (c.in_err-loaded.was, fails) in
    err_any c.from_residual-in_err-loaded.result c.in_err-loaded.field-0.0 _ c.from_residual-in_err-loaded.ensures.1 (λ s as_file. inl (as_file ∙ ap file_status is))

pub returns-clause-bytes : goal.returns-clause-bytes
returns-clause-bytes g c =
    let old = g.D.Disk.moments c.args.disk.now in
    let mid = g.D.Disk.moments c.length_of.new.disk in
    later (λ file. c.in_ok-bytes.bytes.items ≡ file) (saved_now old) (saved_now mid) (file_now-stays Saved old mid c.length_of.ensures.files) c.in_ok-bytes.ensures.bytes

pub returns-clause-files : goal.returns-clause-files
returns-clause-files g c =
    Staying-then (g.D.Disk.moments c.args.disk.now) (g.D.Disk.moments c.length_of.new.disk) (g.D.Disk.moments c.read_file.new.disk) c.length_of.ensures.files c.read_file.ensures.files
