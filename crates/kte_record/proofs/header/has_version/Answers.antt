use Rattle.std.proofs.Common.{take, subst, sym, IsTrue}
use Rattle.std.proofs.lemmas.Slice.Eq.{bytes_eq-Decides}
use Rattle.kte_record.specs.Grammar.{version_bytes}
use Rattle.kte_record.proofs.HeaderLemmas.{version_by_front, front_by_version}
use Rattle.kte_record.proofs.header.has_version.Goals as goal

pub returns : goal.returns
returns c =
    let count = c.min-count.result in
    let d = bytes_eq-Decides (take count c.args.bytes.now) (take count version_bytes) in (
      (λ t. version_by_front c.args.bytes.now count c.min-count.ensures (d.0 (subst IsTrue c.eq.ensures t))),
      (λ v. subst IsTrue (sym c.eq.ensures) (d.1 (front_by_version c.args.bytes.now count c.min-count.ensures v))),
    )
