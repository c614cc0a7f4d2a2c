use Rattle.std.proofs.Common.{◌≡◌, ℕ, List, subst, sym, ap, ◌∙◌, arith}
use Rattle.kte_text.specs.declared.digests.Digest.{Digest}
use Rattle.kte_record.specs.Grammar.{HasHeader}
use Rattle.kte_record.specs.declared.header.Header.TheVariants.{Got}
use Rattle.kte_record.proofs.HeaderLemmas.{header_by_length, version_by_header, length_by_header, one_digest}
use Rattle.kte_record.proofs.header.read_header.Goals as goal

abbrev digest_in : List ℕ → Digest
digest_in l = record { 0 = l }

pub returns-then-not-has_version-clause-got : goal.returns-then-not-has_version-clause-got
returns-then-not-has_version-clause-got c = λ kept. (
  (λ e. absurd (cc)),
  (λ h. let v = c.has_version.ensures.1 (version_by_header c.args.bytes.now kept.0 h) in let no = c.if-not-has_version.true in absurd (cc)),
)

pub returns-then-bytes-lt-HEADER_LENGTH-clause-got : goal.returns-then-bytes-lt-HEADER_LENGTH-clause-got
returns-then-bytes-lt-HEADER_LENGTH-clause-got c = λ kept. (
  (λ e. absurd (cc)),
  (λ h. absurd (omega (arith, length_by_header c.args.bytes.now kept.0 h, c.if-bytes-lt-HEADER_LENGTH.true))),
)

pub returns-clause-got : goal.returns-clause-got
returns-clause-got c =
    let v = c.has_version.ensures.0 c.if-not-has_version.false in
    λ kept. (
      (λ e.
          let same : digest_in c.copy_from_slice.new.self ≡ kept = cc in
          subst (HasHeader c.args.bytes.now) (sym c.copy_from_slice.ensures.after ∙ ap (λ (d : Digest). d.0) same)
          (header_by_length c.args.bytes.now v c.if-bytes-lt-HEADER_LENGTH.false)),
      (λ h. ap (λ (l : List ℕ). Got (digest_in l)) (c.copy_from_slice.ensures.after ∙ one_digest c.args.bytes.now kept.0 h)),
    )
