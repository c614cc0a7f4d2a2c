use Rattle.std.proofs.Common.{◌++◌, List, ℕ, ap, ◌∙◌, append_assoc}
use Rattle.kte_record.specs.Grammar.{version_bytes}
use Rattle.kte_record.proofs.header.write_header.Goals as goal

pub returns-clause-ok : goal.returns-clause-ok
returns-clause-ok c =
    let first = rw c.unwrap.ensures at c.extend_from_slice.ensures.items in
    let then = rw c.unwrap-2.ensures at c.extend_from_slice-2.ensures.items in
    then ∙ ap (λ (l : List ℕ). l ++ c.args.kept.now.0) (first ∙ ap (λ (l : List ℕ). l ++ version_bytes) c.try_reserve.ensures.items)
    ∙ append_assoc c.args.out.now.items version_bytes c.args.kept.now.0
