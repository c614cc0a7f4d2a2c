use Rattle.std.proofs.Common.{◌++◌, ap, ◌∙◌, arith}
use Rattle.kte_buffer.proofs.RowLemmas.{joined_row}
use Rattle.kte_buffer.proofs.rows.unwrap.Goals as goal

pub returns : goal.returns
returns c =
    joined_row _ _ _ _ _ _ _ (omega arith) (omega arith) c.remove-tail.ensures.items c.index_mut.ensures.value
    c.remove-tail.ensures.value (c.append.ensures ∙ ap (λ units. c.index_mut.result.now.items ++ units) c.as_slice.ensures.value)
