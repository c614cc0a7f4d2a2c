use Rattle.std.proofs.Common.{arith}
use Rattle.kte_buffer.proofs.RowLemmas.{wrapped_row}
use Rattle.kte_buffer.proofs.rows.wrap.Goals as goal

pub returns : goal.returns
returns c =
    rw (c.insert.ensures.items, c.unwrap.ensures)
    (wrapped_row _ _ _ _ _ _ (omega arith) c.index_mut.ensures.value c.split.ensures.head c.split.ensures.tail)
