use Rattle.std.proofs.Common.{◌++◌, List, ℕ, take, drop, arith}
use Rattle.kte_buffer.proofs.RowLemmas.{changed_row}
use Rattle.kte_buffer.proofs.rows.insert_units.Goals as goal

pub returns : goal.returns
returns c =
    changed_row _ _ _ _ (λ (units : List ℕ). take c.args.column units ++ c.args.units.now ++ drop c.args.column units)
    (omega arith) c.index_mut.ensures.value c.insert.ensures
