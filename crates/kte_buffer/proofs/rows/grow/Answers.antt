use Rattle.std.proofs.Common.{arith}
use Rattle.std.proofs.lemmas.Result.{on_ok_weaker}
use Rattle.kte_buffer.proofs.RowLemmas.{grown_row, room_in_row}
use Rattle.kte_buffer.proofs.rows.grow.Goals as goal

pub returns-clause-ok : goal.returns-clause-ok
returns-clause-ok c =
    on_ok_weaker c.try_reserve.result
    (λ room. room_in_row c.args.rows.now c.args.line c.args.added c.index_mut.result.now c.try_reserve.new.self
    (omega arith) c.index_mut.ensures.value c.try_reserve.ensures.items room)
    c.try_reserve.ensures.ok

pub returns-clause-rows : goal.returns-clause-rows
returns-clause-rows c =
    grown_row c.args.rows.now c.args.line c.index_mut.result.now c.try_reserve.new.self (omega arith)
    c.index_mut.ensures.value c.try_reserve.ensures.items c.try_reserve.ensures.capacity
