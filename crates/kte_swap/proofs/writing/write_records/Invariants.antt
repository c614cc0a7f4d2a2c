use Rattle.std.proofs.Common.{◌≡◌, ◌++◌, take}
use Rattle.std.specs.List.{AllByRecursion}
use Rattle.kte_record.specs.Transactions.{records, IsWritable}
use Rattle.kte_swap.proofs.writing.write_records.Given as goal

-- the records of the first primitives were appended
abbrev pub invariant-loop-n : goal.invariant-loop-n
invariant-loop-n l = record {
  bytes : l.out.items ≡ l.fn.out.items ++ records (take l.n l.batch);
  writable : AllByRecursion IsWritable (take l.n l.batch);
}
