use Rattle.std.proofs.Common.{◌++◌, List, ℕ, take, subst, sym, ap, ◌∙◌, append_assoc}
use Rattle.std.specs.List.{AllByRecursion}
use Rattle.kte_record.specs.Grammar.{spelling}
use Rattle.kte_record.specs.Transactions.{record_of, records, IsWritable}
use Rattle.kte_swap.specs.Swap.{HasRecord}
use Rattle.kte_swap.proofs.Bytes.{All-at, All-push, take-one_more, records-push}
use Rattle.kte_swap.proofs.writing.write_records.Goals as goal

pub write_primitive-requires : goal.write_primitive-requires
write_primitive-requires c = All-at HasRecord c.args.batch.now c.loop-n.n c.get.result.now c.requires c.get.ensures

pub loop-n-preserved : goal.loop-n-preserved
loop-n-preserved c =
    let batch = c.args.batch.now in
    let one = c.get.result.now in
    let more = take-one_more batch c.loop-n.n one c.get.ensures in
    let front = take c.loop-n.n batch in
    record {
      bytes = c.in_ok-write_primitive.ensures.bytes
          ∙ ap (λ (l : List ℕ). l ++ spelling (record_of one)) c.loop-n.invariant.bytes
          ∙ append_assoc c.args.out.now.items (records front) (spelling (record_of one))
          ∙ ap (λ (l : List ℕ). c.args.out.now.items ++ l) (sym (records-push front one) ∙ ap records (sym more));
      writable = subst (AllByRecursion IsWritable) (sym more)
          (All-push IsWritable front one c.loop-n.invariant.writable c.in_ok-write_primitive.ensures.writable);
    }
