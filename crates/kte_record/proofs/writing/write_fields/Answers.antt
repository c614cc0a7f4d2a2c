use Rattle.std.proofs.Common.{◌++◌, ◌+◌, List, ℕ, get_or, drop, sym, ap, ◌∙◌, append_assoc, arith}
use Rattle.std.specs.List.{flat_map}
use Rattle.std.proofs.lemmas.List.{drop_more}
use Rattle.kte_record.specs.Grammar.{number}
use Rattle.kte_record.proofs.writing.write_fields.Goals as goal

pub loop-number-preserved : goal.loop-number-preserved
loop-number-preserved c =
    let i = c.loop-number.number-index in
    let numbers = c.args.numbers.now in
    let rest = flat_map number (drop (i + 1) numbers) in
    let items = rw c.unwrap-in-loop-number.ensures at c.extend_from_slice.ensures.items in
    let len = rw c.unwrap-in-loop-number.ensures at c.extend_from_slice.ensures.len in
    let one = number (get_or numbers i 0) in
    record {
      written = ap (λ (l : List ℕ). l ++ rest) (items ∙ ap (λ (l : List ℕ). c.loop-number.out.items ++ l) c.to_be_bytes.ensures) ∙ append_assoc c.loop-number.out.items one rest
          ∙ ap (λ (l : List ℕ). c.loop-number.out.items ++ l) (sym (ap (flat_map number) (drop_more numbers i 0 c.loop-number-test.true)))
          ∙ c.loop-number.invariant.written;
      room = omega (arith, len, c.loop-number.invariant.room, c.extend_from_slice.ensures.capacity, c.loop-number-test.true);
    }
