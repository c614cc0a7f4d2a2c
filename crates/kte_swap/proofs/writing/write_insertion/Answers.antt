use Rattle.std.proofs.Common.{◌≡◌, ◌++◌, ◌+◌, ◌-◌, [], length, take, drop, List, ℕ, ap, ◌∙◌, arith}
use Rattle.std.proofs.lemmas.List.{length-append, take_at}
use Rattle.kte_text.specs.Units.{utf8_of}
use Rattle.kte_record.specs.Grammar.{inserts, number, spelling}
use Rattle.kte_swap.proofs.Bytes.{insertion-bytes}
use Rattle.kte_swap.proofs.writing.write_insertion.Goals as goal

pub returns-clause-bytes : goal.returns-clause-bytes
returns-clause-bytes c =
    let before = c.args.out.now.items in
    let text = utf8_of c.args.text.now in
    let empty = spelling (inserts c.args.line c.args.column []) in
    let items = c.push_utf8.new.out.items in
    let first : c.write.new.out.items ≡ before ++ empty = c.in_ok-write.ensures.ok in
    let whole : items ≡ (before ++ empty) ++ text =
    c.in_ok-push_utf8.ensures.ok ∙ ap (λ (l : List ℕ). l ++ utf8_of c.units.result.now) first
    ∙ ap (λ (u : List ℕ). (before ++ empty) ++ utf8_of u) c.units.ensures.units in
    let start : c.len-start.result ≡ length before + 13 =
    omega (arith, c.len-start.ensures, ap length first, length-append before empty, c.write.new.out.ok) in
    let count : c.len.result - c.len-start.result ≡ length text =
    omega (arith, c.len.ensures, ap length whole, length-append (before ++ empty) text, length-append before empty, start, c.push_utf8.new.out.ok) in
    let at = c.len-start.result in
    let new = c.put_number.new.bytes in
    let put : new ≡ take (at - 4) items ++ number (length text) ++ drop (at - 4 + 4) items =
    c.put_number.ensures ∙ ap (λ (l : List ℕ). take (at - 4) l ++ number (c.len.result - at) ++ drop (at - 4 + 4) l) c.deref_mut.ensures.value
    ∙ ap (λ (n : ℕ). take (at - 4) items ++ number n ++ drop (at - 4 + 4) items) count in
    let same : length new ≡ length items = c.put_number.auto.bytes ∙ ap length c.deref_mut.ensures.value in
    take_at new (drop (length new) items) c.push_utf8.new.out.len (omega (arith, same, c.push_utf8.new.out.ok))
    ∙ put ∙ insertion-bytes before items c.args.line c.args.column text at whole start
