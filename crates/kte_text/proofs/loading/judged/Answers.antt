use Rattle.std.proofs.Common.{◌≡◌, ℕ, List, length, take, drop, ◌-◌, refl, ap, ◌∙◌, arith}
use Rattle.std.specs.Str.{IsUtf8}
use Rattle.kte_text.specs.Reading.{file_size, mark_len, text_size}
use Rattle.kte_text.proofs.FileLemmas.{Refuses-large, file_size-le}
use Rattle.kte_text.proofs.SplitLemmas.{rest_is}
use Rattle.kte_text.proofs.loading.judged.Goals as goal
use Rattle.kte_text.proofs.loading.judged.Goals.{then-rest-gt-MAX_SIZE+else-size-gt-MAX_SIZE, else-rest-gt-MAX_SIZE}

rest : (bytes : List ℕ) (n : ℕ) → n ≡ mark_len bytes → take (length bytes - n) (drop n bytes) ≡ drop (mark_len bytes) bytes
rest bytes n e = rest_is bytes bytes n refl ∙ ap (λ k. drop k bytes) e

size : (bytes : List ℕ) (n k : ℕ) → n ≡ mark_len bytes → k ≡ text_size (take (length bytes - n) (drop n bytes)) → k ≡ file_size bytes
size bytes n k e is = is ∙ ap text_size (rest bytes n e)

pub returns-then-size-gt-MAX_SIZE-clause-refused : goal.returns-then-size-gt-MAX_SIZE-clause-refused
returns-then-size-gt-MAX_SIZE-clause-refused c =
    let bytes = c.args.bytes.now in
    let utf8 : IsUtf8 bytes = c.in-Ok.ensures.cases.1 in
    let is = size bytes c.mark_len.result c.text_size-size.result c.mark_len.ensures.len c.text_size-size.ensures in
    rw is (Refuses-large bytes c.if-bytes-gt-MAX_FILE_LENGTH.false utf8 (rw is at c.if-size-gt-MAX_SIZE.true))

pub returns-clause-small : goal.returns-clause-small
returns-clause-small c =
    let bytes = c.args.bytes.now in
    let utf8 : IsUtf8 bytes = c.in-Ok.ensures.cases.1 in
    elim c.if-rest-gt-MAX_SIZE.branch [
      | then-rest-gt-MAX_SIZE+else-size-gt-MAX_SIZE w ↦
          let is = size bytes c.mark_len.result w.text_size-size.result c.mark_len.ensures.len w.text_size-size.ensures in
          let small = w.if-size-gt-MAX_SIZE.false in
          omega (arith, is, small)
      | else-rest-gt-MAX_SIZE w ↦
          let few = file_size-le bytes utf8 in
          let short = w.if-rest-gt-MAX_SIZE.false in
          let same = ap length (rest bytes c.mark_len.result c.mark_len.ensures.len) in
          omega (arith, few, short, same)
    ]
