use Rattle.std.proofs.Common.{◌≡◌, ◌<◌, ◌≤◌, append-nil, ◌+◌, ◌-◌, ◌++◌, ◌∷◌, [], ℕ, List, take, drop, length, subst, sym, ap, ◌∙◌, arith}
use Rattle.std.specs.Int.{w32, from_be_bytes}
use Rattle.std.proofs.lemmas.List.{get_or-drop, take_all, length-drop, drop-drop}
use Rattle.kte_record.specs.Grammar.{number}
use Rattle.kte_record.proofs.NumberLemmas.{read_cut, read_whole, AreBytes}
use Rattle.kte_record.proofs.reading.number_at.Goals as goal

bytes_after : (bytes : List ℕ) (at : ℕ) → AreBytes bytes → AreBytes (drop at bytes)
bytes_after bytes at h i = subst (λ (n : ℕ). n < 256) (sym (get_or-drop at bytes i 0)) (h (at + i))

-- all bytes from the offset on
all_of : (bytes : List ℕ) (at : ℕ) → take (length bytes - at) (drop at bytes) ≡ drop at bytes
all_of bytes at = take_all (length bytes - at) (drop at bytes) (omega (arith, length-drop at bytes))

pub returns-then-count-lt4 : goal.returns-then-count-lt4
returns-then-count-lt4 c =
    let rest = drop c.args.at c.args.bytes.now in
    let all = all_of c.args.bytes.now c.args.at in
    let count : c.min-count.result ≡ length rest =
    omega (arith, c.min-count.ensures, c.if-count-lt4.true, ap length all) in
    let copied : c.copy_from_slice.new.self ≡ take (length rest) rest =
    c.copy_from_slice.ensures.after ∙ ap (λ (n : ℕ). take n (take (length c.args.bytes.now - c.args.at) rest)) count ∙ ap (take (length rest)) all in
    let is : c.from_be_bytes-number.result ≡ from_be_bytes w32 (c.copy_from_slice.new.self ++ drop c.min-count.result (0 ∷ 0 ∷ 0 ∷ 0 ∷ [])) = c.from_be_bytes-number.ensures in
    read_cut rest c.args.most c.from_be_bytes-number.result (bytes_after c.args.bytes.now c.args.at (λ i. omega (arith, c.type_inv.bytes i)))
    (omega (arith, count, c.if-count-lt4.true)) c.if-number-most.false
    (is ∙ ap (λ (n : ℕ). from_be_bytes w32 (c.copy_from_slice.new.self ++ drop n (0 ∷ 0 ∷ 0 ∷ 0 ∷ []))) count
    ∙ ap (λ (l : List ℕ). from_be_bytes w32 (l ++ drop (length rest) (0 ∷ 0 ∷ 0 ∷ 0 ∷ []))) copied)

pub returns : goal.returns
returns c =
    let rest = drop c.args.at c.args.bytes.now in
    let all = all_of c.args.bytes.now c.args.at in
    let count : c.min-count.result ≡ 4 =
    omega (arith, c.min-count.ensures, c.if-count-lt4.false) in
    let long : 4 ≤ length rest =
    omega (arith, c.min-count.ensures, c.if-count-lt4.false, ap length all) in
    let copied : c.copy_from_slice.new.self ≡ take 4 rest =
    c.copy_from_slice.ensures.after ∙ ap (λ (n : ℕ). take n (take (length c.args.bytes.now - c.args.at) rest)) count ∙ ap (take 4) all in
    let is : c.from_be_bytes-number.result ≡ from_be_bytes w32 (c.copy_from_slice.new.self ++ drop c.min-count.result (0 ∷ 0 ∷ 0 ∷ 0 ∷ [])) = c.from_be_bytes-number.ensures in (
      c.if-number-most.false,
      read_whole rest c.from_be_bytes-number.result (bytes_after c.args.bytes.now c.args.at (λ i. omega (arith, c.type_inv.bytes i))) long
          (is ∙ ap (λ (n : ℕ). from_be_bytes w32 (c.copy_from_slice.new.self ++ drop n (0 ∷ 0 ∷ 0 ∷ 0 ∷ []))) count
          ∙ ap (λ (l : List ℕ). from_be_bytes w32 (l ++ [])) copied ∙ ap (from_be_bytes w32) (append-nil (take 4 rest)))
          ∙ ap (λ (l : List ℕ). number c.from_be_bytes-number.result ++ l) (drop-drop 4 c.args.at c.args.bytes.now),
    )
