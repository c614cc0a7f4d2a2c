use Rattle.std.proofs.Common.{ℕ, ◌≡◌, ◌<◌, ◌≤◌, ◌+◌, length, arith, length-set}
use Rattle.kte_text.proofs.Utf8Lemmas.{encode_two, encode_three, encode_four, two_bytes, three_bytes, four_bytes, take-two_sets, take-three_sets, take-four_sets}
use Rattle.kte_text.proofs.utf8.write_char.Goals as goal

pub bounds-room-at-then-code-lt2048-2 : goal.bounds-room-at-then-code-lt2048-2
bounds-room-at-then-code-lt2048-2 c = omega (arith, two_bytes c.args.code (omega arith) (omega arith), length-set {A = ℕ})

pub returns-then-code-lt2048-clause-written : goal.returns-then-code-lt2048-clause-written
returns-then-code-lt2048-clause-written c =
    let code = c.args.code in
    let from : 0x80 ≤ code = omega arith in
    let below : code < 0x800 = omega arith in
    let n = two_bytes code from below in
    rw (encode_two code from below, c.continuation.ensures) (take-two_sets c.args.room.now c.args.at _ _ (omega (arith, n)))

pub bounds-room-at-then-code-lt65536-2 : goal.bounds-room-at-then-code-lt65536-2
bounds-room-at-then-code-lt65536-2 c = omega (arith, three_bytes c.args.code (omega arith) (omega arith), length-set {A = ℕ})

pub bounds-room-at-then-code-lt65536-3 : goal.bounds-room-at-then-code-lt65536-3
bounds-room-at-then-code-lt65536-3 c = omega (arith, three_bytes c.args.code (omega arith) (omega arith), length-set {A = ℕ})

pub returns-then-code-lt65536-clause-written : goal.returns-then-code-lt65536-clause-written
returns-then-code-lt65536-clause-written c =
    let code = c.args.code in
    let from : 0x800 ≤ code = omega arith in
    let below : code < 0x10000 = omega arith in
    let n = three_bytes code from below in
    rw (encode_three code from below, c.continuation-then-code-lt65536.ensures, c.continuation-then-code-lt65536-2.ensures)
    (take-three_sets c.args.room.now c.args.at _ _ _ (omega (arith, n)))

pub bounds-room-at-3 : goal.bounds-room-at-3
bounds-room-at-3 c = omega (arith, four_bytes c.args.code (omega arith), length-set {A = ℕ})

pub bounds-room-at-4 : goal.bounds-room-at-4
bounds-room-at-4 c = omega (arith, four_bytes c.args.code (omega arith), length-set {A = ℕ})

pub bounds-room-at-5 : goal.bounds-room-at-5
bounds-room-at-5 c = omega (arith, four_bytes c.args.code (omega arith), length-set {A = ℕ})

pub returns-clause-written : goal.returns-clause-written
returns-clause-written c =
    let code = c.args.code in
    let from : 0x10000 ≤ code = omega arith in
    let n = four_bytes code from in
    rw (encode_four code from, c.continuation-2.ensures, c.continuation-3.ensures, c.continuation-4.ensures)
    (take-four_sets c.args.room.now c.args.at _ _ _ _ (omega (arith, n)))
