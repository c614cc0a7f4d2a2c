use Rattle.std.proofs.Common.{◌≡◌, ◌+◌, ◌-◌, ◌++◌, List, ℕ, length, take, drop, ap, ◌∙◌, arith}
use Rattle.kte_record.specs.Grammar.{number}
use Rattle.kte_swap.proofs.Bytes.{put_mid-is}
use Rattle.kte_swap.proofs.writing.put_number.Goals as goal

pub returns : goal.returns
returns c =
    let at = c.args.at in
    let old = c.args.bytes.now in
    let new = c.copy_from_slice.new.self in
    let is : new ≡ number c.args.n = c.copy_from_slice.ensures.after ∙ c.to_be_bytes.ensures in
    put_mid-is at (at + 4 - at) (at + 4) old new (omega arith) (omega arith) (omega (arith, ap length is))
    ∙ ap (λ (l : List ℕ). take at old ++ l ++ drop (at + 4) old) is
