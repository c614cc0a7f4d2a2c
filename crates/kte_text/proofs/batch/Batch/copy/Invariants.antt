use Rattle.std.proofs.Common.{◌≡◌, take}
use Rattle.kte_text.proofs.batch.Batch.copy.Given as goal

-- the copies so far are those of the primitives so far
abbrev pub invariant-loop-primitive : goal.invariant-loop-primitive
invariant-loop-primitive l = l.primitives.items ≡ take l.primitive-index l.primitive-items
