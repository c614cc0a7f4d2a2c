use Rattle.std.proofs.Common.{◌≡◌, ◌+◌, ◌-◌, length, take, drop, arith, length-take}
use Rattle.kte_causes.proofs.Parts.{front_and_rest}
use Rattle.kte_causes.proofs.streams.CalmSourceSource.read.Goals as goal

pub returns-clause-bytes : goal.returns-clause-bytes
returns-clause-bytes c =
    let count = c.min-count.result in
    let at = c.self.inside.at in
    let bytes = c.self.inside.bytes.items in
    let piece = c.copy_from_slice.new.self in
    let range : (at + count) - at ≡ count = omega arith in
    let copied : piece ≡ take count (drop at bytes) = cc (c.copy_from_slice.ensures.after, c.deref.ensures.value, range) in
    let len : length piece ≡ count = omega (arith, c.copy_from_slice.ensures.len, c.min-count.ensures, length-take count c.args.buf.now) in
    rw (← c.self.view_is) (front_and_rest count at bytes piece (drop count c.args.buf.now) len copied)
