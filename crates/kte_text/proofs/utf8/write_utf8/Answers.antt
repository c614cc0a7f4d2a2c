use Rattle.std.proofs.Common.{ℕ, ◌≡◌, ◌<◌, ◌∙◌, length, sum_by, All, sym, arith}
use Rattle.kte_text.specs.Utf8.{width}
use Rattle.kte_text.proofs.Utf8Lemmas.{length-utf8_of, ascii-from_width, utf8-ascii}
use Rattle.kte_text.proofs.utf8.write_utf8.Goals as goal

pub write_ascii-requires-clause-ascii : goal.write_ascii-requires-clause-ascii
write_ascii-requires-clause-ascii c =
    let units = c.args.units.now in
    let line = c.requires.line in
    ascii-from_width units (omega (arith, length-utf8_of units line))

pub returns-then-room-units : goal.returns-then-room-units
returns-then-room-units c =
    let units = c.args.units.now in
    let line = c.requires.line in
    let ascii = ascii-from_width units (omega (arith, length-utf8_of units line)) in
    c.write_ascii.ensures ∙ sym (utf8-ascii units ascii)
