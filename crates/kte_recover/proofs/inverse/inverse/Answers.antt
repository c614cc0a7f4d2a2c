use Rattle.std.proofs.Common.{◌≡◌, ℕ, List, [], subst, sym}
use Rattle.kte_text.specs.Units.{IsLine}
use Rattle.kte_text.proofs.PrimitiveLemmas.{line-from_misfit}
use Rattle.kte_recover.proofs.inverse.inverse.Goals as goal

pub removed-requires-clause-line : goal.removed-requires-clause-line
removed-requires-clause-line c =
    let inside = line-from_misfit c.args.primitive.now c.args.buffer.now.text c.requires.fits in
    subst IsLine (sym c.line-in-Remove.ensures)
    (c.requires.text.whole c.in-Remove.line [] (rw c.in-Remove.is at inside))
