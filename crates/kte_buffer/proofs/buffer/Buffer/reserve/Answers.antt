use Rattle.std.proofs.Common.{ap, ◌∙◌, sym, subst}
use Rattle.kte_text.specs.Primitives.{FitsText, misfit}
use Rattle.kte_text.proofs.PrimitiveLemmas.{FitsText-from_misfit}
use Rattle.kte_buffer.specs.Rows.{lines_in}
use Rattle.kte_buffer.proofs.buffer.Buffer.reserve.Goals as goal

pub reserve-requires-clause-fits : goal.reserve-requires-clause-fits
reserve-requires-clause-fits c =
    FitsText-from_misfit _ _ (ap (λ b. misfit c.args.primitive.now b.text) c.self.view_is ∙ c.requires.fits)

pub entry_of-requires : goal.entry_of-requires
entry_of-requires c =
    subst (FitsText c.args.primitive.now) (sym (ap lines_in c.as_slice.ensures.value ∙ c.in_ok-reserve.ensures.rows.lines))
    (FitsText-from_misfit _ _ (ap (λ b. misfit c.args.primitive.now b.text) c.self.view_is ∙ c.requires.fits))
