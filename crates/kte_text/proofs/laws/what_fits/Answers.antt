use Rattle.kte_text.proofs.PrimitiveLemmas.{FitsText-from_misfit, misfit-from_FitsText}
use Rattle.kte_text.proofs.laws.what_fits.Goals as goal

pub returns-clause-none_fits : goal.returns-clause-none_fits
returns-clause-none_fits c = FitsText-from_misfit

pub returns-clause-fits_none : goal.returns-clause-fits_none
returns-clause-fits_none c = misfit-from_FitsText
