use Rattle.kte_undo.proofs.InverseLemmas.{fits_back, leads_back, keeps_inverse}
use Rattle.kte_undo.proofs.laws.inverses_lead_back.Goals as goal

pub returns : goal.returns
returns c = record { fits = fits_back; back = leads_back; kept = keeps_inverse }
