use Rattle.kte_search.proofs.FoundLemmas.{picks_first, picks_no_first, picks_last, picks_no_last, picks_all}
use Rattle.kte_search.proofs.laws.picked_from_all.Goals as goal

pub returns : goal.returns
returns c = record {
  first = picks_first;
  none_from = picks_no_first;
  last = picks_last;
  none_to = picks_no_last;
  all = picks_all;
}
