use Rattle.kte_undo.proofs.InverseLemmas.{undoes, redoes}
use Rattle.kte_undo.proofs.laws.groups_are_undone_and_redone.Goals as goal

pub returns : goal.returns
returns c = record {
  undo = λ ps text whole has fit. (undoes ps text whole has fit).fit;
  back = λ ps text whole has fit. (undoes ps text whole has fit).leads;
  redo = λ ps text whole has fit. redoes ps text fit;
}
