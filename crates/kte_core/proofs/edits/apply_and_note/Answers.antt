use Rattle.std.proofs.Common.{ap, ◌∙◌, List, ℕ}
use Rattle.kte_undo.specs.Steps.{step, old_of}
use Rattle.kte_text.proofs.PrimitiveLemmas.{FitsText-from_misfit}
use Rattle.kte_core.proofs.edits.apply_and_note.Goals as goal

pub note-requires-clause-text : goal.note-requires-clause-text
note-requires-clause-text c = record {
  text = c.args.doc.now.text;
  whole = c.in_ok-cut.ensures.is_text;
  fits = FitsText-from_misfit c.args.primitive.now c.args.doc.now.text c.requires.fits;
  same = c.in_ok-entry.ensures.old c.deref-2.result.now
      ∙ ap (λ (cut : List ℕ). step c.args.primitive.now cut (old_of c.args.primitive.now c.args.doc.now.text)) (c.deref-2.ensures.value ∙ c.in_ok-cut.ensures.cut);
}
