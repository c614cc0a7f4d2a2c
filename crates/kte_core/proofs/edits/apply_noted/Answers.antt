use Rattle.std.proofs.Common.{◌≡◌, false}
use Rattle.std.specs.Prelude.{is_err}
use Rattle.kte_core.proofs.StepLemmas.{applied_more, fits_next, lines_more, noted_more, on_success}
use Rattle.kte_core.proofs.edits.apply_noted.Goals as goal

pub apply_and_note-requires-clause-fits : goal.apply_and_note-requires-clause-fits
apply_and_note-requires-clause-fits c =
    let invariant = c.loop-done.invariant in
    (fits_next c.args.primitives.now c.loop-done.done c.get.result.now c.loop-done.doc.text c.get.ensures invariant.applied.fit).fits

pub apply_and_note-requires-clause-some : goal.apply_and_note-requires-clause-some
apply_and_note-requires-clause-some c =
    let invariant = c.loop-done.invariant in
    (fits_next c.args.primitives.now c.loop-done.done c.get.result.now c.loop-done.doc.text c.get.ensures invariant.applied.fit).some

pub loop-done-preserved : goal.loop-done-preserved
loop-done-preserved c =
    let ps = c.args.primitives.now in
    let n = c.loop-done.done in
    let p = c.get.result.now in
    let result = c.apply_and_note.result in
    let fine : is_err result ≡ false = cc in
    record {
      applied = applied_more ps n p c.args.doc.now c.loop-done.doc c.apply_and_note.new.doc result c.get.ensures c.loop-done.invariant.applied fine
          c.apply_and_note.ensures.after;
      lines = lines_more ps n p c.get.ensures c.loop-done.invariant.lines c.apply_and_note.ensures.line;
      noted = noted_more ps n p c.args.doc.now.text c.loop-done.doc.text c.args.undo.now.edits c.loop-done.undo.edits c.apply_and_note.new.undo.edits
          c.get.ensures c.loop-done.invariant.applied.after.text c.loop-done.invariant.noted
          (on_success result _ fine c.apply_and_note.ensures.noted);
    }
