use Rattle.kte_text.specs.declared.primitive.Primitive.TheVariants.{Remove}
use Rattle.kte_undo.specs.Steps.{IsOfText}
use Rattle.kte_undo.proofs.GroupLemmas.{cut_is_line}
use Rattle.kte_undo.proofs.step.Step.of.Goals as goal

pub copied-requires-in-Remove-clause-line : goal.copied-requires-in-Remove-clause-line
copied-requires-in-Remove-clause-line c =
    let told : IsOfText (Remove c.in-Remove.line c.in-Remove.column c.in-Remove.length) c.args.cut.now c.args.old =
    rw c.in-Remove.is at c.requires.text in
    cut_is_line c.in-Remove.line c.in-Remove.column c.in-Remove.length c.args.cut.now c.args.old told
