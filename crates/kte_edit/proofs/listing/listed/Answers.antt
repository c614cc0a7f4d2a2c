use Rattle.kte_edit.proofs.JudgeLemmas.{replace_is_small}
use Rattle.kte_edit.proofs.listing.listed.Goals as goal

pub insert-requires-in-Replace-clause-column : goal.insert-requires-in-Replace-clause-column
insert-requires-in-Replace-clause-column g c =
    let T = g.L.Lines.text c.args.lines.now in
    let none = rw c.in-Replace.is at c.requires.fit in
    rw (← c.span.view_is) at (replace_is_small T c.in-Replace.span c.in-Replace.text c.requires.is_text none).1
