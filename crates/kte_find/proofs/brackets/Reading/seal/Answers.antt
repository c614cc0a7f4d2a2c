use Rattle.std.proofs.Common.{[], ◌∷◌, ◌++◌, map}
use Rattle.kte_find.specs.declared.found.TheConstants.{MAX_FINDINGS}
use Rattle.kte_find.specs.Findings.{span_of}
use Rattle.kte_find.proofs.FirstLemmas.{take-take-append, take_few}
use Rattle.kte_find.proofs.brackets.Reading.seal.Goals as goal

pub note-requires : goal.note-requires
note-requires c = rw c.in_ok-note_all.ensures (take_few MAX_FINDINGS _)

pub returns-clause-found : goal.returns-clause-found
returns-clause-found c =
    rw (← take-take-append MAX_FINDINGS (c.args.self.now.found ++ map span_of c.args.self.now.opened.items) (span_of c.args.bracket ∷ []))
    (rw (c.in_ok-note_all.ensures, c.as_slice.ensures.value, c.span.ensures) at c.note.ensures)
