use Rattle.std.proofs.Common.{◌∙◌, [], ◌∷◌, ◌++◌, map, take, sym, ap, append_assoc}
use Rattle.std.proofs.lemmas.List.{append-nil, map-append, take_all, take_more}
use Rattle.kte_find.specs.declared.found.TheConstants.{MAX_FINDINGS}
use Rattle.kte_find.specs.Findings.{span_of}
use Rattle.kte_find.proofs.FirstLemmas.{take-take-append, take_few}
use Rattle.kte_find.proofs.brackets.note_all.Goals as goal

pub loop-bracket-init : goal.loop-bracket-init
loop-bracket-init c = sym (ap (take MAX_FINDINGS) (append-nil c.args.found.now) ∙ take_all MAX_FINDINGS c.args.found.now c.requires)

pub note-requires : goal.note-requires
note-requires c = rw c.loop-bracket.invariant (take_few MAX_FINDINGS _)

pub loop-bracket-preserved : goal.loop-bracket-preserved
loop-bracket-preserved c =
    let n = c.loop-bracket.bracket-index in
    let brackets = c.args.brackets.now in
    let before = map span_of (take n brackets) in
    let item = c.bracket-item.result in
    let more = take_more brackets n item c.loop-bracket-test.true in
    c.in_ok-note.ensures
    ∙ ap (λ s. take MAX_FINDINGS (c.loop-bracket.found ++ s ∷ [])) c.span.ensures
    ∙ ap (λ xs. take MAX_FINDINGS (xs ++ span_of item ∷ [])) c.loop-bracket.invariant
    ∙ take-take-append MAX_FINDINGS (c.args.found.now ++ before) (span_of item ∷ [])
    ∙ ap (take MAX_FINDINGS) (append_assoc c.args.found.now before (span_of item ∷ []))
    ∙ ap (λ xs. take MAX_FINDINGS (c.args.found.now ++ xs)) (sym (map-append span_of (take n brackets) (item ∷ [])))
    ∙ ap (λ x. take MAX_FINDINGS (c.args.found.now ++ map span_of (take n brackets ++ x ∷ []))) c.bracket-item.is
    ∙ ap (λ xs. take MAX_FINDINGS (c.args.found.now ++ map span_of xs)) (sym more)
