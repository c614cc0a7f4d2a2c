use Rattle.std.proofs.Common.{◌<◌, length, arith, ◌∙◌, ap, sym, subst, IsTrue, Some}
use Rattle.kte_place.specs.Ends.{Ends}
use Rattle.kte_place.specs.Place.{is_at_or_before}
use Rattle.kte_doc.proofs.Calls.{hangs_of}
use Rattle.kte_doc.proofs.OneRange.{span_of-HangAt, span_of-invalid, holds_first, holds_second, settle_ordered}
use Rattle.kte_doc.proofs.Looks.{answer_none, answer_some, span_at}
use Rattle.kte_doc.proofs.document.Doc.range.Goals as goal

pub returns-in_default-clause-span : goal.returns-in_default-clause-span
returns-in_default-clause-span c =
    answer_none _ _ _ c.args.id _ (ap (λ d. d.ranges) c.self.view_is) (sym c.get.ensures ∙ c.in_default.is)

pub returns-in_default-cursors-clause-span : goal.returns-in_default-cursors-clause-span
returns-in_default-cursors-clause-span c =
    answer_some _ _ _ c.args.id _ c.in-Some.info _ (ap (λ d. d.ranges) c.self.view_is) (sym c.get.ensures ∙ c.in-Some.is)
    (span_of-invalid _ c.in-Some.info c.in_default-cursors.is)

pub place-start-requires : goal.place-start-requires
place-start-requires c =
    hangs_of _ _ _ _ c.args.id c.in-Some.info c.self.invariant.cursors (sym c.get.ensures ∙ c.in-Some.is) c.in-Some-cursors.start
    (holds_first c.in-Some.info _ c.in-Some-cursors.is)

pub place-end-requires : goal.place-end-requires
place-end-requires c =
    hangs_of _ _ _ _ c.args.id c.in-Some.info c.self.invariant.cursors (sym c.get.ensures ∙ c.in-Some.is) c.in-Some-cursors.end
    (holds_second c.in-Some.info _ c.in-Some-cursors.is)

pub invariant_of-result : goal.invariant_of-result
invariant_of-result c =
    let at = c.self.invariant.cursors.hang c.args.id c.in-Some.info _ (sym c.get.ensures ∙ c.in-Some.is) c.in-Some-cursors.is in
    let same = span_at _ _ _ c.in-Some.info _ at.0 _ _ c.in-Some-cursors.is at.1 c.place-start.ensures c.place-end.ensures in
    subst (λ (s : Ends). IsTrue (is_at_or_before s.start s.end)) (sym same)
    (settle_ordered at.0.start at.0.end c.in-Some.info.empty at.0 at.1.stands.settled)

pub returns-clause-span : goal.returns-clause-span
returns-clause-span c =
    let at = c.self.invariant.cursors.hang c.args.id c.in-Some.info _ (sym c.get.ensures ∙ c.in-Some.is) c.in-Some-cursors.is in
    let same = span_at _ _ _ c.in-Some.info _ at.0 _ _ c.in-Some-cursors.is at.1 c.place-start.ensures c.place-end.ensures in
    answer_some _ _ _ c.args.id _ c.in-Some.info _ (ap (λ d. d.ranges) c.self.view_is) (sym c.get.ensures ∙ c.in-Some.is)
    (span_of-HangAt _ _ _ c.in-Some.info _ at.0 c.in-Some-cursors.is at.1 ∙ ap (λ (s : Ends). Some s) (sym same))

pub returns-clause-lines : goal.returns-clause-lines
returns-clause-lines c =
    let at = c.self.invariant.cursors.hang c.args.id c.in-Some.info _ (sym c.get.ensures ∙ c.in-Some.is) c.in-Some-cursors.is in
    let same = span_at _ _ _ c.in-Some.info _ at.0 _ _ c.in-Some-cursors.is at.1 c.place-start.ensures c.place-end.ensures in
    let text = ap (λ d. length d.text) c.self.view_is in
    subst (λ (s : Ends). (s.start.line < length c.args.self.now.text) × (s.end.line < length c.args.self.now.text)) (sym same)
    (omega (arith, at.1.stands.start_within.line, text), omega (arith, at.1.stands.end_within.line, text))
