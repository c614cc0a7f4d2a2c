use Rattle.std.proofs.Common.{◌≡◌, Some, sym, ap, ◌∙◌}
use Rattle.kte_place.specs.Span.{ends, settle}
use Rattle.kte_ranges.proofs.OneRange.{span_is, settled_is, end_moves, start_stays, taken, taken_others, moved, moved_others, second_hangs}
use Rattle.kte_ranges.proofs.info.RangeInfo.settle.Goals as goal

pub unhang-requires-in-None : goal.unhang-requires-in-None
unhang-requires-in-None g c =
    rw c.unhang.ensures.cursors (second_hangs _ c.args.self.now (c.in-Some.start, c.in-Some.end) c.requires.hang c.requires.two c.in-Some.is)

pub rehome-requires-clause-line : goal.rehome-requires-clause-line
rehome-requires-clause-line g c =
    let s : settle c.place-first.result c.place-last.result c.args.self.now.empty ≡ Some (ends c.span.inside.start c.span.inside.end) = sym c.settle.ensures ∙ c.in-Some-settle.is ∙ ap Some (sym c.span.view_is) in
    let goes = end_moves c.args.self.now.empty c.place-first.result c.place-last.result c.span.inside.start c.span.inside.end s (sym c.ne.ensures ∙ c.if-ne.true) in
    rw goes.0 (c.requires.ready (ends c.place-first.result c.place-last.result) (span_is _ c.args.self.now (c.in-Some.start, c.in-Some.end) _ _ c.in-Some.is c.place-first.ensures c.place-last.ensures) goes.1).0

pub rehome-requires-clause-column : goal.rehome-requires-clause-column
rehome-requires-clause-column g c =
    let s : settle c.place-first.result c.place-last.result c.args.self.now.empty ≡ Some (ends c.span.inside.start c.span.inside.end) = sym c.settle.ensures ∙ c.in-Some-settle.is ∙ ap Some (sym c.span.view_is) in
    let goes = end_moves c.args.self.now.empty c.place-first.result c.place-last.result c.span.inside.start c.span.inside.end s (sym c.ne.ensures ∙ c.if-ne.true) in
    rw goes.0 (c.requires.ready (ends c.place-first.result c.place-last.result) (span_is _ c.args.self.now (c.in-Some.start, c.in-Some.end) _ _ c.in-Some.is c.place-first.ensures c.place-last.ensures) goes.1).1

pub returns-in-None-clause-cursors : goal.returns-in-None-clause-cursors
returns-in-None-clause-cursors g c =
    rw (c.unhang-in-None.ensures.cursors, c.unhang.ensures.cursors)
    (taken _ c.args.self.now (c.in-Some.start, c.in-Some.end) c.in-Some.is
    (settled_is _ c.args.self.now (c.in-Some.start, c.in-Some.end) _ _ c.in-Some.is c.place-first.ensures c.place-last.ensures ∙ sym c.settle.ensures ∙ c.in-None.is))

pub returns-in-None-clause-others : goal.returns-in-None-clause-others
returns-in-None-clause-others g c =
    rw (c.unhang-in-None.ensures.cursors, c.unhang.ensures.cursors)
    (taken_others _ c.args.self.now (c.in-Some.start, c.in-Some.end) c.in-Some.is)

pub returns-then-ne-clause-cursors : goal.returns-then-ne-clause-cursors
returns-then-ne-clause-cursors g c =
    let s : settle c.place-first.result c.place-last.result c.args.self.now.empty ≡ Some (ends c.span.inside.start c.span.inside.end) = sym c.settle.ensures ∙ c.in-Some-settle.is ∙ ap Some (sym c.span.view_is) in
    let same = start_stays c.args.self.now.empty c.place-first.result c.place-last.result c.span.inside.start c.span.inside.end s in
    rw c.rehome.ensures.cursors
    (moved _ c.args.self.now (c.in-Some.start, c.in-Some.end) c.place-first.result c.span.inside.end c.requires.two c.in-Some.is c.place-first.ensures
    (settled_is _ c.args.self.now (c.in-Some.start, c.in-Some.end) _ _ c.in-Some.is c.place-first.ensures c.place-last.ensures ∙ s ∙ ap (λ x. Some (ends x c.span.inside.end)) same))

pub returns-then-ne-clause-others : goal.returns-then-ne-clause-others
returns-then-ne-clause-others g c =
    rw c.rehome.ensures.cursors (moved_others _ c.args.self.now (c.in-Some.start, c.in-Some.end) c.span.inside.end c.in-Some.is)
