use Rattle.std.proofs.Common.{Option, IsTrue, IfSome, refl}
use Rattle.kte_place.specs.declared.span.Empty.TheVariants.{Void}
use Rattle.kte_place.specs.Ends.{Ends}
use Rattle.kte_place.specs.Span.{carry_span}
use Rattle.kte_fold.specs.Folds.{Spans, has_span}
use Rattle.kte_fold.specs.Laws.{FoldsAreIn, AreCarried, grows_at_no_end}
use Rattle.kte_fold.specs.Examples.{three_spans}
use Rattle.kte_fold.proofs.SpanLemmas.{three_hold, three_changed}
use Rattle.kte_fold.proofs.tests.carry.Goals as goal

pub returns : goal.returns
returns c =
    let ranges = c.args.ranges.now in
    let old : Spans = three_spans ranges.one ranges.two ranges.three in
    let new : Spans = three_spans c.carried-ranges.result c.carried-ranges-2.result c.carried-ranges-3.result in
    let numbers = c.args.folds.now.numbers in
    let are_in : FoldsAreIn c.args.text.now old numbers =
    λ id h. three_hold (λ (o : Option Ends). IfSome o (λ s. IsTrue (has_span c.args.text.now s))) ranges.one ranges.two
    ranges.three (c.if-not-is_in.ensures.inside refl) (c.if-not-is_in-2.ensures.inside refl)
    (c.if-not-is_in-3.ensures.inside refl) tt id in
    let are_carried : AreCarried c.args.entry old new numbers =
    λ id h. rw (c.carried-ranges.ensures, c.carried-ranges-2.ensures, c.carried-ranges-3.ensures)
    (three_changed (λ (o : Option Ends). carry_span c.args.entry o grows_at_no_end Void) ranges.one ranges.two ranges.three
    refl id) in
    c.carrying.ensures c.args.text.now c.args.entry old new numbers c.args.folds.now.inside
    (c.if-not-is_entry_of.ensures.entry refl) are_in are_carried c.requires
