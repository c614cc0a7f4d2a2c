use Rattle.std.proofs.Common.{◌≡◌, ℕ, ◌+◌, ◌<◌, length, slice_index, set, Option, None, Some, sym, subst, arith, get_or-set_same}
use Rattle.kte_place.specs.Ends.{Ends}
use Rattle.kte_fold.specs.Tree.{span_at, Precedes, LiesIn}
use Rattle.kte_fold.specs.Inside.{Descended}
use Rattle.kte_fold.proofs.PlaceLemmas.{lies_when, out_when, later_when}
use Rattle.kte_fold.proofs.LeastLemmas.{none_cross}
use Rattle.kte_fold.proofs.SeatLemmas.{descended_past, descended_into, apart_at}
use Rattle.kte_fold.proofs.outline.find_seat.Goals as goal
use Rattle.kte_fold.proofs.outline.find_seat.Goals.{in_default-via-in-Some+else-not-precedes, in_default-via-in_default}

pub loop-at-preserved-then-not-precedes : goal.loop-at-preserved-then-not-precedes
loop-at-preserved-then-not-precedes g c =
    let spans = g.S.Spanned.spans c.args.spans.now in
    let numbers = c.args.numbers.now in
    let old = c.args.inside.now in
    let new = c.loop-at.inside in
    let at = c.loop-at.at in
    let fold = c.in-Some.fold in
    let is : span_at spans numbers at ≡ Some fold = cc in
    let holds = lies_when c.args.span fold (c.if-not-lies_in.ensures) in
    let there : at < length new = omega arith in
    subst (λ (n : ℕ). Descended spans numbers old (set new at (slice_index new at + 1)) c.args.span (at + 1) (at + n))
    (sym (get_or-set_same new at (slice_index new at + 1) 0 there))
    (descended_into spans numbers old c.requires.outline c.requires.tree c.args.span new at c.loop-at.end
    c.loop-at.invariant c.loop-at-test.true
    (subst (λ (o : Option Ends). LiesIn (Some c.args.span) o) (sym is) holds))

pub loop-at-preserved : goal.loop-at-preserved
loop-at-preserved g c =
    let spans = g.S.Spanned.spans c.args.spans.now in
    let numbers = c.args.numbers.now in
    let at = c.loop-at.at in
    let before : Precedes (span_at spans numbers at) (Some c.args.span) = elim c.in_default.branch [
      | in_default-via-in-Some+else-not-precedes w ↦
          let is : span_at spans numbers at ≡ Some w.in-Some.fold = cc in
          subst (λ (o : Option Ends). Precedes o (Some c.args.span)) (sym is) (sym w.if-not-precedes.ensures.value)
      | in_default-via-in_default w ↦
          let is : span_at spans numbers at ≡ None = cc in
          subst (λ (o : Option Ends). Precedes o (Some c.args.span)) (sym is) tt
    ] in
    descended_past spans numbers c.args.inside.now c.requires.outline c.requires.tree c.args.span c.loop-at.inside at
    c.loop-at.end c.loop-at.invariant c.loop-at-test.true before

pub returns-then-not-lies_in-clause-apart : goal.returns-then-not-lies_in-clause-apart
returns-then-not-lies_in-clause-apart g c =
    let spans = g.S.Spanned.spans c.args.spans.now in
    let numbers = c.args.numbers.now in
    let at = c.loop-at.at in
    let fold = c.in-Some.fold in
    let is : span_at spans numbers at ≡ Some fold = cc in
    apart_at spans numbers c.args.inside.now c.requires.outline c.requires.tree c.args.span at c.loop-at.end fold
    c.loop-at.invariant.bounded (none_cross spans c.args.span numbers c.requires.free) is
    (later_when fold.end c.args.span.start (c.if-not-precedes.ensures.value))
    (out_when c.args.span fold (c.if-not-lies_in.ensures))
