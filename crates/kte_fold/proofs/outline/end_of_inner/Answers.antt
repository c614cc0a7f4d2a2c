use Rattle.std.proofs.Common.{◌≡◌, Option, None, Some, ◌⊎◌, inl, inr, IsTrue, sym, subst, arith}
use Rattle.kte_place.specs.Ends.{Ends}
use Rattle.kte_place.specs.Place.{is_before}
use Rattle.kte_fold.specs.Tree.{span_at, LiesIn, Precedes}
use Rattle.kte_fold.proofs.PlaceLemmas.{later_when, lt_not_le}
use Rattle.kte_fold.proofs.SeatLemmas.{inside_more, follow_all}
use Rattle.kte_fold.proofs.outline.end_of_inner.Goals as goal
use Rattle.kte_fold.proofs.outline.end_of_inner.Goals.{in_default-via-in-Some+else-precedes, in_default-via-in_default}

-- a fold that the span does not precede lies in it
lies_or : (f s : Ends) → LiesIn (Some f) (Some s) ⊎ Precedes (Some s) (Some f) → IsTrue (is_before f.start s.end) → LiesIn (Some f) (Some s)
lies_or f s (inl x) h = x
lies_or f s (inr x) h = absurd (lt_not_le f.start s.end h x)

pub loop-next-preserved : goal.loop-next-preserved
loop-next-preserved g c =
    let spans = g.S.Spanned.spans c.args.spans.now in
    let numbers = c.args.numbers.now in
    let next = c.loop-next.next in
    let s = c.args.span in
    let here = c.requires.apart next c.loop-next.invariant.after c.loop-next-test.true in
    let lies : LiesIn (span_at spans numbers next) (Some s) = elim c.in_default.branch [
      | in_default-via-in-Some+else-precedes w ↦
          let f = w.in-Some.fold in
          let is : span_at spans numbers next ≡ Some f = cc in
          subst (λ (o : Option Ends). LiesIn o (Some s)) (sym is)
          (lies_or f s (subst (λ (o : Option Ends). LiesIn o (Some s) ⊎ Precedes (Some s) o) is here)
          (later_when s.end f.start w.if-precedes.ensures.value))
      | in_default-via-in_default w ↦
          let is : span_at spans numbers next ≡ None = cc in
          subst (λ (o : Option Ends). LiesIn o (Some s)) (sym is) tt
    ] in
    let fit = c.requires.level next c.loop-next.invariant.after c.loop-next-test.true in
    record {
      after = omega arith;
      bounded = omega arith;
      inner = inside_more spans numbers c.args.inside.now s c.args.seat.at c.args.seat.end c.requires.tree c.requires.bounded
          c.requires.level c.requires.apart next c.loop-next.invariant.after c.loop-next-test.true c.loop-next.invariant.inner lies;
    }

pub returns-in-Some-clause-outer : goal.returns-in-Some-clause-outer
returns-in-Some-clause-outer g c =
    let spans = g.S.Spanned.spans c.args.spans.now in
    let numbers = c.args.numbers.now in
    let f = c.in-Some.fold in
    let is : span_at spans numbers c.loop-next.next ≡ Some f = cc in
    follow_all spans numbers c.args.inside.now c.args.span c.args.seat.at c.args.seat.end c.requires.tree c.requires.bounded
    c.requires.level c.requires.apart c.loop-next.next f c.loop-next.invariant.after is
    c.precedes.ensures.ordered (sym c.if-precedes.ensures.value)
