use Rattle.std.proofs.Common.{arith, refl, sym, ap, subst, ◌∙◌, length-append, ◌∷◌, []}
use Rattle.kte_place.specs.Ends.{Ends}
use Rattle.kte_place.specs.declared.place.Place.{Place}
use Rattle.kte_place.specs.Place.{at}
use Rattle.kte_search.specs.Matches.{IsFirst}
use Rattle.kte_search.proofs.MatchLemmas.{follow_more, end_more, none_found}
use Rattle.kte_search.proofs.search.all.Goals as goal

pub loop-init : goal.loop-init
loop-init g c = rw c.new-spans.ensures (record { in_order = tt; from_end = refl; counted = refl })

pub loop-preserved : goal.loop-preserved
loop-preserved g c =
    let q = c.args.query.now in
    let text = g.L.Lines.text c.args.lines.now in
    let spans = c.loop.spans in
    let span = c.in-Some.span in
    let so_far = c.loop.invariant in
    let first = subst (λ (p : Place). IsFirst q text p span) so_far.from_end c.in-Some.ensures.found in
    rw c.in_ok-push.ensures.ok (record {
      in_order = follow_more q text (at 0 0) spans span so_far.in_order first;
      from_end = ap (λ (s : Ends). s.end) c.span.view_is ∙ sym (end_more (at 0 0) spans span);
      counted = omega (arith, length-append spans (span ∷ []));
    })

pub returns-in_default-clause-all : goal.returns-in_default-clause-all
returns-in_default-clause-all g c = record {
  in_order = c.loop.invariant.in_order;
  few = omega arith;
  whole = λ _. rw (sym c.loop.invariant.from_end) c.in_default.ensures.none;
}

pub returns-clause-all : goal.returns-clause-all
returns-clause-all g c = record {
  in_order = c.loop.invariant.in_order;
  few = omega arith;
  whole = λ less. absurd (omega arith);
}

pub returns-in_default-clause-none : goal.returns-in_default-clause-none
returns-in_default-clause-none g c =
    none_found c.args.query.now (g.L.Lines.text c.args.lines.now) c.loop.spans (returns-in_default-clause-all g c)

pub returns-clause-none : goal.returns-clause-none
returns-clause-none g c =
    none_found c.args.query.now (g.L.Lines.text c.args.lines.now) c.loop.spans (returns-clause-all g c)
