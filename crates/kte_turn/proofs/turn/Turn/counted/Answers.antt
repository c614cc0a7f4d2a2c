use Rattle.std.proofs.Common.{rules, ◌≡◌, ℕ, ◌+◌, ◌<◌, ◌^◌, [], ◌∷◌, length, drop, sym, ap, ◌∙◌, subst, arith, length-append}
use Rattle.kte_turn.specs.Known.{events_of}
use Rattle.kte_turn.specs.Sums.{times}
use Rattle.kte_turn.specs.Rule.{serving}
use Rattle.kte_turn.specs.Passes.{known}
use Rattle.kte_turn.proofs.StoryLemmas.{Some-injective}
use Rattle.kte_turn.proofs.ViewLemmas.{has_times}
use Rattle.kte_turn.proofs.TurnLemmas.{counts}
use Rattle.kte_turn.proofs.CallLemmas.{served_ticket, no_others-push}
use Rattle.kte_turn.proofs.turn.Turn.counted.Goals as goal

pub fetch_add-requires : goal.fetch_add-requires
fetch_add-requires g c =
    let stay = c.args.stay in
    let t = served_ticket stay.token.me.0.stage stay.serves.1 in
    let e = c.requires.event in
    let short = g.V.Storied.short c.args.value.now in (
      search rules,
      search rules,
      counts g.V.Storied.seat_of g.V.Storied.origin g.V.Storied.story _ _ _ _ _ t.0 e.0 _ e.1 t.1 (subst (λ n. 0 < times n stay.token.me.0.numbers) (sym e.3) (has_times stay.number stay.token.me.0.numbers stay.numbered))
          (omega (arith, short, ap length e.2, length-append stay.token.me.0.seen (e.0 ∷ []))),
    )

pub invariant_of-result : goal.invariant_of-result
invariant_of-result g c =
    let stay = c.args.stay in
    let e = c.requires.event in
    let did = c.fetch_add.ensures.2 in
    let view = sym (ap (λ m. m.0) did.2) in
    let mine = ap g.V.Storied.seat_of (sym (Some-injective e.0 did.0 (sym e.1 ∙ did.1))) ∙ e.3 in
    record {
      serves = (ap (λ m. m.1) did.2 ∙ stay.serves.0, ap (λ m. serving m.0.stage) did.2 ∙ stay.serves.1, ap (λ m. m.0.told) did.2 ∙ stay.serves.2);
      alive = (subst (λ v. 0 < v.share) view stay.alive.0, subst (λ v. v.seats < 2 ^ 32) view stay.alive.1);
      numbered = subst (λ v. v.numbers ≡ stay.number ∷ drop 1 v.numbers) view stay.numbered;
      goes_on = subst (λ v. v.numbers ≡ 0 ∷ [] → (0 < stay.next) × (stay.next + v.share ≡ v.seats + 1)) view stay.goes_on;
      no_others = subst (λ v. (k : ℕ) → times k v.numbers ≡ 0 → length (events_of g.V.Storied.seat_of k v.own) ≡ 0) view
          (λ k absent. no_others-push g.V.Storied.seat_of k stay.token.me.0.numbers stay.token.me.0.own did.0 (subst (λ n. 0 < times n stay.token.me.0.numbers) (sym mine) (has_times stay.number stay.token.me.0.numbers stay.numbered)) absent (stay.no_others k absent));
    }

pub returns-clause-stay : goal.returns-clause-stay
returns-clause-stay g c = let did = c.fetch_add.ensures.2 in (did.0, did.1, ap (λ m. known c.args.stay.number m.0) did.2)
