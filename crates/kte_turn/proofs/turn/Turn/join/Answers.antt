use Rattle.std.proofs.Common.{rules, ◌≡◌, ℕ, ◌+◌, ◌<◌, ◌≤◌, ◌^◌, [], ◌∷◌, length, drop, sym, ap, ◌∙◌, subst, arith, length-append}
use Rattle.kte_turn.specs.Known.{events_of}
use Rattle.kte_turn.specs.Sums.{times}
use Rattle.kte_turn.proofs.StoryLemmas.{shorter_le}
use Rattle.kte_turn.proofs.SumLemmas.{times-append}
use Rattle.kte_turn.proofs.PassLemmas.{joins, settles}
use Rattle.kte_turn.proofs.CallLemmas.{own-left, own-right, own-neither, numbered-append, stands_times}
use Rattle.kte_turn.proofs.turn.Turn.join.Goals as goal

pub join_seat-requires : goal.join_seat-requires
join_seat-requires g c =
    let p = c.args.pass in
    let q = c.args.other in
    (search rules, search rules, q.rests.0, search rules, joins g.V.Storied.seat_of g.V.Storied.origin g.V.Storied.story _ _ _ _ _ _ p.rests.1 q.rests.1 p.alive.0 (omega (arith, ap length p.numbered)) (omega (arith, ap length q.numbered)))

pub load-requires : goal.load-requires
load-requires g c =
    let p = c.args.pass in
    let q = c.args.other in
    let now = c.join_seat.ensures.2 in (
      search rules,
      search rules,
      settles g.V.Storied.seat_of g.V.Storied.origin g.V.Storied.story _ _ _ _ _ (ap (λ m. m.0.stage) now ∙ p.rests.1)
          (subst (λ v. length v.told ≤ length v.seen) (sym (ap (λ m. m.0) now)) (shorter_le p.token.me.0.seen q.token.me.0.seen)),
    )

pub invariant_of-result : goal.invariant_of-result
invariant_of-result g c =
    let p = c.args.pass in
    let q = c.args.other in
    let told = c.load.ensures.2 in
    let after = told.2 ∙ ap (λ m. (record m.0 { told = [] }, m.1)) c.join_seat.ensures.2 in
    let view = ap (λ m. m.0) after in
    record {
      rests = (ap (λ m. m.1) after ∙ p.rests.0, ap (λ m. m.0.stage) after ∙ p.rests.1, ap (λ m. m.0.told) after);
      alive = (subst (λ v. 0 < v.share) (sym view) (omega (arith, p.alive.0)), subst (λ v. v.seats < 2 ^ 32) (sym view) p.alive.1);
      numbered = subst (λ v. v.numbers ≡ p.number ∷ drop 1 v.numbers) (sym view) (numbered-append p.number p.token.me.0.numbers q.token.me.0.numbers p.numbered);
      goes_on = subst (λ v. v.numbers ≡ 0 ∷ [] → (0 < p.next) × (p.next + v.share ≡ v.seats + 1)) (sym view)
          (λ e. absurd (omega (arith, ap length e, length-append p.token.me.0.numbers q.token.me.0.numbers, ap length p.numbered, ap length q.numbered)));
      no_others = subst (λ v. (k : ℕ) → times k v.numbers ≡ 0 → length (events_of g.V.Storied.seat_of k v.own) ≡ 0) (sym view)
          (λ k. own-neither g.V.Storied.seat_of g.V.Storied.origin g.V.Storied.story k p.token.me.0 q.token.me.0 (p.no_others k) (q.no_others k));
    }

pub returns-clause-calls : goal.returns-clause-calls
returns-clause-calls g c = λ k stands.
    let p = c.args.pass in
    let q = c.args.other in
    let told = c.load.ensures.2 in
    let after = told.2 ∙ ap (λ m. (record m.0 { told = [] }, m.1)) c.join_seat.ensures.2 in
    let view = ap (λ m. m.0) after in
    let has = stands_times k p.number p.token.me.0.numbers p.numbered stands in
    let once = subst (λ v. times k v.numbers ≤ 1) (ap (λ m. m.0) c.join_seat.ensures.2) (told.1 k) in
    let none : times k q.token.me.0.numbers ≡ 0 = omega (arith, once, has, times-append k p.token.me.0.numbers q.token.me.0.numbers) in
    ap (λ v. events_of g.V.Storied.seat_of k v.own) view ∙ own-left g.V.Storied.seat_of g.V.Storied.origin g.V.Storied.story k p.token.me.0 q.token.me.0 (q.no_others k none)

pub returns-clause-other_calls : goal.returns-clause-other_calls
returns-clause-other_calls g c = λ k stands.
    let p = c.args.pass in
    let q = c.args.other in
    let told = c.load.ensures.2 in
    let after = told.2 ∙ ap (λ m. (record m.0 { told = [] }, m.1)) c.join_seat.ensures.2 in
    let view = ap (λ m. m.0) after in
    let has = stands_times k q.number q.token.me.0.numbers q.numbered stands in
    let once = subst (λ v. times k v.numbers ≤ 1) (ap (λ m. m.0) c.join_seat.ensures.2) (told.1 k) in
    let none : times k p.token.me.0.numbers ≡ 0 = omega (arith, once, has, times-append k p.token.me.0.numbers q.token.me.0.numbers) in
    ap (λ v. events_of g.V.Storied.seat_of k v.own) view ∙ own-right g.V.Storied.seat_of g.V.Storied.origin g.V.Storied.story k p.token.me.0 q.token.me.0 (p.no_others k none)
