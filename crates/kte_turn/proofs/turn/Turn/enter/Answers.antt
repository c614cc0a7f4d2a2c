use Rattle.std.proofs.Common.{rules, ◌≡◌, ℕ, ◌+◌, ◌<◌, ◌^◌, [], ◌∷◌, length, drop, Some, sym, ap, ◌∙◌, subst}
use mathlib.Core.List.{IsPrefix}
use Rattle.atomic_table.specs.Table.{rest}
use Rattle.kte_turn.specs.Known.{events_of, news}
use Rattle.kte_turn.specs.Sums.{times}
use Rattle.kte_turn.specs.Rule.{serving}
use Rattle.kte_turn.specs.Steps.{knowing}
use Rattle.kte_turn.specs.Passes.{known}
use Rattle.kte_turn.proofs.StoryLemmas.{Some-injective}
use Rattle.kte_turn.proofs.TicketLemmas.{draws, looks}
use Rattle.kte_turn.proofs.CallLemmas.{entered, found_news, stands_times}
use Rattle.kte_turn.proofs.turn.Turn.enter.Goals as goal

pub fetch_add-ticket-requires : goal.fetch_add-ticket-requires
fetch_add-ticket-requires g c = (search rules, search rules, draws g.V.Storied.seat_of g.V.Storied.origin g.V.Storied.story _ _ _ _ _ c.args.pass.rests.1 c.args.pass.alive.0)

pub load-requires : goal.load-requires
load-requires g c =
    let i = c.loop.invariant.1 in
    (c.loop.invariant.0, search rules, looks g.V.Storied.seat_of g.V.Storied.origin g.V.Storied.story _ _ _ _ _ i.0 (ap (λ m. m.0.stage) i.2))

pub exchange-requires : goal.exchange-requires
exchange-requires g c =
    let i = c.loop.invariant.1 in
    let got = (c.load.ensures.2 i.0 (ap (λ m. m.0.stage) i.2)).0 (i.1 ∙ search rules) in
    (search rules, (_, ap (λ m. m.1) got.1 ∙ ap (λ l. (0, Some got.0) ∷ rest l) (sym (ap (λ m. m.1) got.1))))

pub unwrap-value-requires : goal.unwrap-value-requires
unwrap-value-requires g c =
    let p = c.args.pass in
    let i = c.loop.invariant.1 in
    let got = (c.load.ensures.2 i.0 (ap (λ m. m.0.stage) i.2)).0 (i.1 ∙ search rules) in
    let did = entered g.V.Storied.seat_of g.V.Storied.origin g.V.Storied.story p.token.me.0 i.0 _ _ _ _ got.0 i.2 got.1 got.2 c.exchange.ensures.2 c.exchange.ensures.3 in
    search (rules, did.0)

pub invariant_of-result : goal.invariant_of-result
invariant_of-result g c =
    let p = c.args.pass in
    let i = c.loop.invariant.1 in
    let got = (c.load.ensures.2 i.0 (ap (λ m. m.0.stage) i.2)).0 (i.1 ∙ search rules) in
    let did = entered g.V.Storied.seat_of g.V.Storied.origin g.V.Storied.story p.token.me.0 i.0 _ _ _ _ got.0 i.2 got.1 got.2 c.exchange.ensures.2 c.exchange.ensures.3 in
    let view = sym (ap (λ m. m.0) did.1) in record {
      serves = (ap (λ m. m.1) did.1, ap (λ m. serving m.0.stage) did.1, ap (λ m. m.0.told) did.1 ∙ p.rests.2);
      alive = (subst (λ v. 0 < v.share) view p.alive.0, subst (λ v. v.seats < 2 ^ 32) view p.alive.1);
      numbered = subst (λ v. v.numbers ≡ p.number ∷ drop 1 v.numbers) view p.numbered;
      goes_on = subst (λ v. v.numbers ≡ 0 ∷ [] → (0 < p.next) × (p.next + v.share ≡ v.seats + 1)) view p.goes_on;
      no_others = subst (λ v. (k : ℕ) → times k v.numbers ≡ 0 → length (events_of g.V.Storied.seat_of k v.own) ≡ 0) view p.no_others;
    }

pub returns-then-load-ticket-clause-own : goal.returns-then-load-ticket-clause-own
returns-then-load-ticket-clause-own g c =
    let p = c.args.pass in
    let i = c.loop.invariant.1 in
    let got = (c.load.ensures.2 i.0 (ap (λ m. m.0.stage) i.2)).0 (i.1 ∙ search rules) in
    let did = entered g.V.Storied.seat_of g.V.Storied.origin g.V.Storied.story p.token.me.0 i.0 _ _ _ _ got.0 i.2 got.1 got.2 c.exchange.ensures.2 c.exchange.ensures.3 in
    c.exchange.ensures.0 ∙ (c.load.ensures.0 ∙ c.loop.invariant.0)

pub returns-then-load-ticket-clause-origin : goal.returns-then-load-ticket-clause-origin
returns-then-load-ticket-clause-origin g c =
    let p = c.args.pass in
    let i = c.loop.invariant.1 in
    let got = (c.load.ensures.2 i.0 (ap (λ m. m.0.stage) i.2)).0 (i.1 ∙ search rules) in
    let did = entered g.V.Storied.seat_of g.V.Storied.origin g.V.Storied.story p.token.me.0 i.0 _ _ _ _ got.0 i.2 got.1 got.2 c.exchange.ensures.2 c.exchange.ensures.3 in
    did.2.origin_is ∙ ap (λ x. Some (g.V.Storied.origin x)) (Some-injective _ _ (sym did.0 ∙ c.unwrap-value.ensures))

pub returns-then-load-ticket-clause-seen : goal.returns-then-load-ticket-clause-seen
returns-then-load-ticket-clause-seen g c =
    let p = c.args.pass in
    let i = c.loop.invariant.1 in
    let got = (c.load.ensures.2 i.0 (ap (λ m. m.0.stage) i.2)).0 (i.1 ∙ search rules) in
    let did = entered g.V.Storied.seat_of g.V.Storied.origin g.V.Storied.story p.token.me.0 i.0 _ _ _ _ got.0 i.2 got.1 got.2 c.exchange.ensures.2 c.exchange.ensures.3 in
    subst (λ x. IsPrefix p.token.me.0.seen (g.V.Storied.story x)) (Some-injective _ _ (sym did.0 ∙ c.unwrap-value.ensures)) did.2.seen_is

pub returns-then-load-ticket-clause-no_news : goal.returns-then-load-ticket-clause-no_news
returns-then-load-ticket-clause-no_news g c =
    let p = c.args.pass in
    let i = c.loop.invariant.1 in
    let got = (c.load.ensures.2 i.0 (ap (λ m. m.0.stage) i.2)).0 (i.1 ∙ search rules) in
    let did = entered g.V.Storied.seat_of g.V.Storied.origin g.V.Storied.story p.token.me.0 i.0 _ _ _ _ got.0 i.2 got.1 got.2 c.exchange.ensures.2 c.exchange.ensures.3 in
    λ k stands.
    subst (λ x. events_of g.V.Storied.seat_of k (news p.token.me.0.seen (g.V.Storied.story x)) ≡ []) (Some-injective _ _ (sym did.0 ∙ c.unwrap-value.ensures))
    (found_news g.V.Storied.seat_of g.V.Storied.origin g.V.Storied.story k p.token.me.0 got.0 did.2 (stands_times k p.number p.token.me.0.numbers p.numbered stands))

pub returns-then-load-ticket-clause-calls : goal.returns-then-load-ticket-clause-calls
returns-then-load-ticket-clause-calls g c =
    let p = c.args.pass in
    let i = c.loop.invariant.1 in
    let got = (c.load.ensures.2 i.0 (ap (λ m. m.0.stage) i.2)).0 (i.1 ∙ search rules) in
    let did = entered g.V.Storied.seat_of g.V.Storied.origin g.V.Storied.story p.token.me.0 i.0 _ _ _ _ got.0 i.2 got.1 got.2 c.exchange.ensures.2 c.exchange.ensures.3 in
    λ k stands.
    subst (λ x. events_of g.V.Storied.seat_of k (g.V.Storied.story x) ≡ events_of g.V.Storied.seat_of k p.token.me.0.own) (Some-injective _ _ (sym did.0 ∙ c.unwrap-value.ensures))
    (did.2.own_is k (stands_times k p.number p.token.me.0.numbers p.numbered stands)).0

pub returns-then-load-ticket-clause-stay : goal.returns-then-load-ticket-clause-stay
returns-then-load-ticket-clause-stay g c =
    let p = c.args.pass in
    let i = c.loop.invariant.1 in
    let got = (c.load.ensures.2 i.0 (ap (λ m. m.0.stage) i.2)).0 (i.1 ∙ search rules) in
    let did = entered g.V.Storied.seat_of g.V.Storied.origin g.V.Storied.story p.token.me.0 i.0 _ _ _ _ got.0 i.2 got.1 got.2 c.exchange.ensures.2 c.exchange.ensures.3 in
    ap (λ m. known p.number m.0) did.1
    ∙ ap (λ x. known p.number (knowing (g.V.Storied.story x) p.token.me.0)) (Some-injective _ _ (sym did.0 ∙ c.unwrap-value.ensures))
