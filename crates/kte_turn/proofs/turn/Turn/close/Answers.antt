use Rattle.std.proofs.Common.{rules, Some, sym, ap, ◌∙◌, subst}
use mathlib.Core.List.{IsPrefix}
use Rattle.kte_turn.specs.Known.{events_of}
use Rattle.kte_turn.proofs.StoryLemmas.{Some-injective}
use Rattle.kte_turn.proofs.PassLemmas.{closing}
use Rattle.kte_turn.proofs.turn.Turn.close.Goals as goal

pub unwrap-requires : goal.unwrap-requires
unwrap-requires g c =
    let p = c.args.pass in
    let h = closing g.V.Storied.seat_of g.V.Storied.origin g.V.Storied.story _ _ _ _ _ p.token.me.0 _ c.close_with-closed.ensures.values.2 c.take-slot.ensures.value p.rests.1 c.requires.all p.alive.0 in
    search (rules, h.1)

pub returns-clause-origin : goal.returns-clause-origin
returns-clause-origin g c =
    let p = c.args.pass in
    let h = closing g.V.Storied.seat_of g.V.Storied.origin g.V.Storied.story _ _ _ _ _ p.token.me.0 _ c.close_with-closed.ensures.values.2 c.take-slot.ensures.value p.rests.1 c.requires.all p.alive.0 in
    h.2 ∙ ap (λ x. Some (g.V.Storied.origin x)) (Some-injective _ _ (sym h.1 ∙ c.unwrap.ensures))

pub returns-clause-seen : goal.returns-clause-seen
returns-clause-seen g c =
    let p = c.args.pass in
    let h = closing g.V.Storied.seat_of g.V.Storied.origin g.V.Storied.story _ _ _ _ _ p.token.me.0 _ c.close_with-closed.ensures.values.2 c.take-slot.ensures.value p.rests.1 c.requires.all p.alive.0 in
    subst (λ x. IsPrefix p.token.me.0.seen (g.V.Storied.story x)) (Some-injective _ _ (sym h.1 ∙ c.unwrap.ensures)) h.3

pub returns-clause-calls : goal.returns-clause-calls
returns-clause-calls g c =
    let p = c.args.pass in
    let h = closing g.V.Storied.seat_of g.V.Storied.origin g.V.Storied.story _ _ _ _ _ p.token.me.0 _ c.close_with-closed.ensures.values.2 c.take-slot.ensures.value p.rests.1 c.requires.all p.alive.0 in
    λ k. ap (λ x. events_of g.V.Storied.seat_of k (g.V.Storied.story x)) (sym (Some-injective _ _ (sym h.1 ∙ c.unwrap.ensures))) ∙ h.4 k
