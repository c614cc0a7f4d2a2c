use Rattle.std.proofs.Common.{rules, ◌∷◌, Some, ap, ◌∙◌}
use Rattle.atomic_table.specs.Table.{rest}
use Rattle.kte_turn.proofs.TurnLemmas.{serves_at}
use Rattle.kte_turn.proofs.CallLemmas.{served_ticket}
use Rattle.kte_turn.proofs.turn.Turn.leave_unchanged.Goals as goal

pub fetch_add-requires : goal.fetch_add-requires
fetch_add-requires g c =
    let stay = c.args.stay in
    let t = served_ticket stay.token.me.0.stage stay.serves.1 in (
      search rules,
      search rules,
      serves_at g.V.Storied.seat_of g.V.Storied.origin g.V.Storied.story _ _ _ _ _ stay.token.me.0 c.args.value t.0
          (c.exchange-nothing.ensures.3 ∙ ap (λ l. (stay.token.me.0, (0, Some c.args.value) ∷ rest l)) stay.serves.0) t.1 c.requires.same c.requires.origin,
    )
