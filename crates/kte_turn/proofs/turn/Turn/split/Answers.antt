use Rattle.std.proofs.Common.{rules, ◌≡◌, [], ◌∷◌, drop, ap, ◌∙◌}
use Rattle.kte_turn.proofs.PassLemmas.{splits}
use Rattle.kte_turn.proofs.turn.Turn.split.Goals as goal

pub split_seat-other-requires : goal.split_seat-other-requires
split_seat-other-requires g c =
    let p = c.args.pass in
    let alone : p.token.me.0.numbers ≡ 0 ∷ [] = p.numbered ∙ (ap (λ n. n ∷ drop 1 p.token.me.0.numbers) c.requires.first ∙ ap (λ l. 0 ∷ l) c.requires.alone) in
    (search rules, search rules, splits g.V.Storied.seat_of g.V.Storied.origin g.V.Storied.story _ _ _ _ alone p.rests.1 c.requires.shares)
