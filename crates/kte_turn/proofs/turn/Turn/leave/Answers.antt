use Rattle.std.proofs.Common.{[], ◌∷◌, ◌++◌, sym, ap, ◌∙◌}
use Rattle.kte_turn.specs.Steps.{last_of}
use Rattle.kte_turn.specs.Known.{left}
use Rattle.kte_turn.proofs.StoryLemmas.{last_of-push, Some-injective}
use Rattle.kte_turn.specs.Passes.{known}
use Rattle.kte_turn.proofs.CallLemmas.{left_push}
use Rattle.kte_turn.proofs.turn.Turn.leave.Goals as goal

pub counted-stay-requires-clause-event : goal.counted-stay-requires-clause-event
counted-stay-requires-clause-event g c = let e = c.requires.event in (e.0, ap last_of e.1 ∙ last_of-push c.args.stay.token.me.0.seen e.0, e.1, e.2)

pub leave_unchanged-requires-clause-same : goal.leave_unchanged-requires-clause-same
leave_unchanged-requires-clause-same g c =
    let e = c.requires.event in
    let did = c.counted-stay.ensures.stay in
    let same = Some-injective e.0 did.0 (sym (ap last_of e.1 ∙ last_of-push c.args.stay.token.me.0.seen e.0) ∙ did.1) in
    e.1 ∙ (ap (λ x. c.args.stay.token.me.0.seen ++ x ∷ []) same ∙ sym (ap (λ k. k.seen) did.2))

pub returns-clause-pass : goal.returns-clause-pass
returns-clause-pass g c =
    let stay = c.args.stay in
    let before = known stay.number stay.token.me.0 in
    let e = c.requires.event in
    let did = c.counted-stay.ensures.stay in
    let same = Some-injective e.0 did.0 (sym (ap last_of e.1 ∙ last_of-push stay.token.me.0.seen e.0) ∙ did.1) in
    c.leave_unchanged.ensures.pass
    ∙ (left_push before _ did.0 did.2 ∙ ap (λ l. left l before) (ap (λ x. stay.token.me.0.seen ++ x ∷ []) (sym same) ∙ sym e.1))
