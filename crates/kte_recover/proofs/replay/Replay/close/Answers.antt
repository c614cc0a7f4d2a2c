use Rattle.std.proofs.Common.{◌≡◌, ◌∙◌, ◌++◌, ◌∷◌, ℕ, List, [], None, refl, sym, ap, subst}
use Rattle.std.specs.FinMap.{get}
use Rattle.kte_text.specs.Primitives.{after}
use Rattle.kte_text.specs.declared.primitive.Primitive.{Primitive}
use Rattle.kte_recover.specs.Inverse.{CanUndo}
use Rattle.kte_recover.proofs.ReplayLemmas.{last-CanUndo, still_none}
use Rattle.kte_recover.proofs.RunLemmas.{taken_back}
use Rattle.kte_recover.proofs.replay.Replay.close.Goals as goal

pub reserve-requires-clause-fits : goal.reserve-requires-clause-fits
reserve-requires-clause-fits c =
    let text = c.loop-primitive.self.buffer.text in
    (last-CanUndo c.pop.new.self.items c.in-Some.primitive text
    (subst (λ (l : List Primitive). CanUndo l text) c.in-Some.ensures.items c.loop-primitive.invariant.can_undo)).1

pub reserve-requires-clause-changes : goal.reserve-requires-clause-changes
reserve-requires-clause-changes c =
    let text = c.loop-primitive.self.buffer.text in
    (last-CanUndo c.pop.new.self.items c.in-Some.primitive text
    (subst (λ (l : List Primitive). CanUndo l text) c.in-Some.ensures.items c.loop-primitive.invariant.can_undo)).2

pub loop-primitive-preserved-in_ok-reserve : goal.loop-primitive-preserved-in_ok-reserve
loop-primitive-preserved-in_ok-reserve c =
    let p = c.in-Some.primitive in
    let kept = c.reserve.ensures.kept in
    let inv = c.loop-primitive.invariant in
    let back = taken_back c.loop-primitive.self.undo.items c.pop.new.self.items p c.loop-primitive.self.buffer.text c.apply.new.self.text _
    c.in-Some.ensures.items (c.apply.ensures.text ∙ ap (λ b. after p b.text) kept) inv.can_undo inv.undone_is in
    record {
      can_undo = back.0;
      cursors = λ id. c.apply.ensures.hung id ∙ still_none _ _ (ap (λ b. get b.hung id) kept ∙ inv.cursors id);
      undone_is = back.1;
    }

pub loop-primitive-preserved : goal.loop-primitive-preserved
loop-primitive-preserved c =
    let p = c.in-Some.primitive in
    let kept = c.reserve.ensures.kept in
    let inv = c.loop-primitive.invariant in
    let back = taken_back c.loop-primitive.self.undo.items c.pop.new.self.items p c.loop-primitive.self.buffer.text c.apply.new.self.text _
    c.in-Some.ensures.items (c.apply.ensures.text ∙ ap (λ b. after p b.text) kept) inv.can_undo inv.undone_is in
    record {
      can_undo = back.0;
      cursors = λ id. c.apply.ensures.hung id ∙ still_none _ _ (ap (λ b. get b.hung id) kept ∙ inv.cursors id);
      undone_is = back.1;
    }
