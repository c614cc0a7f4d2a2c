use Rattle.std.proofs.Common.{◌≡◌, ◌∙◌, ◌++◌, ℕ, List, [], None, refl, sym, ap, subst}
use Rattle.std.specs.Ordering.{nat_cmp}
use Rattle.std.specs.FinMap.{get, get-empty}
use Rattle.kte_text.specs.Texts.{IsText}
use Rattle.kte_text.specs.declared.primitive.Primitive.{Primitive}
use Rattle.kte_recover.specs.Inverse.{CanUndo, undone}
use Rattle.kte_recover.proofs.replay.Replay.new.Goals as goal

pub returns-clause-stands : goal.returns-clause-stands
returns-clause-stands c body =
    let text_is : c.in_ok-new.field-0.text ≡ c.args.text = ap (λ b. b.text) c.in_ok-new.ensures in
    record {
      done = [];
      begun = None;
      reads = record { parts = refl; writable = tt; fit = tt };
      text_is = text_is;
      can_undo = subst (λ (l : List Primitive). CanUndo l c.in_ok-new.field-0.text) (sym c.new-2.ensures.items) tt;
      undone_is = ap (λ (l : List Primitive). undone l c.in_ok-new.field-0.text) c.new-2.ensures.items ∙ text_is;
      is_open = refl;
      count = refl;
    }

pub returns-clause-plain : goal.returns-clause-plain
returns-clause-plain c = record {
  text = subst IsText (sym (ap (λ b. b.text) c.in_ok-new.ensures)) c.requires;
  cursors = λ id. ap (λ b. get b.hung id) c.in_ok-new.ensures ∙ get-empty nat_cmp id;
}
