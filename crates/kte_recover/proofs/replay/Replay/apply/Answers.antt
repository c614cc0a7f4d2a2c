use Rattle.std.proofs.Common.{◌≡◌, ◌∙◌, ◌++◌, ◌∷◌, [], List, sym, ap, subst}
use Rattle.std.specs.FinMap.{get}
use Rattle.kte_text.specs.Texts.{IsText}
use Rattle.kte_text.specs.Primitives.{after}
use Rattle.kte_text.specs.declared.primitive.Primitive.{Primitive}
use Rattle.kte_text.proofs.PrimitiveLemmas.{IsText-after}
use Rattle.kte_recover.proofs.ReplayLemmas.{still_none}
use Rattle.kte_recover.proofs.replay.Replay.apply.Goals as goal

pub returns-clause-applied : goal.returns-clause-applied
returns-clause-applied c =
    let p = c.args.primitive.now in
    let old = c.args.self.now in
    let kept = c.reserve.ensures.kept in
    let text_is = c.apply.ensures.text ∙ ap (λ b. after p b.text) kept in
    record {
      text = text_is;
      undo = c.in_ok-push.ensures.items ∙ ap (λ (q : Primitive). old.undo.items ++ q ∷ []) c.in_ok-inverse.ensures;
      plain = record {
        text = subst IsText (sym text_is) (IsText-after p old.buffer.text c.requires.plain.text c.requires.line c.requires.fits);
        cursors = λ id. c.apply.ensures.hung id ∙ still_none _ _ (ap (λ b. get b.hung id) kept ∙ c.requires.plain.cursors id);
      };
    }
