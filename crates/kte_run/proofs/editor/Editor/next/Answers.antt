use Rattle.std.proofs.Common.{◌≡◌, List, [], All, ap, sym, subst, ◌∙◌, arith}
use Rattle.std.proofs.lemmas.List.{nil_from_length}
use Rattle.std.proofs.lemmas.List.Elements.{All-tail}
use Rattle.std.specs.Vec.Iter.{into_iter_items}
use Rattle.kte_command.specs.declared.command.Command.{Command}
use Rattle.kte_command.specs.Commands.{InRange}
use Rattle.kte_run.specs.Editor.{Part}
use Rattle.kte_run.proofs.EditorLemmas.{end-next}
use Rattle.kte_run.proofs.editor.Editor.next.Goals as goal

pub invariant_of-self-in-Some-next : goal.invariant_of-self-in-Some-next
invariant_of-self-in-Some-next c = (
  All-tail InRange c.in-Some-next.command (into_iter_items c.next.new.self)
      (subst (λ (commands : List Command). All InRange commands) c.in-Some-next.ensures.items c.self.invariant.0),
  c.self.invariant.1,
)

pub returns-then-self-gt0-clause-next : goal.returns-then-self-gt0-clause-next
returns-then-self-gt0-clause-next c =
    let view = c.self.view_is in
    let none : into_iter_items c.self.inside.commands ≡ [] =
    nil_from_length (into_iter_items c.self.inside.commands) (omega (arith, (c.in_default-next.ensures.cases).0)) in
    end-next c.args.self.now
    (sym (ap (λ (p : Part). p.owed) view) ∙ sym c.take.ensures.value ∙ c.in_default.is)
    (sym (ap (λ (p : Part). p.closed) view) ∙ c.if-self.false)
    (sym (ap (λ (p : Part). p.failed) view) ∙ c.if-not-self.true)
    (sym (ap (λ (p : Part). p.commands) view) ∙ none)
    (omega (arith, c.if-self-gt0.true, ap (λ (p : Part). p.depth) view))
