use Rattle.std.proofs.Common.{◌∙◌, length, sym, ap}
use Rattle.kte_history.specs.Locks.{oldest}
use Rattle.kte_history.proofs.InsideLemmas.{length-kept, oldest-past}
use Rattle.kte_history.proofs.history.History.kept_len.Goals as goal

pub overflow_sub-result : goal.overflow_sub-result
overflow_sub-result c =
    let is = ap oldest (sym c.deref.ensures.value) ∙ sym c.oldest.ensures ∙ c.in-Some.is in
    oldest-past c.self.inside.revision c.self.inside.locks.items _ c.in-Some.oldest c.self.invariant.reached is

pub returns-in-Some : goal.returns-in-Some
returns-in-Some c =
    let is = ap oldest (sym c.deref.ensures.value) ∙ sym c.oldest.ensures ∙ c.in-Some.is in
    sym (length-kept c.self.inside.revision c.self.inside.locks.items c.self.inside.entries.items c.in-Some.oldest c.self.invariant.reached is)
    ∙ ap (λ h. length h.kept) c.self.view_is
