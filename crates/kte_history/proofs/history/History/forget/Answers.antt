use Rattle.std.proofs.Common.{length, ap, ◌∙◌, sym}
use Rattle.kte_history.proofs.InsideLemmas.{forgotten_sound}
use Rattle.kte_history.proofs.history.History.forget.Goals as goal

pub invariant_of-self : goal.invariant_of-self
invariant_of-self c =
    rw (c.drop-drain.ensures.items, c.drain.ensures.kept, c.len.ensures, c.self.inside.entries.ok.0)
    (forgotten_sound c.self.inside.entries.items c.self.inside.locks.items c.self.inside.revision c.self.inside.limit c.self.invariant c.kept_len-kept.result
    (c.kept_len-kept.ensures ∙ ap (λ h. length h.kept) (sym c.self.view_is)))
