use Rattle.std.proofs.Common.{◌∙◌}
use Rattle.kte_history.proofs.InsideLemmas.{added_view}
use Rattle.kte_history.proofs.history.History.add.Goals as goal

pub returns-then-not-is_empty-clause-added : goal.returns-then-not-is_empty-clause-added
returns-then-not-is_empty-clause-added c =
    added_view c.args.self.now c.self.inside.entries.items c.push_reserved.new.self.items c.self.inside.locks.items c.self.inside.revision c.self.inside.limit
    _ _ _ c.args.entry (c.self.view_is ∙ c.forget.ensures.same) c.push_reserved.ensures.items c.self.invariant
