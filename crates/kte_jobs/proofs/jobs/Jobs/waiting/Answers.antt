use Rattle.std.proofs.Common.{◌∙◌, ◌<◌, ◌≤◌, subst}
use Rattle.kte_jobs.proofs.JobLemmas.{least_is, none_is, least_value, none_value}
use Rattle.kte_jobs.proofs.jobs.Jobs.waiting.Goals as goal

pub returns-then-self-len-clause-least : goal.returns-then-self-len-clause-least
returns-then-self-len-clause-least c =
    rw (← c.self.view_is) (least_is c.self.inside.jobs.items c.self.inside.first c.self.invariant.is_first (subst (λ n. c.self.inside.first < n) (c.len.ensures ∙ (c.self.inside.jobs.ok).0) c.if-self-len.true))

pub returns-then-self-len-clause-value : goal.returns-then-self-len-clause-value
returns-then-self-len-clause-value c =
    rw (← c.self.view_is) (least_value c.self.inside.jobs.items c.self.inside.first c.self.invariant.is_first (subst (λ n. c.self.inside.first < n) (c.len.ensures ∙ (c.self.inside.jobs.ok).0) c.if-self-len.true))

pub returns-else-self-len-clause-least : goal.returns-else-self-len-clause-least
returns-else-self-len-clause-least c =
    rw (← c.self.view_is) (none_is c.self.inside.jobs.items c.self.inside.first c.self.invariant.is_first (subst (λ n. n ≤ c.self.inside.first) (c.len.ensures ∙ (c.self.inside.jobs.ok).0) c.if-self-len.false))

pub returns-else-self-len-clause-value : goal.returns-else-self-len-clause-value
returns-else-self-len-clause-value c =
    rw (← c.self.view_is) (none_value c.self.inside.jobs.items c.self.inside.first c.self.invariant.is_first (subst (λ n. n ≤ c.self.inside.first) (c.len.ensures ∙ (c.self.inside.jobs.ok).0) c.if-self-len.false))
