use Rattle.std.proofs.Common.{◌∙◌, List, ap, subst, sym, refl}
use Rattle.kte_jobs.specs.declared.job.JobState.TheVariants.{Done}
use Rattle.kte_jobs.specs.Job.{Job}
use Rattle.kte_jobs.specs.Jobs.{IsTaken, with_state}
use Rattle.kte_jobs.proofs.JobLemmas.{taken_changed, finished_holds}
use Rattle.kte_jobs.proofs.jobs.Jobs.finish.Goals as goal

pub invariant_of-self : goal.invariant_of-self
invariant_of-self c =
    let jobs = c.self.inside.jobs.items in
    finished_holds jobs c.self.inside.first c.args.job (record { rule = c.entry.inside.rule; state = c.entry.inside.state }) c.index_mut-entry.result.now
    c.self.invariant (subst (λ (js : List Job). IsTaken js c.args.job) (sym c.self.view_is) c.requires)
    (c.entry.view_is ∙ c.index_mut-entry.ensures.value) Done refl

pub returns : goal.returns
returns c =
    let jobs = c.self.inside.jobs.items in
    taken_changed jobs c.self.inside.first c.args.job (record { rule = c.entry.inside.rule; state = c.entry.inside.state }) c.index_mut-entry.result.now
    c.self.invariant (subst (λ (js : List Job). IsTaken js c.args.job) (sym c.self.view_is) c.requires)
    (c.entry.view_is ∙ c.index_mut-entry.ensures.value) Done
    ∙ ap (λ (js : List Job). with_state js c.args.job Done) c.self.view_is
