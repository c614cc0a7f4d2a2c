-- For callers: what the rule of a job finds in its text may be delivered.
use Rattle.std.proofs.Common.{◌≡◌, ℕ, List, sym, ap, subst, ◌∙◌}
use Rattle.std.proofs.lemmas.Option.{same_Some}
use Rattle.kte_place.specs.Ends.{Ends}
use Rattle.kte_find.specs.Findings.{AreFindings}
use Rattle.kte_find.specs.declared.rule.Rule.{Rule}
use Rattle.kte_jobs.specs.Jobs.{rule_of}
use Rattle.kte_desk.specs.Calls.{AreFound, Takes}
use Rattle.kte_desk.specs.Passes.{checker_known}
use Rattle.kte_desk.specs.Seen.{seen_state}
use Rattle.kte_desk.specs.Works.{text_then}
use Rattle.kte_desk.specs.declared.pass.CheckerPass.{CheckerPass}
use Rattle.kte_desk.specs.declared.pass.Taking.TheVariants as taking
use Rattle.kte_desk.specs.declared.work.Work.{Work}

pub found_taken : (before pass : CheckerPass) (job revision : ℕ) (rule : Rule) (text : List (List ℕ)) (findings : List Ends)
    → Takes before pass (taking.Took job rule revision text) → AreFindings rule text findings → AreFound pass findings
found_taken before pass job revision rule text findings takes are work other has origin from its =
    let state = seen_state origin (checker_known pass) in
    let mine : Work = record { job = job; revision = revision } in
    let same : mine ≡ work = same_Some mine work (sym takes.0 ∙ has) in
    let seen = takes.3 origin from in
    let rules : rule ≡ other = same_Some rule other (sym seen.0 ∙ (ap (λ (w : Work). rule_of state.jobs w.job) same ∙ its)) in
    subst (λ (w : Work). AreFindings other (text_then state w.revision) findings) same
    (subst (λ (r : Rule). AreFindings r (text_then state revision) findings) rules
    (subst (λ (t : List (List ℕ)). AreFindings rule t findings) seen.1 are))
