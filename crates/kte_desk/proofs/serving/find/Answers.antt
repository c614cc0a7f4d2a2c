use Rattle.std.proofs.Common.{length, ◌≤◌, All, Option, Bor, IfSome, subst}
use Rattle.kte_find.specs.Rule.{HasWord}
use Rattle.kte_find.specs.declared.rule.Rule.{Rule}
use Rattle.kte_place.specs.Ends.{SpanIsInReach}
use Rattle.kte_find.specs.Findings.{AreFindings}
use Rattle.kte_find.specs.declared.found.TheConstants.{MAX_FINDINGS}
use Rattle.kte_core.proofs.ReachLemmas.{all_in_reach, few_found}
use Rattle.kte_desk.proofs.FoundLemmas.{on_ok}
use Rattle.kte_desk.proofs.serving.find.Goals as goal

pub returns-in-Some-clause-reach : goal.returns-in-Some-clause-reach
returns-in-Some-clause-reach g c =
    let word = subst (λ (found : Option (Bor Rule)). IfSome found (λ rule. HasWord rule.now)) c.in-Some.is c.rule.ensures.word in
    on_ok c.check.result (λ findings. AreFindings c.in-Some.rule.now c.args.text.now findings) (λ findings. All SpanIsInReach findings)
    (λ findings. all_in_reach c.in-Some.rule.now c.args.text.now findings word c.lines-lines.ensures.is_text) c.check.ensures

pub returns-in-Some-clause-few : goal.returns-in-Some-clause-few
returns-in-Some-clause-few g c =
    on_ok c.check.result (λ findings. AreFindings c.in-Some.rule.now c.args.text.now findings) (λ findings. length findings ≤ MAX_FINDINGS)
    (λ findings. few_found c.in-Some.rule.now c.args.text.now findings) c.check.ensures
