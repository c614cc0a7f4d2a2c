-- What a rule finds in a text: so few places, and each in reach.
use Rattle.std.proofs.Common.{ℕ, ◌≤◌, List, [], length, get_or, All, sym, subst, ap, arith}
use Rattle.std.proofs.lemmas.List.{length-take}
use Rattle.std.proofs.lemmas.List.Elements.{All-take, Contains-get_or}
use Rattle.std.proofs.lemmas.List.Sums.{get_or-le-sum_by}
use Rattle.kte_text.specs.Texts.{IsText}
use Rattle.kte_place.specs.Ends.{Ends, SpanIsInReach}
use Rattle.kte_find.specs.Rule.{HasWord}
use Rattle.kte_find.specs.Findings.{AreFindings, IsFinding}
use Rattle.kte_find.specs.declared.found.TheConstants.{MAX_FINDINGS}
use Rattle.kte_find.specs.declared.rule.Rule.{Rule}
use Rattle.kte_find.proofs.LawLemmas.{finding_there, finding_same, finding_some, finding_within}

-- a place that is found is in reach, since a text is small
in_reach : (rule : Rule) (text : List (List ℕ)) (span : Ends) → HasWord rule → IsText text → IsFinding rule text span → SpanIsInReach span
in_reach rule text span word is found =
    let there = finding_there rule text span found in
    let same = finding_same rule text span found in
    let some = finding_some rule text span word found in
    let within = finding_within rule text span found in
    let line = get_or-le-sum_by length text span.start.line [] there in
    let small = is.small in
    record { start = (omega arith, omega arith); end = (omega arith, omega arith) }

-- .. and so is each of some
pub all_in_reach : (rule : Rule) (text : List (List ℕ)) (findings : List Ends) → HasWord rule → IsText text → AreFindings rule text findings
    → All SpanIsInReach findings
all_in_reach rule text findings word is found =
    subst (All SpanIsInReach) (sym found.first)
    (All-take SpanIsInReach MAX_FINDINGS found.all
    (λ k d within. in_reach rule text (get_or found.all k d) word is ((found.are_all.each (get_or found.all k d)).0 (Contains-get_or found.all k d within))))

pub few_found : (rule : Rule) (text : List (List ℕ)) (findings : List Ends) → AreFindings rule text findings → length findings ≤ MAX_FINDINGS
few_found rule text findings found = omega (arith, ap length found.first, length-take MAX_FINDINGS found.all)
