use Rattle.std.proofs.Common.{◌≡◌, length}
use Rattle.kte_script.specs.Fields.{spans_from, spans_at}
use Rattle.kte_script.proofs.SpansLemmas.{after_spans}
use Rattle.kte_script.proofs.words.Words.spans.Given as goal

abbrev pub invariant-spans : goal.invariant-spans
invariant-spans l =
    after_spans l.spans (spans_from l.limits (length l.self.rest.now) l.self.rest.now)
    ≡ spans_at l.limits l.fn.self.rest.now

abbrev pub decreases-spans : goal.decreases-spans
decreases-spans l = length l.self.rest.now
