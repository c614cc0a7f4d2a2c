use Rattle.kte_history.proofs.LandingLemmas.{IsCarried}
use Rattle.kte_history.proofs.landing.carry_all.Given as goal

abbrev pub invariant-loop-entry : goal.invariant-loop-entry
invariant-loop-entry l = IsCarried l.entries l.fn.span l.expand l.empty l.entry-index l.carried
