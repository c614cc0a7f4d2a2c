use Rattle.kte_history.proofs.LandingLemmas.{lands_in_text, lands_past_text}
use Rattle.kte_history.proofs.laws.lines.Goals as goal

pub returns-clause-inside : goal.returns-clause-inside
returns-clause-inside c = lands_in_text

pub returns-clause-past : goal.returns-clause-past
returns-clause-past c = lands_past_text
