use Rattle.kte_report.proofs.EventLemmas.{one_event}
use Rattle.kte_report.proofs.JournalLemmas.{one_journal}
use Rattle.kte_report.proofs.laws.texts_are_of_one_journal.Goals as goal

pub returns-clause-journal : goal.returns-clause-journal
returns-clause-journal c = one_journal

pub returns-clause-event : goal.returns-clause-event
returns-clause-event c = one_event
