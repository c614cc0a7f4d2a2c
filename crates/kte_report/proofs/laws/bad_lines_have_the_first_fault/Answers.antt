use Rattle.kte_report.specs.Journal.{BeginsJournal}
use Rattle.kte_report.proofs.FaultLemmas.{fault_in_bad_line, some_fault, one_line}
use Rattle.kte_report.proofs.JournalLemmas.{begins_closed, begins_empty}
use Rattle.kte_report.proofs.laws.bad_lines_have_the_first_fault.Goals as goal

pub returns-clause-first : goal.returns-clause-first
returns-clause-first c = λ bytes before line bad first. fault_in_bad_line BeginsJournal begins_closed bytes before line bad.bad first

pub returns-clause-some : goal.returns-clause-some
returns-clause-some c = some_fault BeginsJournal begins_empty

pub returns-clause-one : goal.returns-clause-one
returns-clause-one c = λ bytes line other a b. one_line BeginsJournal begins_closed begins_empty bytes line other a.bad b.bad
