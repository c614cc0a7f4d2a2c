use Rattle.std.proofs.Common.{◌≡◌, None}
use Rattle.kte_desk.specs.Passes.{IsCheckerOf, checker_known, work_of}
use Rattle.kte_run.proofs.CheckerLemmas.{Keeps}
use Rattle.kte_run.proofs.checkers.do_jobs.Given as goal

abbrev pub invariant-loop : goal.invariant-loop
invariant-loop g l = record {
  own : IsCheckerOf l.desk l.pass;
  free : work_of l.pass ≡ None;
  keeps : Keeps (checker_known l.fn.pass) (checker_known l.pass);
}
