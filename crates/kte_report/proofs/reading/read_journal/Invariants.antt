use Rattle.std.proofs.Common.{◌≡◌, ◌+◌, ◌≤◌, length}
use Rattle.kte_report.specs.Journal.{HasRead}
use Rattle.kte_report.proofs.reading.read_journal.Given as goal

abbrev pub invariant-events : goal.invariant-events
invariant-events l = record {
  read : HasRead l.bytes l.rest l.count l.journal.events;
  counted : length l.journal.events ≡ l.n;
  within : l.n + 1 ≤ length l.bytes;
}
