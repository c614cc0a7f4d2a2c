use Rattle.std.proofs.Common.{◌≤◌, ◌-◌, length}
use Rattle.kte_jobs.specs.Inside.{NoneWaits}
use Rattle.kte_jobs.proofs.jobs.first_waiting.Given as goal

-- no job from the start up to here waits
abbrev pub invariant-loop-first : goal.invariant-loop-first
invariant-loop-first l = record { order : l.start ≤ l.first; within : l.first ≤ length l.jobs; none : NoneWaits l.jobs l.start l.first }

abbrev pub decreases-loop-first : goal.decreases-loop-first
decreases-loop-first l = length l.jobs - l.first
