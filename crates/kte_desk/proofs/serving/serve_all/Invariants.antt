use Rattle.std.proofs.Common.{◌≡◌}
use Rattle.kte_core.specs.Editing.{text_of}
use Rattle.kte_core.specs.JobsInWords.{count_waiting}
use Rattle.kte_core.specs.Replay.{present}
use Rattle.kte_desk.specs.Serving.{CanDrain, IsIdle, NoneTaken, Serves}
use Rattle.kte_desk.proofs.serving.serve_all.Given as goal

-- the jobs so far were served, and the others can be, in the same text
abbrev pub invariant-loop-job : goal.invariant-loop-job
invariant-loop-job g l =
    CanDrain (present l.core) × (IsIdle (present l.fn.core) → Serves l.fn.core l.core × IsIdle (present l.core))
    × (NoneTaken (present l.fn.core) → NoneTaken (present l.core))
    × (l.text ≡ text_of (present l.core).editing)

-- how many jobs wait
abbrev pub decreases-loop-job : goal.decreases-loop-job
decreases-loop-job g l = count_waiting (present l.core)
