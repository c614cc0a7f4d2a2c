use Rattle.std.proofs.Common.{ℕ, List}
use Rattle.std.specs.Prelude.{IfSome, IsSome}
use Rattle.kte_text.specs.Texts.{IsText}
use Rattle.kte_core.specs.Editing.{text_of}
use Rattle.kte_core.specs.Replay.{present}
use Rattle.kte_run.specs.Outcomes.{Begins}
use Rattle.kte_run.proofs.AskLemmas.{AskingAlone, first_state}
use Rattle.kte_run.specs.Editor.{work}
use Rattle.kte_run.proofs.CountLemmas.{Counting}
use Rattle.kte_run.proofs.KeepLemmas.{Keeping}
use Rattle.kte_run.proofs.alone.ask_all.Given as goal

-- the requests so far were made, the disk counts what failed and goes on telling, and it holds what
-- the events tell
abbrev pub invariant-loop-request : goal.invariant-loop-request
invariant-loop-request g l =
    AskingAlone l.fn.commands.items l.fn.core l.core l.editor
    × Counting l.core.events l.editor (g.D.Disk.faults l.fn.disk) (g.D.Disk.faults l.disk)
    × IsText (text_of (present l.core).editing)
    × IfSome (g.D.Disk.moments l.fn.disk) (λ told. IsSome (g.D.Disk.moments l.disk))
    × ((file : List ℕ) → Begins file l.fn.core.loaded l.fn.swap (g.D.Disk.moments l.fn.disk)
    → Keeping file (first_state l.fn.core) (present l.core) l.core.events l.editor (g.D.Disk.moments l.disk))

-- how many are left
abbrev pub decreases-loop-request : goal.decreases-loop-request
decreases-loop-request g l = work l.editor
