-- The job that a checker works on. This project's own rules.
use Rattle.std.specs.Prelude.{ℕ, List, Option, Some, None}
use Rattle.kte_text.specs.Texts.{IsText}
use Rattle.kte_doc.specs.Trail.{text_at}
use Rattle.kte_core.specs.State.{State}
use Rattle.kte_core.specs.JobsInWords.{IsFree, WorksOn}
use Rattle.kte_desk.specs.Seen.{Sees, SeesState}
use Rattle.kte_desk.specs.declared.work.Work.{Work}

abbrev pub job_of : Work → ℕ
job_of work = work.job

-- the text at a revision
abbrev pub text_then : State → ℕ → List (List ℕ)
text_then state revision = text_at state.editing.loaded.text state.editing.trail revision

-- the seat works on the job alone, which it took at this revision of the text
pub record IsWork (state : State) (seat : ℕ) (work : Work) : Type 0 where
  pub works : WorksOn state seat work.job work.revision
  pub text : IsText (text_then state work.revision)

-- the seat has this job alone, or none
abbrev pub Works : State → ℕ → Option Work → Type 0
Works state seat None = IsFree state seat
Works state seat (Some work) = IsWork state seat work

-- .. in the state that the pass has seen last
abbrev pub WorksAsSeen : Sees → Option Work → Type 0
WorksAsSeen sees work = SeesState sees (λ state. Works state sees.seat work)
