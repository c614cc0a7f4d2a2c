-- Which requests a core may be asked. This project's own rules.
use Rattle.std.specs.Prelude.{◌≡◌, ℕ, ◌+◌, ◌-◌, ◌<◌, ◌≤◌, ◌^◌, length, All}
use Rattle.kte_place.specs.Ends.{SpanIsInReach}
use Rattle.kte_edit.specs.Steps.{IsChange}
use Rattle.kte_command.specs.Commands.{InRange}
use Rattle.kte_command.specs.declared.command.Command.{Command}
use Rattle.kte_command.specs.declared.command.Command.TheVariants.{Edit}
use Rattle.kte_core.specs.State.{State}
use Rattle.kte_core.specs.declared.request.Request.{Request}
use Rattle.kte_core.specs.declared.request.Request.TheVariants.{Cmd, Close, Take, Deliver, GiveBack, Outcome}

-- Commands, the close of the session and what came of a call outside come from the editor, whose
-- seat is 0. Lines and columns of spans are at most 2^30
abbrev pub IsAllowed : ℕ → Request → Type 0
IsAllowed seat (Cmd command) = (seat ≡ 0) × InRange command
IsAllowed seat Close = seat ≡ 0
IsAllowed seat Take = Unit {0}
IsAllowed seat (Deliver job findings) = All SpanIsInReach findings
IsAllowed seat (GiveBack job) = Unit {0}
IsAllowed seat (Outcome call ok) = seat ≡ 0

-- how many ranges a request may make
abbrev pub ranges_of : Request → ℕ
ranges_of (Deliver job findings) = length findings
ranges_of _ = 1

-- There are numbers left: for one more open transaction, for one more job, and for the ranges that
-- the request may make
pub record HasNumbers (state : State) (request : Request) : Type 0 where
  pub depth : state.editing.edits.depth < 2 ^ 32 - 1
  pub jobs : length state.jobs < 2 ^ 32 - 1
  pub ranges : state.next_id + ranges_of request ≤ 2 ^ 63

-- what every command holds: its change is one
abbrev pub HoldsChange : Command → Type 0
HoldsChange (Edit change) = IsChange change
HoldsChange _ = Unit {0}

-- .. and so every request
abbrev pub IsWhole : Request → Type 0
IsWhole (Cmd command) = HoldsChange command
IsWhole _ = Unit {0}
