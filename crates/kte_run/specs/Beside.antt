-- A run at a desk: what the editor's and the checkers' passes know once they are done. This
-- project's own rules.
use Rattle.std.specs.Prelude.{◌≡◌, ℕ, ◌+◌, ◌<◌, ◌^◌, Bool, true, false, List, [], Option, Some, None, IfSome, IsSome, is_some, length}
use Rattle.atomic_table.specs.Seated.{TableId}
use Rattle.kte_turn.specs.Passes.{pass_turn}
use Rattle.kte_swap.specs.Swap.{SwapView}
use Rattle.kte_swap.specs.declared.causes.SwapState.TheVariants.{Guarded}
use Rattle.kte_command.specs.declared.command.Command.{Command}
use Rattle.kte_desk.specs.Seen.{Sees, FromOrigin, first_state, seen_state}
use Rattle.kte_desk.specs.Passes.{IsEditorOf, checker_known, editor_known, work_of}
use Rattle.kte_desk.specs.declared.desk.Desk.{Desk}
use Rattle.kte_desk.specs.declared.pass.CheckerPass.{CheckerPass}
use Rattle.kte_desk.specs.declared.pass.EditorPass.{EditorPass}
use Rattle.kte_run.specs.declared.status.Status.{Status}
use Rattle.kte_run.specs.Editor.{Part, part_of, work}
use Rattle.kte_run.specs.Alone.{Asking, GoesOn, TellsDisk}
use Rattle.kte_run.specs.Checked.{CheckerDid, EditorDid}
use Rattle.kte_run.specs.Run.{Outer}

-- a pass after some calls: it has seen more, and made more events in more turns, and all else is as
-- it was
abbrev pub IsLater : Sees → Sees → Type 0
IsLater before after =
    after ≡ record before { seen = after.seen; own = after.own; turns = after.turns }

-- a pass that has seen nothing and made nothing
pub record IsNew (sees : Sees) : Type 0 where
  pub seen : sees.seen ≡ []
  pub own : sees.own ≡ []

-- ---- the editor

-- the editor may make so many requests more: it makes fewer than 2^31 in all
abbrev pub HasRequests : ℕ → Part → Type 0
HasRequests made part = made + work part < 2 ^ 31

-- Unless memory ran out, the part knows the state that the pass has seen last: for some script, the
-- requests so far were made, and those that are left are the part's
abbrev pub Knows : Sees → Part → Type 0
Knows sees part =
    part.failed ≡ false → FromOrigin sees (λ origin. (commands : List Command)
    × Asking commands (first_state origin) (seen_state origin sees) sees.seen part)

-- The editor is done with a script: what it has seen and made, and what this tells of the disk,
-- where the run ends so
pub record HasEdited (commands : List Command) (swap : SwapView) (ending : Status)
    (sees : Sees) (before after : Outer) : Type 0 where
  pub did : FromOrigin sees (λ origin. EditorDid commands (first_state origin) sees.seen sees.own)
  pub tells : FromOrigin sees (λ origin.
      TellsDisk ending (first_state origin) sees.seen swap before after)

-- .. if it began with these commands, at a desk without events, beside an empty swap file
abbrev pub EditsTo : Part → Sees → Status → Sees → Outer → Outer → Type 0
EditsTo part first ending sees before after =
    (commands : List Command) (swap : SwapView) → part ≡ part_of commands swap
    → swap.state ≡ Guarded → IsNew first → HasEdited commands swap ending sees before after

-- an editor with this part may make its requests with this pass
pub record CanEdit (desk : Desk) (pass : EditorPass) (part : Part) : Type 0 where
  pub own : IsEditorOf desk pass
  pub origin : IsSome (editor_known pass).origin
  pub few : HasRequests (length (editor_known pass).own) part
  pub knows : ∥ Knows (editor_known pass) part ∥₁

-- What an editor with this part and this pass has done, whose run ends so unless memory ran out
pub record Edits (part : Part) (before after : EditorPass) (ending : Option Status)
    (disk later_disk : Outer) : Type 0 where
  pub desk : pass_turn after.pass ≡ pass_turn before.pass
  pub later : IsLater (editor_known before) (editor_known after)
  pub goes_on : GoesOn disk later_disk
  pub edits : IfSome ending (λ ends.
      EditsTo part (editor_known before) ends (editor_known after) disk later_disk)

-- .. and it has its pass
abbrev pub EditsWith : Part → EditorPass → Option EditorPass → Option Status → Outer → Outer → Type 0
EditsWith part before now ending disk later_disk =
    (after : EditorPass) × (now ≡ Some after) × Edits part before after ending disk later_disk

-- ---- a checker

-- the checker is done: in what it has seen the session is closed, no job waits, and it has none
abbrev pub HasChecked : Sees → Type 0
HasChecked sees = FromOrigin sees (λ origin.
    CheckerDid (first_state origin) sees.seat sees.seen sees.own)

-- What a checker with this pass has done, for whom memory ran out or not: it has its pass
pub record Checks (before after : CheckerPass) (done : Bool) : Type 0 where
  pub desk : pass_turn after.pass ≡ pass_turn before.pass
  pub later : IsLater (checker_known before) (checker_known after)
  pub checked : done ≡ true → (checker_known before).own ≡ [] → HasChecked (checker_known after)

-- ---- a pass that may be there

-- the desk of the pass, if there is one
abbrev pub desk_of_checker : TableId → Option CheckerPass → TableId
desk_of_checker desk None = desk
desk_of_checker desk (Some pass) = pass_turn pass.pass

-- whether the pass has a job, if there is a pass
abbrev pub is_busy : Option CheckerPass → Bool
is_busy None = false
is_busy (Some pass) = is_some (work_of pass)
