-- What clauses say of a desk and of its passes. This project's own rules.
use Rattle.std.specs.Prelude.{◌≡◌, ℕ, ◌+◌, List, All, Option, sum_by}
use Rattle.atomic_table.specs.Seated.{TableId}
use Rattle.kte_turn.specs.Passes.{pass_known, pass_turn, turn_id}
use Rattle.kte_core.specs.declared.event.Event.{Event}
use Rattle.kte_desk.specs.Seen.{Sees}
use Rattle.kte_desk.specs.declared.desk.Desk.{Desk}
use Rattle.kte_desk.specs.declared.pass.CheckerPass.{CheckerPass}
use Rattle.kte_desk.specs.declared.pass.EditorPass.{EditorPass}
use Rattle.kte_desk.specs.declared.work.Work.{Work}

-- what the editor's pass knows
abbrev pub editor_known : EditorPass → Sees
editor_known pass = pass_known pass.pass

-- what a checker's pass knows
abbrev pub checker_known : CheckerPass → Sees
checker_known pass = pass_known pass.pass

-- the job that a checker's pass has
abbrev pub work_of : CheckerPass → Option Work
work_of pass = pass.work

-- which desk it is, and which one a pass is of
abbrev pub desk_id : Desk → TableId
desk_id desk = turn_id desk.turn

abbrev pub IsEditorOf : Desk → EditorPass → Type 0
IsEditorOf desk pass = pass_turn pass.pass ≡ desk_id desk

abbrev pub IsCheckerOf : Desk → CheckerPass → Type 0
IsCheckerOf desk pass = pass_turn pass.pass ≡ desk_id desk

-- for how many seats a checker's pass stands, and the events that it made
abbrev pub share_of : CheckerPass → ℕ
share_of pass = (checker_known pass).share

abbrev pub own_of : CheckerPass → List Event
own_of pass = (checker_known pass).own

-- these are all passes of the desk
pub record AreAll (desk : Desk) (editor : EditorPass) (checkers : List CheckerPass) : Type 0 where
  pub editor_of : IsEditorOf desk editor
  pub checkers_of : All (IsCheckerOf desk) checkers
  pub shares : (editor_known editor).share + sum_by share_of checkers
      ≡ (editor_known editor).seats
