-- Why groups can be undone and redone: their steps lead from text to text.
use Rattle.std.specs.Prelude.{◌≡◌, ℕ, ◌<◌, ◌≤◌, List, [], length, reverse, All}
use Rattle.std.specs.List.{flat_map}
use Rattle.kte_text.specs.Texts.{IsText}
use Rattle.kte_text.specs.Primitives.{HasLine, FitInTurn, after_all}
use Rattle.kte_text.specs.declared.primitive.Primitive.{Primitive}
use Rattle.kte_undo.specs.Steps.{steps_along, undo_of, redo_of}
use Rattle.kte_undo.specs.Groups.{Edits, Kept, last_of, gone_back, gone_forth}
use Rattle.kte_undo.specs.declared.step.Step.{Step}
use Rattle.kte_command.specs.declared.command.Command.{Command}
use Rattle.kte_command.specs.declared.command.Command.TheVariants.{Undo, Redo}
use Rattle.kte_core.specs.declared.edits.Direction.{Direction}
use Rattle.kte_core.specs.declared.edits.Direction.TheVariants.{Back, Forth}

-- these steps lead from one text to another: they are those of primitives that fit it in turn
pub record Leads (steps : List Step) (from to : List (List ℕ)) : Type 0 where
  pub primitives : List Primitive
  pub is_text : IsText from
  pub lines : All HasLine primitives
  pub fit : FitInTurn primitives from
  pub along : steps ≡ steps_along primitives from
  pub reaches : to ≡ after_all primitives from

-- the steps of groups, one group after another
abbrev pub steps_in : List (List Step) → List Step
steps_in groups = flat_map (λ group. group) groups

-- the group has a step
abbrev pub IsFilled : List Step → Type 0
IsFilled group = 0 < length group

-- The groups fit the present text. Those to be undone led, one after another, to the text in which
-- the open transaction began, and its steps from there to the present text. Those to be redone, the
-- next one last, lead on from where it began: what it holds shuts them off. No group is empty, and
-- outside of a transaction there are no steps
pub record GroupsFit (edits : Edits) (text : List (List ℕ)) : Type 0 where
  pub oldest : List (List ℕ)
  pub opened : List (List ℕ)
  pub newest : List (List ℕ)
  pub undo : Leads (steps_in edits.undo) oldest opened
  pub current : Leads edits.current opened text
  pub redo : Leads (steps_in (reverse edits.redo)) opened newest
  pub undo_filled : All IsFilled edits.undo
  pub redo_filled : All IsFilled edits.redo
  pub shut : edits.depth ≡ 0 → edits.current ≡ []

-- An undo goes back, and a redo forth: the command, the groups of which the last one goes, the
-- primitives that it makes, and the groups after so many of them
abbrev pub command_of : Direction → Command
command_of Back = Undo
command_of Forth = Redo

abbrev pub groups_to : Direction → Edits → List (List Step)
groups_to Back edits = edits.undo
groups_to Forth edits = edits.redo

abbrev pub group_steps : Direction → Edits → List Primitive
group_steps Back edits = undo_of (last_of edits.undo)
group_steps Forth edits = redo_of (last_of edits.redo)

abbrev pub gone : Direction → ℕ → Edits → Edits
gone Back done edits = gone_back done edits
gone Forth done edits = gone_forth done edits

-- .. and for how many groups there is room where it goes
abbrev pub places : Direction → Kept → ℕ
places Back kept = kept.room.backs
places Forth kept = kept.room.forths

-- there is room for the last group to go
pub record HasRoom (direction : Direction) (kept : Kept) : Type 0 where
  pub place : 0 < places direction kept
  pub steps : length (last_of (groups_to direction kept.edits)) ≤ kept.room.steps
