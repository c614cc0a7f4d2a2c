-- What is edited, and what comes of changes, transactions, undo and redo. Source: KTextEditor's
-- Document with its editing transactions and its undo manager; the limit of revisions, the order of
-- refusals and that a group may be cut in two are this project's own.
use Rattle.std.specs.Prelude.{ℕ, ◌+◌, ◌==◌, List, [], ◌∷◌, ◌++◌, length, take, nat_lt, Option, Some, None, if◌then◌else◌}
use Rattle.std.specs.Option.{option_map, option_or}
use Rattle.kte_text.specs.Saving.{bytes_of}
use Rattle.kte_text.specs.Primitives.{after_all}
use Rattle.kte_text.specs.declared.primitive.Primitive.{Primitive}
use Rattle.kte_text.specs.declared.loading.Loaded.{Loaded}
use Rattle.kte_edit.specs.Steps.{steps_of, change_misfit}
use Rattle.kte_edit.specs.declared.change.Change.{Change}
use Rattle.kte_undo.specs.Steps.{steps_along, redo_of}
use Rattle.kte_undo.specs.Groups.{Edits, begun, ended}
use Rattle.kte_undo.specs.declared.step.Step.{Step}
use Rattle.kte_command.specs.declared.command.Command.{Command}
use Rattle.kte_command.specs.declared.command.Command.TheVariants as command
use Rattle.kte_core.specs.Groups.{group_steps, gone}
use Rattle.kte_core.specs.declared.edits.Direction.TheVariants.{Back, Forth}
use Rattle.kte_core.specs.declared.reply.Reply.{Reply}
use Rattle.kte_core.specs.declared.reply.Reply.TheVariants as reply
use Rattle.kte_core.specs.declared.reply.Refusal.{Refusal}
use Rattle.kte_core.specs.declared.reply.Refusal.TheVariants.{Misfit, NotOpen, StillOpen, Nothing, RevisionsFull}

-- What is edited: what was loaded, how many primitives may be made, those made since, in order, and
-- their groups: the open transaction, and what may be undone and redone
pub record Editing : Type 0 where
  pub loaded : Loaded
  pub limit : ℕ
  pub trail : List Primitive
  pub edits : Edits

-- what is edited at first: the loaded text, of which nothing was changed
abbrev pub unchanged : Loaded → ℕ → Editing
unchanged loaded limit = record {
  loaded = loaded;
  limit = limit;
  trail = [];
  edits = record { depth = 0; current = []; undo = []; redo = [] };
}

-- the present text
abbrev pub text_of : Editing → List (List ℕ)
text_of editing = after_all editing.trail editing.loaded.text

-- the bytes that saving writes now
abbrev pub saved_form : Editing → List ℕ
saved_form editing = bytes_of (text_of editing) editing.loaded.eol editing.loaded.bom

-- the present revision: how many primitives have been made
abbrev pub revision_of : Editing → ℕ
revision_of editing = length editing.trail

-- What comes of a command that edits: the reply, the primitives that were made, the transaction
-- that it finishes, if it finishes one that has primitives, and what is edited after it
pub record EditReaction : Type 0 where
  pub reply : Reply
  pub made : List Primitive
  pub finished : Option (List Primitive)
  pub after : Editing

-- a command is refused, which changes nothing, or carried out
abbrev pub judged : Option Refusal → Editing → EditReaction → EditReaction
judged (Some refusal) editing carried = record {
  reply = reply.Refused refusal;
  made = [];
  finished = None;
  after = editing;
}
judged None editing carried = carried

-- the causes of a refusal: so many primitives would lead past the limit
abbrev pub full : Editing → List Primitive → Option Refusal
full editing primitives =
    if nat_lt editing.limit (revision_of editing + length primitives)
    then Some (RevisionsFull (revision_of editing)) else None

-- .. no transaction is open
abbrev pub not_open : ℕ → Option Refusal
not_open depth = if depth == 0 then Some NotOpen else None

-- .. a transaction is open
abbrev pub still_open : ℕ → Option Refusal
still_open depth = if depth == 0 then None else Some (StillOpen depth)

-- .. there is no group to undo, or to redo
abbrev pub nothing : List (List Step) → Option Refusal
nothing [] = Some Nothing
nothing (group ∷ groups) = None

-- the primitives of a transaction, if it has any
abbrev pub if_made : List Primitive → Option (List Primitive)
if_made [] = None
if_made (first ∷ primitives) = Some (first ∷ primitives)

-- what these primitives finish that were carried out at this depth: outside of a transaction they
-- are one
abbrev pub finished_at : ℕ → List Primitive → Option (List Primitive)
finished_at depth primitives = if depth == 0 then if_made primitives else None

-- These primitives are carried out, after which these are the groups. The reply has their number,
-- the revision and the depth
abbrev pub carried : (ℕ → ℕ → ℕ → Reply) → Editing → List Primitive → Edits → EditReaction
carried told editing primitives edits = record {
  reply = told (length primitives) (length (editing.trail ++ primitives)) edits.depth;
  made = primitives;
  finished = finished_at edits.depth primitives;
  after = record editing { trail = editing.trail ++ primitives; edits = edits };
}

-- these steps more in the open group
abbrev pub noted_all : List Step → Edits → Edits
noted_all steps edits = record edits { current = edits.current ++ steps }

-- the groups after a change of these steps: outside of a transaction it is one
abbrev pub noted_change : List Step → Edits → Edits
noted_change steps edits =
    if edits.depth == 0 then ended (noted_all steps (begun edits)) else noted_all steps edits

-- primitives of a change, of the last group to be undone, and of the last one to be redone: all of
-- them, or the first ones
abbrev pub changed : (ℕ → ℕ → ℕ → Reply) → Editing → List Primitive → EditReaction
changed told editing primitives =
    carried told editing primitives
    (noted_change (steps_along primitives (text_of editing)) editing.edits)

abbrev pub undone : (ℕ → ℕ → ℕ → Reply) → Editing → List Primitive → EditReaction
undone told editing primitives =
    carried told editing primitives (gone Back (length primitives) editing.edits)

abbrev pub redone : (ℕ → ℕ → ℕ → Reply) → Editing → List Primitive → EditReaction
redone told editing primitives =
    carried told editing primitives (gone Forth (length primitives) editing.edits)

-- the primitives that a command calls for
abbrev pub undo_steps : Editing → List Primitive
undo_steps editing = group_steps Back editing.edits

abbrev pub redo_steps : Editing → List Primitive
redo_steps editing = group_steps Forth editing.edits

-- why a change is refused, if it is
abbrev pub change_refusal : Editing → Change → Option Refusal
change_refusal editing change =
    option_or (option_map Misfit (change_misfit change (text_of editing)))
    (full editing (steps_of change (text_of editing)))

-- why an undo or a redo is refused, if it is, from the groups that there are and the primitives of
-- the last one
abbrev pub group_refusal : Editing → List (List Step) → List Primitive → Option Refusal
group_refusal editing groups primitives =
    option_or (still_open editing.edits.depth)
    (option_or (nothing groups) (full editing primitives))

-- what comes of a change, which is judged whole before its first primitive
abbrev pub change_reaction : Editing → Change → EditReaction
change_reaction editing change =
    judged (change_refusal editing change) editing
    (changed reply.Edited editing (steps_of change (text_of editing)))

-- what comes of an undo, and of a redo
abbrev pub undo_reaction : Editing → EditReaction
undo_reaction editing =
    judged (group_refusal editing editing.edits.undo (undo_steps editing)) editing
    (undone reply.Edited editing (undo_steps editing))

abbrev pub redo_reaction : Editing → EditReaction
redo_reaction editing =
    judged (group_refusal editing editing.edits.redo (redo_steps editing)) editing
    (redone reply.Edited editing (redo_steps editing))

-- a transaction is opened
abbrev pub begin_reaction : Editing → EditReaction
begin_reaction editing = record {
  reply = reply.Depth (begun editing.edits).depth;
  made = [];
  finished = None;
  after = record editing { edits = begun editing.edits };
}

-- the innermost transaction is closed; the outermost one is finished then
abbrev pub closing : Editing → EditReaction
closing editing = record {
  reply = reply.Depth (ended editing.edits).depth;
  made = [];
  finished = finished_at (ended editing.edits).depth (redo_of editing.edits.current);
  after = record editing { edits = ended editing.edits };
}

abbrev pub end_reaction : Editing → EditReaction
end_reaction editing = judged (not_open editing.edits.depth) editing (closing editing)

-- What comes of a command where memory runs out after so many primitives: these stand, and no
-- others are made
abbrev pub cut_reaction : Editing → Command → ℕ → EditReaction
cut_reaction editing (command.Edit change) n =
    changed reply.Cut editing (take n (steps_of change (text_of editing)))
cut_reaction editing command.Undo n = undone reply.Cut editing (take n (undo_steps editing))
cut_reaction editing command.Redo n = redone reply.Cut editing (take n (redo_steps editing))
cut_reaction editing _ n = carried reply.Cut editing [] editing.edits
