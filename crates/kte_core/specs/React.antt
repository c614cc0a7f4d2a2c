-- What a request makes of the present state, and what is replied. Source: KTextEditor's Document
-- and MovingRange; the order of refusals, and that numbers of ranges rise from 1, are this
-- project's own.
use Rattle.std.specs.Prelude.{ℕ, ◌+◌, ◌<◌, Bool, true, false, ◌==◌, ◌||◌, List, [], ◌∷◌, ◌++◌, length, Option, Some, None, if◌then◌else◌}
use Rattle.std.specs.FinMap.{get, insert, remove}
use Rattle.std.specs.Option.{option_to_list}
use Rattle.kte_text.specs.declared.primitive.Primitive.{Primitive}
use Rattle.kte_place.specs.Ends.{Ends}
use Rattle.kte_place.specs.declared.span.Expand.{Expand}
use Rattle.kte_place.specs.declared.span.Empty.{Empty}
use Rattle.kte_ranges.specs.declared.info.RangeKind.TheVariants.{User}
use Rattle.kte_history.specs.declared.lock.Owner.TheVariants.{Editor}
use Rattle.kte_history.specs.Locks.{oldest, is_locked, has_lock, unlocked}
use Rattle.kte_doc.specs.Trail.{stand}
use Rattle.kte_fold.specs.declared.refused.FoldRefused.{FoldRefused}
use Rattle.kte_search.specs.Found.{first_match, last_match, all_matches}
use Rattle.kte_jobs.specs.Jobs.{least_waiting}
use Rattle.kte_command.specs.declared.command.Command.{Command}
use Rattle.kte_command.specs.declared.command.Command.TheVariants.{Edit, Begin, End, Undo, Redo, MakeRange, SetRange, DropRange, ShowRange, Lock, Unlock, Land, Fold, Unfold, Find, FindBack, All, Check, Sync, Save}
use Rattle.kte_core.specs.Editing.{text_of, revision_of, still_open, change_reaction, begin_reaction, end_reaction, undo_reaction, redo_reaction, cut_reaction, carried}
use Rattle.kte_core.specs.State.{Range, stands, made_now, set_now, State, Reaction, replied, refused, edited}
use Rattle.kte_core.specs.Folds.{only_fold, no_fold, fold_now, fold_refusal}
use Rattle.kte_core.specs.Jobs.{post, take_job, deliver, give_back, taken_at}
use Rattle.kte_core.specs.declared.request.Request.{Request}
use Rattle.kte_core.specs.declared.request.Request.TheVariants.{Cmd, Close, Take, Deliver, GiveBack, Outcome}
use Rattle.kte_core.specs.declared.reply.Reply.{Reply}
use Rattle.kte_core.specs.declared.reply.Reply.TheVariants as reply
use Rattle.kte_core.specs.declared.reply.Refusal.{Refusal}
use Rattle.kte_core.specs.declared.reply.Refusal.TheVariants as refusal
use Rattle.kte_core.specs.declared.reply.Refusal.TheVariants.{NoRange, NoFold, NoMatch, NotLocked, NotOwned, Closed}

-- the range is put under the number, and the reply says where it stands
abbrev pub placed : State → ℕ → Range → Reaction
placed state id range = record {
  reply = reply.Range id (stands state.editing range);
  made = [];
  finished = None;
  after = record state { ranges = insert state.ranges id range };
}

-- setting a range, if there is one of this number
abbrev pub set_range : State → ℕ → Ends → Option Range → Reaction
set_range state id span None = refused state (NoRange id)
set_range state id span (Some range) = placed state id (set_now state.editing span range)

-- the range of a number is removed
abbrev pub dropped : State → ℕ → Reaction
dropped state id = record {
  reply = reply.Dropped id;
  made = [];
  finished = None;
  after = record state { ranges = remove state.ranges id };
}

-- removing a range, if there is one of this number
abbrev pub drop_range : State → ℕ → Option Range → Reaction
drop_range state id None = refused state (NoRange id)
drop_range state id (Some range) = dropped state id

-- where a range stands, if there is one of this number
abbrev pub show_range : State → ℕ → Option Range → Reaction
show_range state id None = refused state (NoRange id)
show_range state id (Some range) = replied state (reply.Range id (stands state.editing range))

-- locking the present revision for the editor
abbrev pub lock : State → Reaction
lock state = record {
  reply = reply.Locked (revision_of state.editing);
  made = [];
  finished = None;
  after = record state {
    locks = state.locks ++ record { owner = Editor; revision = revision_of state.editing } ∷ [];
  };
}

-- removing one of the editor's locks, if it has one there
abbrev pub unlock : State → ℕ → Bool → Reaction
unlock state revision true = record {
  reply = reply.Unlocked revision;
  made = [];
  finished = None;
  after = record state { locks = unlocked state.locks Editor revision };
}
unlock state revision false = refused state (NotOwned revision)

-- the revision is the present one, or is locked by anybody
abbrev pub can_land_from : State → ℕ → Bool
can_land_from state revision =
    revision == revision_of state.editing || is_locked state.locks revision

-- where a span lands: where a range stands that was made of it at the revision
abbrev pub land : State → ℕ → Ends → Expand → Empty → Bool → Reaction
land state revision span expand empty true =
    replied state (reply.Landed (stand state.editing.loaded.text state.editing.trail expand empty
    (record { revision = revision; span = span })))
land state revision span expand empty false =
    refused state (NotLocked revision (oldest state.locks))

-- making a fold, if the span may be folded
abbrev pub fold : State → Ends → Option FoldRefused → Reaction
fold state span None =
    placed (record state { next_id = state.next_id + 1 }) state.next_id
    (fold_now state.editing span)
fold state span (Some cause) = refused state (refusal.Fold cause)

-- removing a fold, if there is one of this number
abbrev pub drop_fold : State → ℕ → Option Range → Reaction
drop_fold state id None = refused state (NoFold id)
drop_fold state id (Some range) = dropped state id

-- what is replied of the matches that a search has found
abbrev pub told_found : List Ends → Reply
told_found [] = reply.Refused NoMatch
told_found (first ∷ others) = reply.Found (first ∷ others)

-- what is to be done outside of the core is asked for, if no transaction is open
abbrev pub ask_outside : State → Option Refusal → Reaction
ask_outside state None = replied state reply.Asked
ask_outside state (Some refusal) = refused state refusal

-- what comes of a command: only changes, transactions, undo and redo change what is edited
abbrev pub react_command : State → Command → Reaction
react_command state (Edit change) = edited state (change_reaction state.editing change)
react_command state Begin = edited state (begin_reaction state.editing)
react_command state End = edited state (end_reaction state.editing)
react_command state Undo = edited state (undo_reaction state.editing)
react_command state Redo = edited state (redo_reaction state.editing)
react_command state (MakeRange span expand empty) =
    placed (record state { next_id = state.next_id + 1 }) state.next_id
    (made_now state.editing span expand empty User)
react_command state (SetRange id span) =
    set_range state id span (no_fold (get state.ranges id))
react_command state (DropRange id) = drop_range state id (no_fold (get state.ranges id))
react_command state (ShowRange id) = show_range state id (no_fold (get state.ranges id))
react_command state Lock = lock state
react_command state (Unlock revision) =
    unlock state revision (has_lock state.locks Editor revision)
react_command state (Land revision span expand empty) =
    land state revision span expand empty (can_land_from state revision)
react_command state (Fold span) = fold state span (fold_refusal state span)
react_command state (Unfold id) = drop_fold state id (only_fold (get state.ranges id))
react_command state (Find from query) =
    replied state (told_found (option_to_list (first_match query (text_of state.editing) from)))
react_command state (FindBack before query) =
    replied state (told_found (option_to_list (last_match query (text_of state.editing) before)))
react_command state (All query) =
    replied state (told_found (all_matches query (text_of state.editing)))
react_command state (Check rule) = post state rule
react_command state Sync = ask_outside state (still_open state.editing.edits.depth)
react_command state Save = ask_outside state (still_open state.editing.edits.depth)

-- a closed session refuses this, whatever else would come of it
abbrev pub unless_closed : State → Reaction → Reaction
unless_closed state reaction = if state.closed then refused state Closed else reaction

-- the session is closed, at whatever depth
abbrev pub close : State → Reaction
close state = record {
  reply = reply.Closed;
  made = [];
  finished = None;
  after = record state { closed = true };
}

-- what comes of a seat's request
abbrev pub react : State → ℕ → Request → Reaction
react state seat (Cmd command) = unless_closed state (react_command state command)
react state seat Close = unless_closed state (close state)
react state seat Take = take_job state seat (least_waiting state.jobs)
react state seat (Deliver job findings) =
    deliver state job findings (taken_at state.jobs seat job)
react state seat (GiveBack job) = give_back state job (taken_at state.jobs seat job)
react state seat (Outcome call ok) = replied state reply.Noted

-- what comes of a seat's request where memory runs out after so many primitives; no request but a
-- command makes any
abbrev pub react_cut : State → ℕ → Request → ℕ → Reaction
react_cut state seat (Cmd command) n = edited state (cut_reaction state.editing command n)
react_cut state seat _ n = edited state (carried reply.Cut state.editing [] state.editing.edits)

-- what comes of a seat's request: after so many primitives memory may have run out
abbrev pub react_by : State → ℕ → Request → Option ℕ → Reaction
react_by state seat request None = react state seat request
react_by state seat request (Some n) = react_cut state seat request n

-- the number of primitives that were made before memory ran out, if the reply says that it did
abbrev pub cut_at : Reply → Option ℕ
cut_at (reply.Cut steps revision depth) = Some steps
cut_at _ = None

-- memory runs out only between two primitives that the request calls for
abbrev pub CutsBetween : List Primitive → Option ℕ → Type 0
CutsBetween primitives None = Unit {0}
CutsBetween primitives (Some n) = (0 < n) × (n < length primitives)
