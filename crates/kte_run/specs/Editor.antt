-- The editor's part in a run: which request comes next, what a reply tells it, and which calls of
-- the disk follow. This project's own rules.
use Rattle.std.specs.Prelude.{◌≡◌, ◌≢◌, ℕ, zero, suc, ◌+◌, ◌*◌, ◌==◌, length, Bool, true, false, List, [], ◌∷◌, ◌++◌, Option, Some, None, if◌then◌else◌}
use Rattle.kte_text.specs.declared.primitive.Primitive.{Primitive}
use Rattle.kte_undo.specs.Steps.{redo_of}
use Rattle.kte_swap.specs.Swap.{SwapView}
use Rattle.kte_swap.specs.declared.causes.SwapState.{SwapState}
use Rattle.kte_swap.specs.declared.causes.SwapState.TheVariants as swap
use Rattle.kte_command.specs.declared.command.Command.{Command}
use Rattle.kte_command.specs.declared.command.Command.TheVariants.{Sync, Save}
use Rattle.kte_core.specs.State.{State}
use Rattle.kte_core.specs.Replay.{after_event}
use Rattle.kte_core.specs.declared.event.Event.{Event}
use Rattle.kte_core.specs.declared.reply.Reply.{Reply}
use Rattle.kte_core.specs.declared.reply.Reply.TheVariants as reply
use Rattle.kte_core.specs.declared.request.OutsideCall.{OutsideCall}
use Rattle.kte_core.specs.declared.request.OutsideCall.TheVariants as Call
use Rattle.kte_core.specs.declared.request.Request.{Request}
use Rattle.kte_core.specs.declared.request.Request.TheVariants.{Cmd, Close, Outcome}
use Rattle.kte_run.specs.declared.editor.Told.{Told}
use Rattle.kte_desk.specs.Schedule.{Due, nothing, append, outcome, delivery, IsDue, asked_from, asked_in, due_after, lost_by}

-- What the editor has before it: the commands that were not asked for, how many transactions are
-- open, whether the session was closed, and whether memory ran out. Beside it, what it knows of the
-- swap file
pub record Part : Type 0 where
  pub commands : List Command
  pub depth : ℕ
  pub closed : Bool
  pub failed : Bool
  -- the call outside that the last command asks for
  pub asking : Option OutsideCall
  -- what came of the last call outside, which the core has not heard of yet
  pub owed : Option Told
  -- the primitives of the open transaction
  pub current : List Primitive
  pub swap : SwapView
  -- a replacement of the saved file failed
  pub replace_failed : Bool

-- the commands and the close that are left. After a failure only the close is
abbrev pub left : Part → List Request
left part =
    if part.closed then [] else if part.failed then Close ∷ []
    else asked_from part.depth part.commands

-- the first request of some, if there is one
abbrev pub first_of : List Request → Option Request
first_of [] = None
first_of (request ∷ requests) = Some request

-- the request by which an outcome is told
abbrev pub telling : Told → Request
telling told = Outcome told.call told.ok

-- the next request: an outcome that is not told yet, or else the first that is left
abbrev pub next_after : List Request → Option Told → Option Request
next_after requests (Some told) = Some (telling told)
next_after requests None = first_of requests

abbrev pub next_of : Part → Option Request
next_of part = next_after (left part) part.owed

-- the call outside that a command asks for
abbrev pub call_of : Command → Option OutsideCall
call_of Sync = Some Call.Sync
call_of Save = Some Call.Save
call_of _ = None

-- the part once its next request was asked for, before the reply to it: an outcome; the next
-- command; an end, whose reply tells the depth; or the close
abbrev pub asked_next : List Command → ℕ → Part → Part
asked_next (command ∷ commands) depth part =
    record part { commands = commands; asking = call_of command }
asked_next [] (suc depth) part = part
asked_next [] zero part = record part { closed = true }

abbrev pub asked_left : Part → Part
asked_left part =
    if part.closed then part else if part.failed then record part { closed = true }
    else asked_next part.commands part.depth part

abbrev pub asked_after : Option Told → Part → Part
asked_after (Some told) part = record part { owed = None }
asked_after None part = asked_left part

abbrev pub asked : Part → Part
asked part = asked_after part.owed (record part { asking = None })

-- the depth after a reply
abbrev pub depth_told : Reply → ℕ → ℕ
depth_told (reply.Edited steps revision now) depth = now
depth_told (reply.Depth now) depth = now
depth_told _ depth = depth

-- the call outside that follows a reply: what was asked for, or else the append of the transaction
-- that is finished, if one is
abbrev pub call_after : Reply → Option OutsideCall → OutsideCall
call_after reply.Asked (Some Call.Sync) = Call.Sync
call_after reply.Asked (Some Call.Save) = Call.Save
call_after _ asking = Call.Append

-- The primitives of the open transaction after a reply and those made for it, before the call
-- outside. An append takes them, if no transaction is open any more, and else they stay
abbrev pub current_before : List Primitive → Part → List Primitive
current_before made part = part.current ++ made

abbrev pub finished_by : OutsideCall → ℕ → List Primitive → List Primitive
finished_by Call.Append depth primitives = if depth == 0 then primitives else []
finished_by Call.Sync depth primitives = []
finished_by Call.Save depth primitives = []

abbrev pub current_after : OutsideCall → ℕ → List Primitive → List Primitive
current_after Call.Append depth primitives = if depth == 0 then [] else primitives
current_after Call.Sync depth primitives = primitives
current_after Call.Save depth primitives = primitives

-- .. the primitives of the transaction that is finished, none if none is
abbrev pub finished_after : Reply → List Primitive → Part → List Primitive
finished_after answer made part =
    finished_by (call_after answer part.asking) (depth_told answer part.depth)
    (current_before made part)

-- the swap cannot be relied on
abbrev pub is_lost : SwapState → Bool
is_lost swap.Guarded = false
is_lost swap.Lost = true

-- the swap is lost once an outcome is told, if there is one
abbrev pub lost_with : Bool → Option Told → Bool
lost_with lost None = lost
lost_with lost (Some told) = lost_by lost (telling told)

-- The outcome of a call outside, where the swap was lost before it or not. An append has one only if
-- it failed, and it is tried only for a transaction that is finished while the swap is not lost; a
-- sync of a lost swap has failed
abbrev pub IsTold : OutsideCall → Bool → List Primitive → Option Told → Type 0
IsTold Call.Append lost finished None = Unit {0}
IsTold Call.Append lost finished (Some told) =
    (finished ≢ []) × (lost ≡ false) × (told ≡ record { call = Call.Append; ok = false })
IsTold Call.Sync lost finished None = ⊥
IsTold Call.Sync lost finished (Some told) =
    (told.call ≡ Call.Sync) × (lost ≡ true → told.ok ≡ false)
IsTold Call.Save lost finished None = ⊥
IsTold Call.Save lost finished (Some told) = told.call ≡ Call.Save

-- what the editor still tells is what its last event calls for
abbrev pub IsOwed : Due → Bool → Option Told → Type 0
IsOwed nothing lost owed = owed ≡ None
IsOwed append lost None = Unit {0}
IsOwed append lost (Some told) =
    (lost ≡ false) × (told ≡ record { call = Call.Append; ok = false })
IsOwed (outcome call) lost None = ⊥
IsOwed (outcome call) lost (Some told) =
    (told.call ≡ call) × (call ≡ Call.Sync → lost ≡ true → told.ok ≡ false)
IsOwed (delivery job) lost owed = ⊥

-- The part knows a state: how many transactions are open, whether the session is closed, and the
-- primitives of the open transaction. It owes what its last event calls for, and knows whether the
-- swap is lost, where the events so far say so or not
pub record IsAt (state : State) (was_lost : Bool) (due : Due) (part : Part) : Type 0 where
  pub depth : state.editing.edits.depth ≡ part.depth
  pub closed : state.closed ≡ part.closed
  pub current : redo_of state.editing.edits.current ≡ part.current
  pub shut : part.depth ≡ 0 → part.current ≡ []
  pub owed : IsOwed due was_lost part.owed
  pub lost : is_lost part.swap.state ≡ lost_with was_lost part.owed

-- After an event of the editor, which is what its last event calls for, the others of its requests
-- are left, and the part knows the state after it
pub record Follows (state : State) (lost : Bool) (was_due : Due) (event : Event)
    (before after : Part) : Type 0 where
  pub left : left before ≡ asked_in (event ∷ []) ++ left after
  pub due : IsDue was_due lost event.request
  pub at : IsAt (after_event state event) (lost_by lost event.request)
      (due_after state was_due event) after

-- a command, the close, or the outcome of a call outside
abbrev pub IsOwn : Request → Type 0
IsOwn (Cmd command) = Unit {0}
IsOwn Close = Unit {0}
IsOwn (Outcome call ok) = Unit {0}
IsOwn _ = ⊥

-- the part at first, with these commands and the writer of an empty swap file
abbrev pub part_of : List Command → SwapView → Part
part_of commands swap = record {
  commands = commands;
  depth = 0;
  closed = false;
  failed = false;
  asking = None;
  owed = None;
  current = [];
  swap = swap;
  replace_failed = false;
}

-- how many outcomes are owed
abbrev pub owed_count : Option Told → ℕ
owed_count None = 0
owed_count (Some told) = 1

-- how many requests the editor may still make: each that is left may have an outcome
abbrev pub work : Part → ℕ
work part = 2 * length (left part) + owed_count part.owed
