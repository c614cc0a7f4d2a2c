-- The histories of a run: the script in order, each check once, and the outcome of each call
-- outside. This project's own rules.
use Rattle.std.specs.Prelude.{◌≡◌, ◌⊎◌, ℕ, zero, suc, ◌+◌, ◌-◌, ◌<◌, ◌≤◌, Bool, true, false, List, [], ◌∷◌, ◌++◌, map, replicate, nat_eq, All, Option, Some, None, if◌then◌else◌}
use Rattle.std.specs.List.{filter_map}
use Rattle.kte_text.specs.declared.primitive.Primitive.{Primitive}
use Rattle.kte_command.specs.declared.command.Command.{Command}
use Rattle.kte_command.specs.declared.command.Command.TheVariants.{Begin, End, Sync, Save}
use Rattle.kte_jobs.specs.declared.job.JobState.TheVariants.{Done}
use Rattle.kte_core.specs.State.{State}
use Rattle.kte_core.specs.React.{cut_at}
use Rattle.kte_core.specs.Replay.{EachIn, Legal, after_event, came_of, replay}
use Rattle.kte_core.specs.declared.event.Event.{Event}
use Rattle.kte_core.specs.declared.reply.Reply.{Reply}
use Rattle.kte_core.specs.declared.reply.Reply.TheVariants.{Asked, Took, Refused}
use Rattle.kte_core.specs.declared.request.OutsideCall.{OutsideCall}
use Rattle.kte_core.specs.declared.request.OutsideCall.TheVariants as Call
use Rattle.kte_core.specs.declared.request.Request.{Request}
use Rattle.kte_core.specs.declared.request.Request.TheVariants.{Cmd, Close, Take, Deliver, GiveBack, Outcome}

-- how many transactions are open after a command, and after some of them; an end where none is
-- open is refused
abbrev pub depth_by : ℕ → Command → ℕ
depth_by depth Begin = depth + 1
depth_by depth End = depth - 1
depth_by depth _ = depth

abbrev pub depth_after : ℕ → List Command → ℕ
depth_after depth [] = depth
depth_after depth (command ∷ commands) = depth_after (depth_by depth command) commands

-- what the editor asks for while so many transactions are open: the commands, an end for each level
-- that they leave open, and the close
abbrev pub asked_from : ℕ → List Command → List Request
asked_from depth commands =
    map Cmd (commands ++ replicate (depth_after depth commands) End) ++ Close ∷ []

-- .. from the beginning
abbrev pub asked_for : List Command → List Request
asked_for commands = asked_from 0 commands

-- the request, if it is a command or the close
abbrev pub if_asked : Request → Option Request
if_asked (Cmd command) = Some (Cmd command)
if_asked Close = Some Close
if_asked _ = None

-- the commands and closes among some events, in order
abbrev pub asked_in : List Event → List Request
asked_in events = filter_map (λ event. if_asked event.request) events

-- The swap file is lost: a call outside failed, and no save went well since
abbrev pub lost_by : Bool → Request → Bool
lost_by lost (Outcome call false) = true
lost_by lost (Outcome Call.Save true) = false
lost_by lost _ = lost

abbrev pub lost_after : Bool → List Event → Bool
lost_after lost [] = lost
lost_after lost (event ∷ events) = lost_after (lost_by lost event.request) events

-- What the editor's last event calls for: nothing, perhaps that a failed append is told, the
-- outcome of a call that it asked for, or the delivery of a job that it took
pub data Due : Type 0 where
  nothing : Due
  append : Due
  outcome : OutsideCall → Due
  delivery : ℕ → Due

-- a finished transaction was tried to be appended, which may have failed
abbrev pub append_of : Option (List Primitive) → Due
append_of (Some transaction) = append
append_of None = nothing

-- the outcome of what a command asks for, or else this
abbrev pub outcome_of : Request → Due → Due
outcome_of (Cmd Sync) due = outcome Call.Sync
outcome_of (Cmd Save) due = outcome Call.Save
outcome_of _ due = due

abbrev pub due_of : Request → Option (List Primitive) → Reply → Due
due_of request finished (Took job revision) = delivery job
due_of request finished Asked = outcome_of request (append_of finished)
due_of request finished _ = append_of finished

-- what may be asked for at any time
abbrev pub IsFree : Request → Type 0
IsFree (Cmd command) = Unit {0}
IsFree Close = Unit {0}
IsFree Take = Unit {0}
IsFree _ = ⊥

-- the outcome of this call; where the swap file is lost, nothing was made durable
pub record IsOutcomeOf (call : OutsideCall) (lost : Bool) (request : Request) : Type 0 where
  pub ok : Bool
  pub told : request ≡ Outcome call ok
  pub failed : call ≡ Call.Sync → lost ≡ true → ok ≡ false

-- an append failed, which is tried only where the swap file is not lost
pub record IsFailedAppend (lost : Bool) (request : Request) : Type 0 where
  pub told : request ≡ Outcome Call.Append false
  pub kept : lost ≡ false

abbrev pub IsDeliveryOf : ℕ → Request → Type 0
IsDeliveryOf job (Deliver number findings) = number ≡ job
IsDeliveryOf job _ = ⊥

-- the editor's next request is what its last event calls for
abbrev pub IsDue : Due → Bool → Request → Type 0
IsDue nothing lost request = IsFree request
IsDue append lost request = IsFree request ⊎ IsFailedAppend lost request
IsDue (outcome call) lost request = IsOutcomeOf call lost request
IsDue (delivery job) lost request = IsDeliveryOf job request

-- nothing is left to be told or delivered
abbrev pub IsSettled : Due → Type 0
IsSettled nothing = Unit {0}
IsSettled append = Unit {0}
IsSettled (outcome call) = ⊥
IsSettled (delivery job) = ⊥

-- what is called for after an event: only the editor's own change it
abbrev pub due_after : State → Due → Event → Due
due_after state due event =
    if nat_eq event.seat 0
    then due_of event.request (came_of state event).finished event.reply else due

-- each request of the editor is what its last event calls for, and nothing is left in the end
abbrev pub InTurn : State → Bool → Due → List Event → Type 0
InTurn state lost due [] = IsSettled due
InTurn state lost due (event ∷ events) =
    (event.seat ≡ 0 → IsDue due lost event.request)
    × InTurn (after_event state event) (lost_by lost event.request)
    (due_after state due event) events

abbrev pub is_refused : Reply → Bool
is_refused (Refused refusal) = true
is_refused _ = false

-- who may take a job: with workers they alone, and else the editor once the session is closed
abbrev pub MayTake : ℕ → State → ℕ → Type 0
MayTake zero state seat = state.closed ≡ true
MayTake (suc others) state seat = 0 < seat

-- jobs are taken and delivered, never in vain, and none is given back
abbrev pub IsServed : ℕ → State → ℕ → Request → Reply → Type 0
IsServed workers state seat Take reply = MayTake workers state seat × (is_refused reply ≡ false)
IsServed workers state seat (Deliver job findings) reply = is_refused reply ≡ false
IsServed workers state seat (GiveBack job) reply = ⊥
IsServed workers state seat _ reply = Unit {0}

-- an event of a run with so many workers, in the state before it: memory did not run out
pub record Fits (workers : ℕ) (state : State) (event : Event) : Type 0 where
  pub seat : event.seat ≤ workers
  pub whole : cut_at event.reply ≡ None
  pub served : IsServed workers state event.seat event.request event.reply

abbrev pub AllFit : ℕ → State → List Event → Type 0
AllFit workers = EachIn (Fits workers)

-- What happens in a run of a script with so many workers: the events are legal, the editor asks for
-- the commands in order, an end for each level that they leave open, and the close; the outcome of
-- each call outside is told at once; and each job is done, once
pub record Schedule (commands : List Command) (workers : ℕ) (first : State) (events : List Event)
    : Type 0 where
  pub legal : Legal first events
  pub fit : AllFit workers first events
  pub ordered : asked_in events ≡ asked_for commands
  pub in_turn : InTurn first false nothing events
  pub done : All (λ job. job.state ≡ Done) (replay first events).jobs

-- a call outside did not fail, if one was made
abbrev pub WentWell : Request → Type 0
WentWell (Outcome call ok) = ok ≡ true
WentWell _ = Unit {0}

-- no call outside failed
abbrev pub NoneFailed : List Event → Type 0
NoneFailed events = All (λ event. WentWell event.request) events
