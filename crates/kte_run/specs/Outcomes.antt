-- What the events of a run tell of the calls outside, beside the counts of the disk and what it
-- holds. This project's own rules.
use Rattle.std.specs.Prelude.{◌≡◌, ◌⊎◌, ℕ, ◌+◌, ◌<◌, ◌≤◌, Bool, true, false, List, [], ◌∷◌, ◌++◌, Option, Some, None, IfSome, Contains, if◌then◌else◌}
use Rattle.std.specs.Option.{option_to_list}
use Rattle.kte_text.specs.Digests.{digest_of}
use Rattle.kte_text.specs.Files.{Loads, Refuses}
use Rattle.kte_text.specs.declared.loading.Loaded.{Loaded}
use Rattle.kte_text.specs.declared.loading.LoadFault.{LoadFault}
use Rattle.kte_text.specs.declared.primitive.Primitive.{Primitive}
use Rattle.kte_record.specs.Transactions.{written}
use Rattle.kte_swap.specs.Swap.{SwapView}
use Rattle.kte_swap.specs.declared.causes.SwapState.TheVariants as state
use Rattle.kte_causes.specs.Faults.{Rose, last_count}
use Rattle.kte_causes.specs.Moments.{Moment, latest}
use Rattle.kte_causes.specs.declared.causes.DiskCall.{DiskCall}
use Rattle.kte_causes.specs.declared.causes.DiskCall.TheVariants as disk
use Rattle.kte_core.specs.Editing.{saved_form}
use Rattle.kte_core.specs.State.{State}
use Rattle.kte_core.specs.Replay.{after_event, came_of}
use Rattle.kte_core.specs.declared.event.Event.{Event}
use Rattle.kte_core.specs.declared.request.OutsideCall.TheVariants as Call
use Rattle.kte_core.specs.declared.request.Request.{Request}
use Rattle.kte_core.specs.declared.request.Request.TheVariants.{Outcome}
use Rattle.kte_run.specs.declared.status.Status.{Status}
use Rattle.kte_run.specs.declared.status.Status.TheVariants as status
use Rattle.kte_desk.specs.Schedule.{lost_by, lost_after}

-- ---- how many calls failed

-- a failed append
abbrev pub append_charge : Request → ℕ
append_charge (Outcome Call.Append false) = 1
append_charge _ = 0

-- a failed sync or save. A sync of a lost swap makes no call
abbrev pub call_charge : Bool → Request → ℕ
call_charge lost (Outcome Call.Sync false) = if lost then 0 else 1
call_charge lost (Outcome Call.Save false) = 1
call_charge lost _ = 0

-- how many appends have failed by some events
abbrev pub failed_appends : List Event → ℕ
failed_appends [] = 0
failed_appends (event ∷ events) = append_charge event.request + failed_appends events

-- .. and how many syncs and saves, where the swap was lost before them or not
abbrev pub failed_calls : Bool → List Event → ℕ
failed_calls lost [] = 0
failed_calls lost (event ∷ events) =
    call_charge lost event.request + failed_calls (lost_by lost event.request) events

-- a count rose by at least so much, or has reached its last value
abbrev pub RoseBy : ℕ → ℕ → ℕ → Type 0
RoseBy n before after = (before + n ≤ after) ⊎ (last_count ≤ after)

-- the counts of syncs, replacements and resets together
abbrev pub calls_of : (DiskCall → ℕ) → ℕ
calls_of faults = faults disk.Sync + faults disk.Replace + faults disk.Reset

-- one of these counts has reached its last value
abbrev pub AtLast : (DiskCall → ℕ) → Type 0
AtLast faults =
    (last_count ≤ faults disk.Sync) ⊎ (last_count ≤ faults disk.Replace)
    ⊎ (last_count ≤ faults disk.Reset)

-- no length was asked for, and nothing was read, with a fault
pub record ReadsStay (before after : DiskCall → ℕ) : Type 0 where
  pub saved_len : after disk.SavedLen ≡ before disk.SavedLen
  pub saved_at : after disk.SavedAt ≡ before disk.SavedAt
  pub swap_len : after disk.SwapLen ≡ before disk.SwapLen
  pub swap_at : after disk.SwapAt ≡ before disk.SwapAt

-- So many appends have failed, and so many syncs and saves: the counts of the disk rose by at least
-- as many, and if they rose there is such a failure
pub record Counted (many_appends many_calls : ℕ) (before after : DiskCall → ℕ) : Type 0 where
  pub appends : RoseBy many_appends (before disk.Append) (after disk.Append)
  pub calls : (calls_of before + many_calls ≤ calls_of after) ⊎ AtLast after
  pub appends_told : before disk.Append < after disk.Append → 0 < many_appends
  pub calls_told : calls_of before < calls_of after → 0 < many_calls
  pub reads : ReadsStay before after

-- ---- how a run ended

-- there is a save that failed
abbrev pub HasFailedSave : List Event → Type 0
HasFailedSave events = (event : Event) × Contains events event × (event.request ≡ Outcome Call.Save false)

-- A run ended so: a replacement of the saved file failed; or else the swap file is lost, or not
abbrev pub IsEnding : Status → List Event → (DiskCall → ℕ) → (DiskCall → ℕ) → Type 0
IsEnding status.Ok events before after =
    (lost_after false events ≡ false) × (after disk.Replace ≡ before disk.Replace)
IsEnding status.SwapLost events before after =
    (lost_after false events ≡ true) × (after disk.Replace ≡ before disk.Replace)
IsEnding status.DiskFault events before after =
    Rose (before disk.Replace) (after disk.Replace) × HasFailedSave events
IsEnding _ events before after = ⊥

-- ---- what the disk holds

-- the saved file after a request in a state, where it was this before
abbrev pub file_by : State → Request → List ℕ → List ℕ
file_by state (Outcome Call.Save true) file = saved_form state.editing
file_by state _ file = file

-- the saved file after some events: what the last save wrote
abbrev pub file_after : State → List Event → List ℕ → List ℕ
file_after state [] file = file
file_after state (event ∷ events) file =
    file_after (after_event state event) events (file_by state event.request file)

-- the transactions that are in no saved file, after an event in a state
abbrev pub unsaved_by : State → Event → Request → List (List Primitive) → List (List Primitive)
unsaved_by state event (Outcome Call.Save true) transactions = []
unsaved_by state event _ transactions =
    transactions ++ option_to_list (came_of state event).finished

-- those that some events finish, since the last save
abbrev pub unsaved_after : State → List Event → List (List Primitive) → List (List Primitive)
unsaved_after state [] transactions = transactions
unsaved_after state (event ∷ events) transactions =
    unsaved_after (after_event state event) events (unsaved_by state event event.request transactions)

-- a moment with this saved file, beside the swap file of these transactions
pub record Holds (file : List ℕ) (transactions : List (List Primitive)) (moment : Moment) : Type 0 where
  pub saved : moment.saved ≡ file
  pub swap : moment.swap ≡ written (digest_of file) transactions

-- While the swap is not lost, the disk has what the last save wrote, and in the swap file each
-- transaction that was finished since
abbrev pub Keeps : List ℕ → State → List Event → Option (List Moment) → Type 0
Keeps file first events moments =
    lost_after false events ≡ false
    → IfSome moments (λ told. Holds (file_after first events file) (unsaved_after first events []) (latest told))

-- what the counts say of how a run ended, whatever the disk tells
abbrev pub Ended : Status → (DiskCall → ℕ) → (DiskCall → ℕ) → Type 0
Ended status.Ok before after = after disk.Replace ≡ before disk.Replace
Ended status.SwapLost before after =
    (after disk.Replace ≡ before disk.Replace)
    × (Rose (before disk.Append) (after disk.Append) ⊎ Rose (before disk.Sync) (after disk.Sync)
    ⊎ Rose (before disk.Reset) (after disk.Reset))
Ended status.DiskFault before after = Rose (before disk.Replace) (after disk.Replace)
Ended _ before after = ⊥

-- A run begins so: the swap file is empty, and its writer lies beside the saved file, which is told
-- and was loaded
abbrev pub Begins : List ℕ → Loaded → SwapView → Option (List Moment) → Type 0
Begins file loaded swap None = ⊥
Begins file loaded swap (Some moments) =
    Loads file loaded × ((fault : LoadFault) → ¬ (Refuses file fault))
    × (swap ≡ record { base = digest_of file; state = state.Guarded; count = 0 })
    × ((latest moments).saved ≡ file) × ((latest moments).swap ≡ [])
