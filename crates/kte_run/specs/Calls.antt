-- What the editor makes of one call of the disk. This project's own rules.
use Rattle.std.specs.Prelude.{◌≡◌, ◌⊎◌, ℕ, Bool, true, false, List, [], ◌∷◌, ◌++◌, Option, Some, None, IfSome, Result, Ok, Err, if◌then◌else◌}
use Rattle.kte_text.specs.declared.primitive.Primitive.{Primitive}
use Rattle.kte_causes.specs.Faults.{Rose}
use Rattle.kte_causes.specs.DiskFaults.{AllStay, OthersStay}
use Rattle.kte_causes.specs.Moments.{Moment, latest}
use Rattle.kte_causes.specs.declared.causes.DiskCall.{DiskCall}
use Rattle.kte_causes.specs.declared.causes.DiskCall.TheVariants as disk
use Rattle.kte_core.specs.declared.request.OutsideCall.{OutsideCall}
use Rattle.kte_core.specs.declared.request.OutsideCall.TheVariants as Call
use Rattle.kte_swap.specs.Swap.{SwapView}
use Rattle.kte_swap.specs.Guards.{FitAfter, IsFileOf, Stands}
use Rattle.kte_run.specs.declared.editor.Told.{Told}
use Rattle.kte_run.specs.Editor.{IsTold, is_lost, lost_with}

-- what is told, nothing if memory ran out
abbrev pub told_of : {T E : Type 0} → Result T E → Option Told → Option Told
told_of (Ok value) owed = owed
told_of (Err error) owed = None

-- .. of the call itself
abbrev pub owed_by : {E : Type 0} → Result (Option Told) E → Option Told
owed_by (Ok owed) = owed
owed_by (Err error) = None

-- ---- the counts of the disk

-- one call failed: its count rose, and no other did
pub record Failed (call : DiskCall) (before after : DiskCall → ℕ) : Type 0 where
  pub rose : Rose (before call) (after call)
  pub others : OthersStay call before after

-- A save failed: the replacement did, which is remembered, or the sync or the reset
abbrev pub SaveFailed : Bool → Bool → (DiskCall → ℕ) → (DiskCall → ℕ) → Type 0
SaveFailed remembered now before after =
    ((now ≡ true) × Failed disk.Replace before after)
    ⊎ ((now ≡ remembered) × (Failed disk.Sync before after ⊎ Failed disk.Reset before after))

-- the counts beside what came of a call: a failure has its call of the disk, but for a sync of a
-- swap that was lost, which makes none
abbrev pub CountsCall : OutsideCall → Bool → Bool → Bool → Bool
    → (DiskCall → ℕ) → (DiskCall → ℕ) → Type 0
CountsCall call true lost remembered now before after =
    (now ≡ remembered) × AllStay before after
CountsCall Call.Append false lost remembered now before after =
    (now ≡ remembered) × Failed disk.Append before after
CountsCall Call.Sync false true remembered now before after =
    (now ≡ remembered) × AllStay before after
CountsCall Call.Sync false false remembered now before after =
    (now ≡ remembered) × Failed disk.Sync before after
CountsCall Call.Save false lost remembered now before after =
    SaveFailed remembered now before after

-- the counts beside what is told, where the swap was lost or not, and whether it is remembered that
-- a replacement failed
abbrev pub CountsTold : Option Told → Bool → Bool → Bool → (DiskCall → ℕ) → (DiskCall → ℕ) → Type 0
CountsTold None lost remembered now before after = (now ≡ remembered) × AllStay before after
CountsTold (Some told) lost remembered now before after =
    CountsCall told.call told.ok lost remembered now before after

-- ---- what the disk holds

-- a save went well
abbrev pub is_save : OutsideCall → Bool → Bool
is_save Call.Append ok = false
is_save Call.Sync ok = false
is_save Call.Save ok = ok

abbrev pub is_saved : Option Told → Bool
is_saved None = false
is_saved (Some told) = is_save told.call told.ok

-- the text of the saved file: after a save the present one
abbrev pub file_told : Option Told → List (List ℕ) → List (List ℕ) → List (List ℕ)
file_told owed text after = if is_saved owed then after else text

-- the transaction of some primitives, if there are any
abbrev pub listed : List Primitive → List (List Primitive)
listed [] = []
listed (primitive ∷ primitives) = (primitive ∷ primitives) ∷ []

-- the transactions since the last save: one that is finished more, or none after a save
abbrev pub transactions_told : Option Told → List Primitive → List (List Primitive)
    → List (List Primitive)
transactions_told owed finished ts = if is_saved owed then [] else ts ++ listed finished

-- the saved file of a disk that tells: after a save these bytes, and while the swap is not lost as
-- before
abbrev pub SavedWith : Bool → Bool → List ℕ → Option (List Moment) → Option (List Moment) → Type 0
SavedWith true lost form before after =
    IfSome before (λ old. IfSome after (λ told. (latest told).saved ≡ form))
SavedWith false lost form before after =
    lost ≡ false
    → IfSome before (λ old. IfSome after (λ told. (latest told).saved ≡ (latest old).saved))

-- What one call leaves, where this transaction was finished, or the saved file is to get these bytes:
-- what is told says whether the swap is lost, for which text and transactions it stands, and what
-- the saved file has
pub record Leaves (call : OutsideCall) (finished : List Primitive) (form : List ℕ)
    (old new : SwapView) (before after : Option (List Moment)) (owed : Option Told)
    : Type 0 where
  pub told : IsTold call (is_lost old.state) finished owed
  pub lost : is_lost new.state ≡ lost_with (is_lost old.state) owed
  pub stands : (text later : List (List ℕ)) (ts : List (List Primitive)) → Stands old text ts before
      → FitAfter old.state finished ts text → (call ≡ Call.Save → IsFileOf form later)
      → Stands new (file_told owed text later) (transactions_told owed finished ts) after
  pub saves : SavedWith (is_saved owed) (is_lost new.state) form before after
