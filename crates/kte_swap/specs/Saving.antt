-- The calls of a save, and the moments that they add. This project's own rules.
use Rattle.std.specs.Prelude.{◌≡◌, ◌⊎◌, ℕ, List, [], ◌∷◌, ◌++◌, length, Option, IfSome, Result, Ok, Err}
use Rattle.std.specs.List.{AllByRecursion}
use Rattle.kte_causes.specs.Faults.{Rose}
use Rattle.kte_causes.specs.DiskFaults.{NoneFell, total}
use Rattle.kte_causes.specs.Moments.{Moment, latest, latest_from, AddedBy, Turns, IsSame, IsSyncedMore, IsReplaced, IsReset, Syncing, Synced, Replacing, Replaced, Resetting, Reset}
use Rattle.kte_causes.specs.declared.causes.DiskCall.{DiskCall}
use Rattle.kte_causes.specs.declared.causes.DiskCall.TheVariants as call
use Rattle.kte_causes.specs.declared.causes.DiskFail.{DiskFail}
use Rattle.kte_causes.specs.declared.causes.DiskFail.TheVariants as disk
use Rattle.kte_swap.specs.declared.causes.SaveFault.{SaveFault}
use Rattle.kte_swap.specs.declared.causes.SaveFault.TheVariants as fault

-- a call of the disk that a save makes
pub data Step : Type 0 where
  syncs : Step
  replaces : Step
  resets : Step

-- the error that names it
abbrev pub fault_of : Step → SaveFault
fault_of syncs = fault.Sync
fault_of replaces = fault.Replace
fault_of resets = fault.Reset

-- what it adds to the moments, where the new saved file has these bytes
abbrev pub Adds : List ℕ → Step → Result (Unit {0}) DiskFail → Moment → List Moment → Type 0
Adds bytes syncs result = AddedBy result Syncing Synced
Adds bytes replaces result = AddedBy result (Replacing bytes) (Replaced bytes)
Adds bytes resets result = AddedBy result Resetting Reset

-- first some moments, and then others, from the last of the first ones
abbrev pub Then : (Moment → List Moment → Type 0) → (Moment → List Moment → Type 0) → Moment → List Moment → Type 0
Then P Q old added =
    (xs : List Moment) × (ys : List Moment) × (added ≡ xs ++ ys) × P old xs × Q (latest_from old xs) ys

-- What a save adds: the steps go well, one after another, up to the first that fails, which the
-- error names, or for which there is no memory. The steps after it are not made
abbrev pub Makes : List ℕ → List Step → Result (Unit {0}) SaveFault → Moment → List Moment → Type 0
Makes bytes [] result old added = (result ≡ Ok tt) × (added ≡ [])
Makes bytes (step ∷ steps) result old added =
    ((result ≡ Err fault.NoMemory) × (added ≡ []))
    ⊎ ((result ≡ Err (fault_of step)) × Adds bytes step (Err disk.Failed) old added)
    ⊎ Then (Adds bytes step (Ok tt)) (Makes bytes steps result) old added

-- three runs of moments: what has come to be so stays so
abbrev pub Runs : (Moment → Type 0) → (Moment → Type 0) → (Moment → Type 0) → List Moment → Type 0
Runs P Q R added =
    (xs : List Moment) × (ys : List Moment) × (zs : List Moment) × (added ≡ xs ++ (ys ++ zs))
    × AllByRecursion P xs × AllByRecursion Q ys × AllByRecursion R zs

-- the new saved file beside the old swap, all of which is synced
abbrev pub IsBeside : List ℕ → Moment → Moment → Type 0
IsBeside bytes old moment =
    (moment.saved ≡ bytes) × (moment.swap ≡ old.swap) × (moment.synced ≡ length old.swap)

-- the new saved file and an empty swap
abbrev pub IsAlone : List ℕ → Moment → Type 0
IsAlone bytes moment = (moment.saved ≡ bytes) × (moment.swap ≡ []) × (moment.synced ≡ 0)

-- the swap is the old one, or empty
abbrev pub KeepsSwap : Moment → Moment → Type 0
KeepsSwap old moment = (moment.swap ≡ old.swap) ⊎ (moment.swap ≡ [])

-- A save while guarded, run by run: the old files, of which ever more may be synced; the new saved
-- file beside the old swap, all of it synced; the new saved file and an empty swap. The result says
-- which run was reached
abbrev pub Guarding : List ℕ → Result (Unit {0}) SaveFault → Moment → List Moment → Type 0
Guarding bytes (Ok value) old added =
    Runs (IsSyncedMore old) (IsBeside bytes old) (IsAlone bytes) added
    × IsAlone bytes (latest_from old added)
Guarding bytes (Err fault.Sync) old added = AllByRecursion (IsSyncedMore old) added
Guarding bytes (Err fault.Replace) old added = Turns (IsSyncedMore old) (IsBeside bytes old) added
Guarding bytes (Err fault.Reset) old added =
    Runs (IsSyncedMore old) (IsBeside bytes old) (IsAlone bytes) added
    × ((latest_from old added).saved ≡ bytes)
Guarding bytes (Err fault.NoMemory) old added = Turns (IsSyncedMore old) (IsBeside bytes old) added

-- A save of a lost swap that lies beside the file that is saved: the old files; the old saved file
-- and an empty swap; the new saved file and an empty swap
abbrev pub Emptying : List ℕ → Result (Unit {0}) SaveFault → Moment → List Moment → Type 0
Emptying bytes (Ok value) old added =
    Runs (IsSame old) (IsReset old) (IsAlone bytes) added × IsAlone bytes (latest_from old added)
Emptying bytes (Err fault.Sync) old added = ⊥
Emptying bytes (Err fault.Replace) old added =
    Runs (IsSame old) (IsReset old) (IsAlone bytes) added × ((latest_from old added).swap ≡ [])
Emptying bytes (Err fault.Reset) old added = Turns (IsSame old) (IsReset old) added
Emptying bytes (Err fault.NoMemory) old added = Turns (IsSame old) (IsReset old) added

-- A save of a lost swap that lies beside another file: the old files; the new saved file beside the
-- old swap; the new saved file and an empty swap
abbrev pub Leaving : List ℕ → Result (Unit {0}) SaveFault → Moment → List Moment → Type 0
Leaving bytes (Ok value) old added =
    Runs (IsSame old) (IsReplaced bytes old) (IsAlone bytes) added
    × IsAlone bytes (latest_from old added)
Leaving bytes (Err fault.Sync) old added = ⊥
Leaving bytes (Err fault.Replace) old added = Turns (IsSame old) (IsReplaced bytes old) added
Leaving bytes (Err fault.Reset) old added =
    Runs (IsSame old) (IsReplaced bytes old) (IsAlone bytes) added
    × ((latest_from old added).saved ≡ bytes)
Leaving bytes (Err fault.NoMemory) old added = Turns (IsSame old) (IsReplaced bytes old) added

-- the result names this call of the disk
abbrev pub Names : Result (Unit {0}) SaveFault → DiskCall → Type 0
Names (Ok value) one = ⊥
Names (Err fault.Sync) one = one ≡ call.Sync
Names (Err fault.Replace) one = one ≡ call.Replace
Names (Err fault.Reset) one = one ≡ call.Reset
Names (Err fault.NoMemory) one = ⊥

-- the count of the call that the result names rose, and no other
pub record CountsSave (result : Result (Unit {0}) SaveFault) (before after : DiskCall → ℕ) : Type 0 where
  pub failed : (one : DiskCall) → Names result one → Rose (before one) (after one)
  pub others : (one : DiskCall) → ¬ Names result one → after one ≡ before one
  pub counted : NoneFell before after

-- the sum of the counts stands in the last moment of a disk that tells
abbrev pub SumsFaults : Option (List Moment) → (DiskCall → ℕ) → Type 0
SumsFaults moments faults = IfSome moments (λ told. (latest told).faults ≡ total faults)
