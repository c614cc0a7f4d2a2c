-- The counts of faults of a disk, one for each of its calls.
use Rattle.std.specs.Prelude.{◌≡◌, ◌≢◌, ℕ, ◌+◌, ◌≤◌, Result, IsErrOf, OnOk}
use Rattle.kte_causes.specs.Faults.{Rose}
use Rattle.kte_causes.specs.declared.causes.DiskCall.{DiskCall}
use Rattle.kte_causes.specs.declared.causes.DiskCall.TheVariants.{SavedLen, SavedAt, SwapLen, SwapAt, Append, Sync, Replace, Reset}
use Rattle.kte_causes.specs.declared.causes.DiskFail.{DiskFail}
use Rattle.kte_causes.specs.declared.causes.DiskFail.TheVariants.{Failed, NoMemory}
use Rattle.kte_causes.specs.declared.counts.DiskCounts.{DiskCounts}

-- each count stays. This project's own rule
abbrev pub AllStay : (DiskCall → ℕ) → (DiskCall → ℕ) → Type 0
AllStay before after = (call : DiskCall) → after call ≡ before call

-- each count but that of one call stays. This project's own rule
abbrev pub OthersStay : DiskCall → (DiskCall → ℕ) → (DiskCall → ℕ) → Type 0
OthersStay one before after = (call : DiskCall) → call ≢ one → after call ≡ before call

-- no count fell. This project's own rule
abbrev pub NoneFell : (DiskCall → ℕ) → (DiskCall → ℕ) → Type 0
NoneFell before after = (call : DiskCall) → before call ≤ after call

-- the number of one call. This project's own rule
abbrev pub count_of : DiskCounts → DiskCall → ℕ
count_of counts SavedLen = counts.saved_len
count_of counts SavedAt = counts.saved_at
count_of counts SwapLen = counts.swap_len
count_of counts SwapAt = counts.swap_at
count_of counts Append = counts.append
count_of counts Sync = counts.sync
count_of counts Replace = counts.replace
count_of counts Reset = counts.reset

-- the sum of the counts of all calls. This project's own rule
abbrev pub total : (DiskCall → ℕ) → ℕ
total counts =
    counts SavedLen + counts SavedAt + counts SwapLen + counts SwapAt
    + counts Append + counts Sync + counts Replace + counts Reset

-- a call that failed has raised its own count and no other, and any other result leaves each count.
-- This project's own rule
pub record CountsDiskFault {T : Type 0} (call : DiskCall) (result : Result T DiskFail)
    (before after : DiskCall → ℕ) : Type 0 where
  pub failed : IsErrOf result Failed → Rose (before call) (after call)
  pub others : OthersStay call before after
  pub calm_no_memory : IsErrOf result NoMemory → AllStay before after
  pub calm : OnOk result (AllStay before after)
  pub counted : NoneFell before after
