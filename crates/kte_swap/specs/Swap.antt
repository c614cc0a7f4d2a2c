-- What the writer of a swap file is seen as, and what its calls leave. The swap file is that of
-- Kate; its states, and which call of the disk comes when, are this project's own rules.
use Rattle.std.specs.Prelude.{◌≡◌, ℕ, Bool, true, false, List, [], ◌∷◌, ◌++◌, Result, Ok, Err}
use Rattle.kte_text.specs.declared.primitive.Primitive.{Primitive}
use Rattle.kte_record.specs.Grammar.{IsRecord}
use Rattle.kte_record.specs.Transactions.{record_of, piece}
use Rattle.kte_causes.specs.Faults.{raised}
use Rattle.kte_causes.specs.Moments.{Moment, AddedBy, Appending, Appended}
use Rattle.kte_causes.specs.declared.causes.DiskFail.{DiskFail}
use Rattle.kte_causes.specs.declared.causes.DiskFail.TheVariants as disk
use Rattle.kte_swap.specs.declared.causes.SwapState.{SwapState}
use Rattle.kte_swap.specs.declared.causes.SwapState.TheVariants as state
use Rattle.kte_swap.specs.declared.causes.SwapFault.{SwapFault}
use Rattle.kte_swap.specs.declared.causes.SwapFault.TheVariants as fault

-- a swap: the digest of the saved file that it lies beside, whether it can be relied on, and how
-- many transactions were written to it
pub record SwapView : Type 0 where
  pub base : List ℕ
  pub state : SwapState
  pub count : ℕ

-- the primitive can be spelled as a record: its line and columns are below 2 ^ 31, and its text is
-- not too long
abbrev pub HasRecord : Primitive → Type 0
HasRecord primitive = IsRecord (record_of primitive)

-- the swap after a call of the disk failed
abbrev pub lost : SwapView → SwapView
lost swap = record swap { state = state.Lost }

-- the swap after a transaction was given to it. One without primitives is not written
abbrev pub after_finish : List Primitive → Result Bool SwapFault → SwapView → SwapView
after_finish [] (Ok true) swap = swap
after_finish (primitive ∷ primitives) (Ok true) swap = record swap { count = raised swap.count }
after_finish batch (Ok false) swap = swap
after_finish batch (Err fault.Failed) swap = lost swap
after_finish batch (Err fault.Lost) swap = swap
after_finish batch (Err fault.NoMemory) swap = swap

-- the swap after a sync
abbrev pub after_sync : {T : Type 0} → Result T SwapFault → SwapView → SwapView
after_sync (Ok value) swap = swap
after_sync (Err fault.Failed) swap = lost swap
after_sync (Err fault.Lost) swap = swap
after_sync (Err fault.NoMemory) swap = swap

-- what the one call of the disk returned. Where there was none nothing changed, as where there was
-- no memory
abbrev pub disk_result : {T : Type 0} → Result T SwapFault → Result T DiskFail
disk_result (Ok value) = Ok value
disk_result (Err fault.Failed) = Err disk.Failed
disk_result (Err fault.Lost) = Err disk.NoMemory
disk_result (Err fault.NoMemory) = Err disk.NoMemory

-- what a finish adds to the moments: nothing for a transaction without primitives or where the swap
-- was lost, which Ok(false) says, and else what one append of the transaction's bytes adds
abbrev pub Finishing : SwapView → List Primitive → Result Bool SwapFault → Moment → List Moment → Type 0
Finishing swap [] result old added = added ≡ []
Finishing swap batch (Ok false) old added = added ≡ []
Finishing swap batch result old added =
    AddedBy (disk_result result) (Appending (piece swap.count swap.base batch))
    (Appended (piece swap.count swap.base batch)) old added

-- the transactions after one was given, those before it being these
abbrev pub finished : List Primitive → Result Bool SwapFault → List (List Primitive) → List (List Primitive)
finished [] result ts = ts
finished (primitive ∷ primitives) (Ok true) ts = ts ++ (primitive ∷ primitives) ∷ []
finished (primitive ∷ primitives) result ts = ts
