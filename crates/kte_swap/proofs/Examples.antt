-- Worked rows of the definitions, by computation.
use Rattle.std.proofs.Common.{◌≡◌, [], ◌∷◌, length, replicate, drop, Ok, Err, true, refl}
use Rattle.std.specs.Prelude.{codes}
use Rattle.std.specs.Char.{encode_utf8}
use Rattle.std.specs.Char.Utf16.{utf16_chars}
use Rattle.kte_text.specs.declared.primitive.Primitive.TheVariants.{Insert, Remove}
use Rattle.kte_record.specs.Transactions.{piece}
use Rattle.kte_causes.specs.declared.causes.DiskFail.TheVariants as disk
use Rattle.kte_swap.specs.declared.causes.SwapFault.TheVariants as fault
use Rattle.kte_swap.specs.declared.causes.SaveFault.TheVariants as save_fault
use Rattle.kte_swap.specs.declared.causes.SwapState.TheVariants as state
use Rattle.kte_swap.specs.Swap.{SwapView, after_finish, after_sync, disk_result, finished, lost}
use Rattle.kte_swap.specs.Saving.{fault_of, replaces}

-- the first transaction, with the header, and the next one
first_length : length (piece 0 (replicate 20 0) (Insert 0 5 (codes "!") ∷ [])) ≡ 62
unfolding utf16_chars encode_utf8
first_length = refl

first_bytes : drop 46 (piece 0 (replicate 20 0) (Insert 0 5 (codes "!") ∷ []))
    ≡ 0x53 ∷ 0x49 ∷ 0 ∷ 0 ∷ 0 ∷ 0 ∷ 0 ∷ 0 ∷ 0 ∷ 5 ∷ 0 ∷ 0 ∷ 0 ∷ 1 ∷ 0x21 ∷ 0x45 ∷ []
unfolding utf16_chars encode_utf8
first_bytes = refl

next_bytes : piece 1 (replicate 20 0) (Remove 0 5 1 ∷ [])
    ≡ 0x53 ∷ 0x52 ∷ 0 ∷ 0 ∷ 0 ∷ 0 ∷ 0 ∷ 0 ∷ 0 ∷ 5 ∷ 0 ∷ 0 ∷ 0 ∷ 6 ∷ 0x45 ∷ []
next_bytes = refl

-- a guarded swap with two transactions
guarded : SwapView
guarded = record { base = replicate 20 0; state = state.Guarded; count = 2 }

written_once_more : after_finish (Remove 0 5 1 ∷ []) (Ok true) guarded ≡ record guarded { count = 3 }
unfolding guarded
written_once_more = refl

nothing_to_write : after_finish [] (Ok true) guarded ≡ guarded
nothing_to_write = refl

append_failed : after_finish (Remove 0 5 1 ∷ []) (Err fault.Failed) guarded ≡ record guarded { state = state.Lost }
append_failed = refl

no_memory : after_finish (Remove 0 5 1 ∷ []) (Err fault.NoMemory) guarded ≡ guarded
no_memory = refl

sync_failed : after_sync {T = Unit {0}} (Err fault.Failed) guarded ≡ lost guarded
sync_failed = refl

-- what the disk returned
lost_before : disk_result {T = Unit {0}} (Err fault.Lost) ≡ Err disk.NoMemory
lost_before = refl

one_more : finished (Remove 0 5 1 ∷ []) (Ok true) ((Insert 0 5 (codes "!") ∷ []) ∷ [])
    ≡ (Insert 0 5 (codes "!") ∷ []) ∷ (Remove 0 5 1 ∷ []) ∷ []
one_more = refl

not_finished : finished (Remove 0 5 1 ∷ []) (Err fault.Failed) [] ≡ []
not_finished = refl

-- the errors of a save
second_step : fault_of replaces ≡ save_fault.Replace
second_step = refl
