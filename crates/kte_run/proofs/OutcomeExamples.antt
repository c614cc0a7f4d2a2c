-- Worked examples of what the events tell of the calls outside.
use Rattle.std.proofs.Common.{◌≡◌, ℕ, true, false, List, [], ◌∷◌, Some, None, refl}
use Rattle.std.specs.Prelude.{codes}
use Rattle.kte_text.specs.declared.primitive.Primitive.{Primitive}
use Rattle.kte_text.specs.declared.primitive.Primitive.TheVariants as Primitive
use Rattle.kte_text.specs.declared.loading.Eol.TheVariants.{Lf}
use Rattle.kte_edit.specs.declared.change.Change.TheVariants as Change
use Rattle.kte_command.specs.declared.command.Command.{Command}
use Rattle.kte_command.specs.declared.command.Command.TheVariants.{Edit, Begin, End, Sync, Save}
use Rattle.kte_core.specs.State.{State}
use Rattle.kte_core.specs.Replay.{beginning}
use Rattle.kte_core.specs.declared.event.Event.{Event}
use Rattle.kte_core.specs.declared.reply.Reply.TheVariants as reply
use Rattle.kte_core.specs.declared.request.OutsideCall.TheVariants as Call
use Rattle.kte_core.specs.declared.request.Request.TheVariants.{Cmd, Outcome}
use Rattle.kte_run.specs.Calls.{file_told, transactions_told}
use Rattle.kte_desk.specs.Serving.{own}
use Rattle.kte_run.specs.Editor.{call_after, finished_by, IsTold}
use Rattle.kte_run.specs.Outcomes.{failed_appends, failed_calls, unsaved_after}
use Rattle.kte_desk.specs.Schedule.{lost_after}

-- `hi` on one line
abbrev hi : State
hi = beginning (record { text = codes "hi" ∷ []; eol = Lf; bom = false }) 9

-- a mark put after so many units
abbrev mark : ℕ → Command
mark column = Edit (Change.Insert (record { line = 0; column = column }) (codes "!" ∷ []))

abbrev marked : ℕ → Primitive
marked column = Primitive.Insert 0 column (codes "!")

-- an append fails, then a sync is asked for, which has failed since the swap file is lost
abbrev lost_twice : List Event
lost_twice =
    own (Cmd (mark 2)) (reply.Edited 1 1 0) ∷ own (Outcome Call.Append false) reply.Noted
    ∷ own (Cmd Sync) reply.Asked ∷ own (Outcome Call.Sync false) reply.Noted ∷ []

-- .. and a save goes well
abbrev saved_again : List Event
saved_again =
    own (Cmd (mark 2)) (reply.Edited 1 1 0) ∷ own (Outcome Call.Append false) reply.Noted
    ∷ own (Cmd Sync) reply.Asked ∷ own (Outcome Call.Sync false) reply.Noted
    ∷ own (Cmd Save) reply.Asked ∷ own (Outcome Call.Save true) reply.Noted ∷ []

-- only the append was a call of the disk that failed
pub one_failed : (failed_appends saved_again ≡ 1) × (failed_calls false saved_again ≡ 0)
one_failed = (refl, refl)

-- the save makes the swap file one to rely on again
saved_is_kept : (lost_after false lost_twice ≡ true) × (lost_after false saved_again ≡ false)
saved_is_kept = (refl, refl)

-- a sync that fails while the swap file is not lost is a call that failed, as each failed save is
two_failed : failed_calls false (own (Cmd Sync) reply.Asked ∷ own (Outcome Call.Sync false) reply.Noted
    ∷ own (Cmd Sync) reply.Asked ∷ own (Outcome Call.Sync false) reply.Noted
    ∷ own (Cmd Save) reply.Asked ∷ own (Outcome Call.Save false) reply.Noted ∷ []) ≡ 2
two_failed = refl

-- two changes outside of a transaction are a transaction each, and two inside of one are one
two_unsaved : unsaved_after hi (own (Cmd (mark 2)) (reply.Edited 1 1 0) ∷ own (Cmd (mark 3)) (reply.Edited 1 2 0) ∷ []) []
    ≡ (marked 2 ∷ []) ∷ (marked 3 ∷ []) ∷ []
two_unsaved = refl

one_unsaved : unsaved_after hi (own (Cmd Begin) (reply.Depth 1) ∷ own (Cmd (mark 2)) (reply.Edited 1 1 1)
    ∷ own (Cmd (mark 3)) (reply.Edited 1 2 1) ∷ own (Cmd End) (reply.Depth 0) ∷ []) []
    ≡ (marked 2 ∷ marked 3 ∷ []) ∷ []
one_unsaved = refl

-- a save that went well leaves none, and one that failed leaves them all
none_unsaved : unsaved_after hi (own (Cmd (mark 2)) (reply.Edited 1 1 0) ∷ own (Cmd (mark 3)) (reply.Edited 1 2 0)
    ∷ own (Cmd Save) reply.Asked ∷ own (Outcome Call.Save true) reply.Noted ∷ []) []
    ≡ []
none_unsaved = refl

all_unsaved : unsaved_after hi (own (Cmd (mark 2)) (reply.Edited 1 1 0)
    ∷ own (Cmd Save) reply.Asked ∷ own (Outcome Call.Save false) reply.Noted ∷ own (Cmd (mark 3)) (reply.Edited 1 2 0) ∷ []) []
    ≡ (marked 2 ∷ []) ∷ (marked 3 ∷ []) ∷ []
all_unsaved = refl

-- the text and the transactions after a save that went well, and after one that failed
after_save : (file_told (Some (record { call = Call.Save; ok = true })) (codes "a" ∷ []) (codes "b" ∷ []) ≡ codes "b" ∷ [])
    × (file_told (Some (record { call = Call.Save; ok = false })) (codes "a" ∷ []) (codes "b" ∷ []) ≡ codes "a" ∷ [])
    × (transactions_told (Some (record { call = Call.Save; ok = true })) [] ((marked 2 ∷ []) ∷ []) ≡ [])
    × (transactions_told None (marked 3 ∷ []) ((marked 2 ∷ []) ∷ []) ≡ (marked 2 ∷ []) ∷ (marked 3 ∷ []) ∷ [])
after_save = (refl, refl, refl, refl)

-- a refused sync is no sync: what follows it is the append of what is finished, and nothing is
refused_sync : (call_after reply.Asked (Some Call.Sync) ≡ Call.Sync)
    × (call_after (reply.Depth 0) (Some Call.Sync) ≡ Call.Append) × (finished_by Call.Append 1 (marked 2 ∷ []) ≡ [])
refused_sync = (refl, refl, refl)

-- of an append that was tried only the failure is told, and never once the swap file is lost
append_told : IsTold Call.Append false (marked 2 ∷ []) (Some (record { call = Call.Append; ok = false })) × IsTold Call.Append true (marked 2 ∷ []) None
append_told = (((λ is. cc is), refl, refl), tt)
