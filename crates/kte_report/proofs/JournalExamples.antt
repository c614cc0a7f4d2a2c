-- Worked examples: the text of every request, reply and refusal.
use Rattle.std.proofs.Common.{◌≡◌, ℕ, List, [], ◌∷◌, ◌++◌, Some, None, true, false, refl}
use Rattle.std.specs.Prelude.{codes}
use Rattle.std.specs.Fmt.{digits}
use Rattle.kte_place.specs.Examples.{span}
use Rattle.kte_text.specs.declared.primitive.Misfit.TheVariants.{NoLine, NoColumn, SplitsPair, FirstLine, TooLarge}
use Rattle.kte_fold.specs.declared.refused.FoldRefused.TheVariants.{OutOfText, EmptySpan, Crosses}
use Rattle.kte_command.specs.declared.command.Command.TheVariants.{DropRange, Sync}
use Rattle.kte_core.specs.declared.request.Request.TheVariants.{Cmd, Close, Take, Deliver, GiveBack, Outcome}
use Rattle.kte_core.specs.declared.request.OutsideCall.TheVariants as call
use Rattle.kte_core.specs.declared.reply.Reply.TheVariants.{Edited, Cut, Depth, Range, Dropped, Locked, Unlocked, Landed, Found, Posted, Asked, Took, Delivered, Returned, Noted, Closed, Refused}
use Rattle.kte_core.specs.declared.reply.Refusal.TheVariants as refusal
use Rattle.kte_report.specs.Events.{request_spelling, refusal_spelling, reply_spelling, event_text}
use Rattle.kte_report.specs.Journal.{journal_text}

-- these texts, one after another
abbrev Are : List (List ℕ) → List (List ℕ) → Type 0
Are found wanted = found ≡ wanted

requests : Are
    (request_spelling (Cmd (DropRange 7)) ∷ request_spelling (Cmd Sync) ∷ request_spelling Close
    ∷ request_spelling Take ∷ request_spelling (Deliver 1 []) ∷ request_spelling (Deliver 12 (span 0 1 0 3 ∷ span 2 0 10 4 ∷ []))
    ∷ request_spelling (GiveBack 3) ∷ request_spelling (Outcome call.Append true) ∷ request_spelling (Outcome call.Sync false)
    ∷ request_spelling (Outcome call.Save true) ∷ [])
    (codes "droprange 7" ∷ codes "sync" ∷ codes "close" ∷ codes "take" ∷ codes "deliver 1" ∷ codes "deliver 12 0 1 0 3 2 0 10 4"
    ∷ codes "giveback 3" ∷ codes "outcome append ok" ∷ codes "outcome sync failed" ∷ codes "outcome save ok" ∷ [])
unfolding digits
requests = refl

replies : Are
    (reply_spelling (Edited 1 2 3) ∷ reply_spelling (Cut 10 20 0) ∷ reply_spelling (Depth 4) ∷ reply_spelling (Range 5 (Some (span 0 1 2 3)))
    ∷ reply_spelling (Range 6 None) ∷ reply_spelling (Dropped 7) ∷ reply_spelling (Locked 8) ∷ reply_spelling (Unlocked 9)
    ∷ reply_spelling (Landed (Some (span 3 2 3 2))) ∷ reply_spelling (Landed None) ∷ reply_spelling (Found [])
    ∷ reply_spelling (Found (span 0 1 0 3 ∷ span 2 0 10 4 ∷ [])) ∷ [])
    (codes "edited 1 2 3" ∷ codes "cut 10 20 0" ∷ codes "depth 4" ∷ codes "range 5 0 1 2 3" ∷ codes "range 6 invalid" ∷ codes "dropped 7"
    ∷ codes "locked 8" ∷ codes "unlocked 9" ∷ codes "landed 3 2 3 2" ∷ codes "landed invalid" ∷ codes "found" ∷ codes "found 0 1 0 3 2 0 10 4" ∷ [])
unfolding digits
replies = refl

replies_on_jobs : Are
    (reply_spelling (Posted 1) ∷ reply_spelling Asked ∷ reply_spelling (Took 2 3) ∷ reply_spelling (Delivered 4 5 6) ∷ reply_spelling (Returned 7)
    ∷ reply_spelling Noted ∷ reply_spelling Closed ∷ reply_spelling (Refused refusal.Nothing) ∷ [])
    (codes "posted 1" ∷ codes "asked" ∷ codes "took 2 3" ∷ codes "delivered 4 5 6" ∷ codes "returned 7" ∷ codes "noted" ∷ codes "closed"
    ∷ codes "refused nothing" ∷ [])
unfolding digits
replies_on_jobs = refl

misfits : Are
    (refusal_spelling (refusal.Misfit (NoLine 1)) ∷ refusal_spelling (refusal.Misfit (NoColumn 2 3)) ∷ refusal_spelling (refusal.Misfit (SplitsPair 4 5))
    ∷ refusal_spelling (refusal.Misfit FirstLine) ∷ refusal_spelling (refusal.Misfit (TooLarge 67108865)) ∷ [])
    (codes "noline 1" ∷ codes "nocolumn 2 3" ∷ codes "splitspair 4 5" ∷ codes "firstline" ∷ codes "toolarge 67108865" ∷ [])
unfolding digits
misfits = refl

refusals : Are
    (refusal_spelling refusal.NotOpen ∷ refusal_spelling (refusal.StillOpen 2) ∷ refusal_spelling refusal.Nothing
    ∷ refusal_spelling (refusal.NotLocked 3 (Some 4)) ∷ refusal_spelling (refusal.NotLocked 5 None) ∷ refusal_spelling (refusal.NotOwned 6)
    ∷ refusal_spelling (refusal.NoRange 7) ∷ refusal_spelling (refusal.RevisionsFull 8) ∷ refusal_spelling (refusal.NoJob false)
    ∷ refusal_spelling (refusal.NoJob true) ∷ refusal_spelling (refusal.NotTaken 9) ∷ refusal_spelling refusal.Closed ∷ [])
    (codes "notopen" ∷ codes "stillopen 2" ∷ codes "nothing" ∷ codes "notlocked 3 4" ∷ codes "notlocked 5 none" ∷ codes "notowned 6"
    ∷ codes "norange 7" ∷ codes "revisionsfull 8" ∷ codes "nojob open" ∷ codes "nojob closed" ∷ codes "nottaken 9" ∷ codes "closed" ∷ [])
unfolding digits
refusals = refl

refusals_of_folds : Are
    (refusal_spelling (refusal.NoFold 1) ∷ refusal_spelling (refusal.Fold OutOfText) ∷ refusal_spelling (refusal.Fold EmptySpan)
    ∷ refusal_spelling (refusal.Fold (Crosses 2)) ∷ refusal_spelling refusal.NoMatch ∷ [])
    (codes "nofold 1" ∷ codes "outoftext" ∷ codes "emptyspan" ∷ codes "crosses 2" ∷ codes "nomatch" ∷ [])
unfolding digits
refusals_of_folds = refl

-- a journal of two events, and an empty one
two_events : journal_text
    (record { seat = 0; request = Cmd (DropRange 3); reply = Refused (refusal.NoRange 3) }
    ∷ record { seat = 12; request = Take; reply = Refused (refusal.NoJob false) } ∷ [])
    ≡ codes "journal 2" ++ 10 ∷ codes "0 droprange 3 = refused norange 3" ++ 10 ∷ codes "12 take = refused nojob open" ++ 10 ∷ []
unfolding digits event_text
two_events = refl

no_events : journal_text [] ≡ codes "journal 0" ++ 10 ∷ []
unfolding digits
no_events = refl
