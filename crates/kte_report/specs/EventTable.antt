-- The tables of requests, replies and refusals: a row for each, which reading and spelling both
-- follow. This project's own form
use Rattle.std.specs.Prelude.{ℕ, List, [], ◌∷◌, ◌++◌, codes}
use Rattle.kte_text.specs.declared.primitive.Misfit.TheVariants as misfit
use Rattle.kte_fold.specs.declared.refused.FoldRefused.TheVariants as fold
use Rattle.kte_script.specs.Fields.{ALine, Short, Long, Number, OrNone, APlace, OrInvalid, Spans, Succeeds, Closes}
use Rattle.kte_script.specs.Table.{Values, Row, Filled, filled, spell_filled}
use Rattle.kte_core.specs.declared.request.Request.{Request}
use Rattle.kte_core.specs.declared.request.Request.TheVariants.{Cmd, Close, Take, Deliver, GiveBack, Outcome}
use Rattle.kte_core.specs.declared.request.OutsideCall.{OutsideCall}
use Rattle.kte_core.specs.declared.request.OutsideCall.TheVariants as call
use Rattle.kte_core.specs.declared.reply.Reply.{Reply}
use Rattle.kte_core.specs.declared.reply.Reply.TheVariants as reply
use Rattle.kte_core.specs.declared.reply.Refusal.{Refusal}
use Rattle.kte_core.specs.declared.reply.Refusal.TheVariants as refusal

-- a row whose values make something else
abbrev pub map_row : {A B : Type 0} → (A → B) → Row A → Row B
map_row f row = record { word = row.word; kinds = row.kinds; make = λ v. f (row.make v) }

abbrev pub map_filled : {A B : Type 0} → (A → B) → Filled A → Filled B
map_filled f x = record { row = map_row f x.row; values = x.values }

-- words that lead in, each with a space after it, and then a row with its values
pub record Phrase (A : Type 0) : Type 0 where
  pub lead : List ℕ
  pub filled : Filled A

abbrev pub spell_phrase : {A : Type 0} → Phrase A → List ℕ
spell_phrase phrase = phrase.lead ++ spell_filled phrase.filled

-- a row with its values, and no word that leads in
abbrev pub plain : {A : Type 0} → (row : Row A) → Values row.kinds → Phrase A
plain row values = record { lead = []; filled = record { row = row; values = values } }

-- ---- requests

-- `close`
abbrev pub close_row : Row Request
close_row = record { word = codes "close"; kinds = []; make = λ v. Close }

-- `take`
abbrev pub take_row : Row Request
take_row = record { word = codes "take"; kinds = []; make = λ v. Take }

-- `deliver JOB`, and then `L C L C` for each finding
abbrev pub deliver_row : Row Request
deliver_row = record {
  word = codes "deliver";
  kinds = Number Short ∷ Spans ∷ [];
  make = λ v. Deliver v.0 v.1.0;
}

-- `giveback JOB`
abbrev pub giveback_row : Row Request
giveback_row = record {
  word = codes "giveback";
  kinds = Number Short ∷ [];
  make = λ v. GiveBack v.0;
}

-- the requests that are neither commands nor outcomes
abbrev pub request_rows : List (Row Request)
request_rows = close_row ∷ take_row ∷ deliver_row ∷ giveback_row ∷ []

abbrev pub call_word : OutsideCall → List ℕ
call_word call.Append = codes "append"
call_word call.Sync = codes "sync"
call_word call.Save = codes "save"

-- `append`, `sync` or `save`, and then `ok` or `failed`
abbrev pub call_row : OutsideCall → Row Request
call_row called = record {
  word = call_word called;
  kinds = Succeeds ∷ [];
  make = λ v. Outcome called v.0;
}

-- the words after `outcome`
abbrev pub call_rows : List (Row Request)
call_rows = call_row call.Append ∷ call_row call.Sync ∷ call_row call.Save ∷ []

-- the words of a request
abbrev pub request_phrase : Request → Phrase Request
request_phrase (Cmd command) = record { lead = []; filled = map_filled Cmd (filled command) }
request_phrase Close = plain close_row tt
request_phrase Take = plain take_row tt
request_phrase (Deliver job findings) = plain deliver_row (job, (findings, tt))
request_phrase (GiveBack job) = plain giveback_row (job, tt)
request_phrase (Outcome called ok) =
    record { lead = codes "outcome "; filled = record { row = call_row called; values = (ok, tt) } }

-- ---- refusals

-- `noline L`
abbrev pub noline_row : Row Refusal
noline_row = record {
  word = codes "noline";
  kinds = Number ALine ∷ [];
  make = λ v. refusal.Misfit (misfit.NoLine v.0);
}

-- `nocolumn L C`
abbrev pub nocolumn_row : Row Refusal
nocolumn_row = record {
  word = codes "nocolumn";
  kinds = APlace ∷ [];
  make = λ v. refusal.Misfit (misfit.NoColumn v.0.line v.0.column);
}

-- `splitspair L C`
abbrev pub splitspair_row : Row Refusal
splitspair_row = record {
  word = codes "splitspair";
  kinds = APlace ∷ [];
  make = λ v. refusal.Misfit (misfit.SplitsPair v.0.line v.0.column);
}

-- `firstline`
abbrev pub firstline_row : Row Refusal
firstline_row = record {
  word = codes "firstline";
  kinds = [];
  make = λ v. refusal.Misfit misfit.FirstLine;
}

-- `toolarge SIZE`
abbrev pub toolarge_row : Row Refusal
toolarge_row = record {
  word = codes "toolarge";
  kinds = Number Long ∷ [];
  make = λ v. refusal.Misfit (misfit.TooLarge v.0);
}

-- `notopen`
abbrev pub notopen_row : Row Refusal
notopen_row = record { word = codes "notopen"; kinds = []; make = λ v. refusal.NotOpen }

-- `stillopen DEPTH`
abbrev pub stillopen_row : Row Refusal
stillopen_row = record {
  word = codes "stillopen";
  kinds = Number Short ∷ [];
  make = λ v. refusal.StillOpen v.0;
}

-- `nothing`
abbrev pub nothing_row : Row Refusal
nothing_row = record { word = codes "nothing"; kinds = []; make = λ v. refusal.Nothing }

-- `revisionsfull R`
abbrev pub revisionsfull_row : Row Refusal
revisionsfull_row = record {
  word = codes "revisionsfull";
  kinds = Number Long ∷ [];
  make = λ v. refusal.RevisionsFull v.0;
}

-- `norange ID`
abbrev pub norange_row : Row Refusal
norange_row = record {
  word = codes "norange";
  kinds = Number Long ∷ [];
  make = λ v. refusal.NoRange v.0;
}

-- `nofold ID`
abbrev pub nofold_row : Row Refusal
nofold_row = record {
  word = codes "nofold";
  kinds = Number Long ∷ [];
  make = λ v. refusal.NoFold v.0;
}

-- `outoftext`
abbrev pub outoftext_row : Row Refusal
outoftext_row = record {
  word = codes "outoftext";
  kinds = [];
  make = λ v. refusal.Fold fold.OutOfText;
}

-- `emptyspan`
abbrev pub emptyspan_row : Row Refusal
emptyspan_row = record {
  word = codes "emptyspan";
  kinds = [];
  make = λ v. refusal.Fold fold.EmptySpan;
}

-- `crosses ID`
abbrev pub crosses_row : Row Refusal
crosses_row = record {
  word = codes "crosses";
  kinds = Number Long ∷ [];
  make = λ v. refusal.Fold (fold.Crosses v.0);
}

-- `nomatch`
abbrev pub nomatch_row : Row Refusal
nomatch_row = record { word = codes "nomatch"; kinds = []; make = λ v. refusal.NoMatch }

-- `notlocked R OLDEST`
abbrev pub notlocked_row : Row Refusal
notlocked_row = record {
  word = codes "notlocked";
  kinds = Number Long ∷ OrNone Long ∷ [];
  make = λ v. refusal.NotLocked v.0 v.1.0;
}

-- `notowned R`
abbrev pub notowned_row : Row Refusal
notowned_row = record {
  word = codes "notowned";
  kinds = Number Long ∷ [];
  make = λ v. refusal.NotOwned v.0;
}

-- `nojob open` or `nojob closed`
abbrev pub nojob_row : Row Refusal
nojob_row = record {
  word = codes "nojob";
  kinds = Closes ∷ [];
  make = λ v. refusal.NoJob v.0;
}

-- `nottaken JOB`
abbrev pub nottaken_row : Row Refusal
nottaken_row = record {
  word = codes "nottaken";
  kinds = Number Short ∷ [];
  make = λ v. refusal.NotTaken v.0;
}

-- `closed`
abbrev pub refused_closed_row : Row Refusal
refused_closed_row = record { word = codes "closed"; kinds = []; make = λ v. refusal.Closed }

-- the refusals about ranges, folds and searches
abbrev pub range_refusal_rows : List (Row Refusal)
range_refusal_rows =
    norange_row ∷ nofold_row ∷ outoftext_row ∷ emptyspan_row ∷ crosses_row ∷ nomatch_row ∷ []

-- all refusals but misfits
abbrev pub other_refusal_rows : List (Row Refusal)
other_refusal_rows =
    notopen_row ∷ stillopen_row ∷ nothing_row ∷ revisionsfull_row ∷ notlocked_row ∷ notowned_row
    ∷ nojob_row ∷ nottaken_row ∷ refused_closed_row ∷ range_refusal_rows

abbrev pub refusal_rows : List (Row Refusal)
refusal_rows =
    noline_row ∷ nocolumn_row ∷ splitspair_row ∷ firstline_row ∷ toolarge_row ∷ other_refusal_rows

-- the row and the values that make a refusal
abbrev pub filled_refusal : Refusal → Filled Refusal
filled_refusal (refusal.Misfit (misfit.NoLine line)) =
    record { row = noline_row; values = (line, tt) }
filled_refusal (refusal.Misfit (misfit.NoColumn line column)) =
    record { row = nocolumn_row; values = (record { line = line; column = column }, tt) }
filled_refusal (refusal.Misfit (misfit.SplitsPair line column)) =
    record { row = splitspair_row; values = (record { line = line; column = column }, tt) }
filled_refusal (refusal.Misfit misfit.FirstLine) = record { row = firstline_row; values = tt }
filled_refusal (refusal.Misfit (misfit.TooLarge size)) =
    record { row = toolarge_row; values = (size, tt) }
filled_refusal refusal.NotOpen = record { row = notopen_row; values = tt }
filled_refusal (refusal.StillOpen depth) = record { row = stillopen_row; values = (depth, tt) }
filled_refusal refusal.Nothing = record { row = nothing_row; values = tt }
filled_refusal (refusal.RevisionsFull revision) =
    record { row = revisionsfull_row; values = (revision, tt) }
filled_refusal (refusal.NoRange id) = record { row = norange_row; values = (id, tt) }
filled_refusal (refusal.NoFold id) = record { row = nofold_row; values = (id, tt) }
filled_refusal (refusal.Fold fold.OutOfText) = record { row = outoftext_row; values = tt }
filled_refusal (refusal.Fold fold.EmptySpan) = record { row = emptyspan_row; values = tt }
filled_refusal (refusal.Fold (fold.Crosses id)) = record { row = crosses_row; values = (id, tt) }
filled_refusal refusal.NoMatch = record { row = nomatch_row; values = tt }
filled_refusal (refusal.NotLocked revision oldest) =
    record { row = notlocked_row; values = (revision, (oldest, tt)) }
filled_refusal (refusal.NotOwned revision) = record { row = notowned_row; values = (revision, tt) }
filled_refusal (refusal.NoJob closed) = record { row = nojob_row; values = (closed, tt) }
filled_refusal (refusal.NotTaken job) = record { row = nottaken_row; values = (job, tt) }
filled_refusal refusal.Closed = record { row = refused_closed_row; values = tt }

-- ---- replies

-- `edited STEPS REVISION DEPTH`
abbrev pub edited_row : Row Reply
edited_row = record {
  word = codes "edited";
  kinds = Number Long ∷ Number Long ∷ Number Short ∷ [];
  make = λ v. reply.Edited v.0 v.1.0 v.1.1.0;
}

-- `cut STEPS REVISION DEPTH`
abbrev pub cut_row : Row Reply
cut_row = record {
  word = codes "cut";
  kinds = Number Long ∷ Number Long ∷ Number Short ∷ [];
  make = λ v. reply.Cut v.0 v.1.0 v.1.1.0;
}

-- `depth DEPTH`
abbrev pub depth_row : Row Reply
depth_row = record {
  word = codes "depth";
  kinds = Number Short ∷ [];
  make = λ v. reply.Depth v.0;
}

-- `range ID SPAN`
abbrev pub range_row : Row Reply
range_row = record {
  word = codes "range";
  kinds = Number Long ∷ OrInvalid ∷ [];
  make = λ v. reply.Range v.0 v.1.0;
}

-- `dropped ID`
abbrev pub dropped_row : Row Reply
dropped_row = record {
  word = codes "dropped";
  kinds = Number Long ∷ [];
  make = λ v. reply.Dropped v.0;
}

-- `locked R`
abbrev pub locked_row : Row Reply
locked_row = record {
  word = codes "locked";
  kinds = Number Long ∷ [];
  make = λ v. reply.Locked v.0;
}

-- `unlocked R`
abbrev pub unlocked_row : Row Reply
unlocked_row = record {
  word = codes "unlocked";
  kinds = Number Long ∷ [];
  make = λ v. reply.Unlocked v.0;
}

-- `landed SPAN`
abbrev pub landed_row : Row Reply
landed_row = record {
  word = codes "landed";
  kinds = OrInvalid ∷ [];
  make = λ v. reply.Landed v.0;
}

-- `found`, and then `L C L C` for each match
abbrev pub found_row : Row Reply
found_row = record {
  word = codes "found";
  kinds = Spans ∷ [];
  make = λ v. reply.Found v.0;
}

-- `posted JOB`
abbrev pub posted_row : Row Reply
posted_row = record {
  word = codes "posted";
  kinds = Number Short ∷ [];
  make = λ v. reply.Posted v.0;
}

-- `asked`
abbrev pub asked_row : Row Reply
asked_row = record { word = codes "asked"; kinds = []; make = λ v. reply.Asked }

-- `took JOB R`
abbrev pub took_row : Row Reply
took_row = record {
  word = codes "took";
  kinds = Number Short ∷ Number Long ∷ [];
  make = λ v. reply.Took v.0 v.1.0;
}

-- `delivered JOB FIRST COUNT`
abbrev pub delivered_row : Row Reply
delivered_row = record {
  word = codes "delivered";
  kinds = Number Short ∷ Number Long ∷ Number Long ∷ [];
  make = λ v. reply.Delivered v.0 v.1.0 v.1.1.0;
}

-- `returned JOB`
abbrev pub returned_row : Row Reply
returned_row = record {
  word = codes "returned";
  kinds = Number Short ∷ [];
  make = λ v. reply.Returned v.0;
}

-- `noted`
abbrev pub noted_row : Row Reply
noted_row = record { word = codes "noted"; kinds = []; make = λ v. reply.Noted }

-- `closed`
abbrev pub closed_row : Row Reply
closed_row = record { word = codes "closed"; kinds = []; make = λ v. reply.Closed }

-- the replies about jobs, outcomes and the close of the session
abbrev pub other_reply_rows : List (Row Reply)
other_reply_rows =
    posted_row ∷ asked_row ∷ took_row ∷ delivered_row ∷ returned_row ∷ noted_row ∷ closed_row ∷ []

-- all replies but refusals
abbrev pub reply_rows : List (Row Reply)
reply_rows =
    edited_row ∷ cut_row ∷ depth_row ∷ range_row ∷ dropped_row ∷ locked_row ∷ unlocked_row
    ∷ landed_row ∷ found_row ∷ other_reply_rows

-- the words of a reply
abbrev pub reply_phrase : Reply → Phrase Reply
reply_phrase (reply.Edited steps revision depth) =
    plain edited_row (steps, (revision, (depth, tt)))
reply_phrase (reply.Cut steps revision depth) = plain cut_row (steps, (revision, (depth, tt)))
reply_phrase (reply.Depth depth) = plain depth_row (depth, tt)
reply_phrase (reply.Range id span) = plain range_row (id, (span, tt))
reply_phrase (reply.Dropped id) = plain dropped_row (id, tt)
reply_phrase (reply.Locked revision) = plain locked_row (revision, tt)
reply_phrase (reply.Unlocked revision) = plain unlocked_row (revision, tt)
reply_phrase (reply.Landed span) = plain landed_row (span, tt)
reply_phrase (reply.Found spans) = plain found_row (spans, tt)
reply_phrase (reply.Posted job) = plain posted_row (job, tt)
reply_phrase reply.Asked = plain asked_row tt
reply_phrase (reply.Took job revision) = plain took_row (job, (revision, tt))
reply_phrase (reply.Delivered job first count) = plain delivered_row (job, (first, (count, tt)))
reply_phrase (reply.Returned job) = plain returned_row (job, tt)
reply_phrase reply.Noted = plain noted_row tt
reply_phrase reply.Closed = plain closed_row tt
reply_phrase (reply.Refused refused) =
    record { lead = codes "refused "; filled = map_filled reply.Refused (filled_refusal refused) }
