-- Worked examples of the definitions.
use Rattle.std.proofs.Common.{◌≡◌, ℕ, Bool, true, false, List, [], ◌∷◌, length, Some, None, refl, ap, sym, ◌∙◌}
use Rattle.std.specs.Prelude.{codes}
use Rattle.std.specs.Ordering.{nat_cmp}
use Rattle.std.specs.Cmp.{nat_cmp_total}
use Rattle.std.specs.FinMap.{get, insert, entries, empty, put as put_in, get-empty, len-empty, len-entries, entries-insert}
use Rattle.kte_text.specs.Saving.{bytes_of}
use Rattle.kte_text.specs.declared.loading.Eol.TheVariants.{CrLf, Lf}
use Rattle.kte_text.specs.declared.primitive.Primitive.TheVariants.{Insert, Wrap, Unwrap, Remove}
use Rattle.kte_text.specs.declared.primitive.Misfit.TheVariants.{NoLine, NoColumn, FirstLine}
use Rattle.kte_place.specs.Ends.{Ends}
use Rattle.kte_place.specs.declared.place.Place.{Place}
use Rattle.kte_place.specs.declared.span.Empty.{Empty}
use Rattle.kte_place.specs.declared.span.Empty.TheVariants.{Allow, Void}
use Rattle.kte_fold.specs.declared.refused.FoldRefused.TheVariants.{OutOfText, EmptySpan, Crosses}
use Rattle.kte_search.specs.declared.query.Query.{Query}
use Rattle.kte_find.specs.declared.rule.Rule.TheVariants.{Blanks, Pairs}
use Rattle.kte_history.specs.declared.lock.Owner.TheVariants.{Job}
use Rattle.kte_jobs.specs.declared.job.JobState.TheVariants.{Done}
use Rattle.kte_edit.specs.declared.change.Change.{Change}
use Rattle.kte_undo.specs.Groups.{Edits}
use Rattle.kte_undo.specs.declared.step.Step.TheVariants as Step
use Rattle.kte_core.specs.Editing.{saved_form, text_of}
use Rattle.kte_core.specs.Kept.{owed}
use Rattle.kte_core.specs.State.{Range, State, Reaction, refused, stands}
use Rattle.kte_core.specs.Folds.{fold_now}
use Rattle.kte_core.specs.Jobs.{found_at}
use Rattle.kte_core.proofs.RangeLemmas.{get_here}
use Rattle.kte_core.specs.React.{react, react_cut}
use Rattle.kte_core.specs.Replay.{beginning, transactions}
use Rattle.kte_core.specs.declared.event.Event.{Event}
use Rattle.kte_core.specs.declared.reply.Reply.{Reply}
use Rattle.kte_core.specs.declared.reply.Reply.TheVariants as reply
use Rattle.kte_core.specs.declared.reply.Refusal.TheVariants as refusal
use Rattle.kte_core.specs.declared.reply.Refusal.TheVariants.{Misfit, NotOpen, StillOpen, Nothing, RevisionsFull, NoRange, NoFold, NoMatch, NotLocked, NotOwned, NoJob, NotTaken, Closed}
use Rattle.kte_core.specs.declared.request.Request.{Request}
use Rattle.kte_core.specs.declared.request.Request.TheVariants.{Cmd, Close, Take, Deliver, GiveBack, Outcome}
use Rattle.kte_core.specs.declared.request.OutsideCall.TheVariants.{Save as Saved}
use Rattle.kte_command.specs.declared.command.Command.TheVariants.{Edit, Begin, End, Undo, Redo, MakeRange, SetRange, DropRange, ShowRange, Lock, Unlock, Land, Fold, Unfold, Find, FindBack, All, Check, Sync, Save}

-- `hello` and an empty line, where two revisions can be made
abbrev hello : State
hello = beginning (record { text = codes "hello" ∷ [] ∷ []; eol = Lf; bom = false }) 2

-- a request of the editor
abbrev asked : State → Request → Reaction
asked state request = react state 0 request

abbrev put : Change → Request
put change = Cmd (Edit change)

abbrev place : ℕ → ℕ → Place
place line column = record { line = line; column = column }

abbrev span : ℕ → ℕ → ℕ → ℕ → Ends
span line column line' column' = record { start = place line column; end = place line' column' }

-- the state after two wraps of the first line, where no further revision can be made
abbrev full : State
full = (asked (asked hello (put (Change.Wrap (place 0 0)))).after (put (Change.Wrap (place 0 0)))).after

-- a range that does not expand
abbrev range : Ends → Empty → Request
range span empty = Cmd (MakeRange span (record { left = false; right = false }) empty)

abbrev mark : List ℕ
mark = codes "!"

inserted : (asked hello (put (Change.Insert (place 0 5) (mark ∷ [])))).reply ≡ reply.Edited 1 1 0
inserted = refl

inserted-made : (asked hello (put (Change.Insert (place 0 5) (mark ∷ [])))).made ≡ Insert 0 5 mark ∷ []
inserted-made = refl

inserted-text : text_of (asked hello (put (Change.Insert (place 0 5) (mark ∷ [])))).after.editing ≡ codes "hello!" ∷ [] ∷ []
inserted-text = refl

-- what does not fit is refused, and changes nothing
no_column : asked hello (put (Change.Insert (place 0 6) (mark ∷ []))) ≡ refused hello (Misfit (NoColumn 0 6))
no_column = refl

no_line : asked hello (put (Change.Insert (place 2 0) (mark ∷ []))) ≡ refused hello (Misfit (NoLine 2))
no_line = refl

first_line : asked hello (put (Change.Unwrap 0)) ≡ refused hello (Misfit FirstLine)
first_line = refl

-- an insertion or a removal of nothing is an edit of no steps, which is judged too
nothing : (asked hello (put (Change.Insert (place 0 5) ([] ∷ [])))).reply ≡ reply.Edited 0 0 0
nothing = refl

nothing-misplaced : asked hello (put (Change.Remove (span 0 6 0 6))) ≡ refused hello (Misfit (NoColumn 0 6))
nothing-misplaced = refl

-- the last revision is made, and none after it but an edit of no steps
last : (asked (asked hello (put (Change.Wrap (place 0 0)))).after (put (Change.Wrap (place 0 0)))).reply ≡ reply.Edited 1 2 0
last = refl

too_many : asked full (put (Change.Wrap (place 0 0))) ≡ refused full (RevisionsFull 2)
too_many = refl

too_many-misplaced : asked full (put (Change.Wrap (place 9 0))) ≡ refused full (Misfit (NoLine 9))
too_many-misplaced = refl

too_many-nothing : (asked full (put (Change.Insert (place 0 0) ([] ∷ [])))).reply ≡ reply.Edited 0 2 0
too_many-nothing = refl

-- ranges are numbered from 1; one past the text is invalid, and so is an empty one that may not be
made-range : (asked hello (range (span 0 1 0 3) Void)).reply ≡ reply.Range 1 (Some (span 0 1 0 3))
made-range = refl

second-range : (asked (asked hello (range (span 0 1 0 3) Void)).after (range (span 0 1 2 0) Allow)).reply ≡ reply.Range 2 None
second-range = refl

empty-range : (asked hello (range (span 0 1 0 1) Void)).reply ≡ reply.Range 1 None
empty-range = refl

-- a number at which no range is
set-none : asked hello (Cmd (SetRange 7 (span 0 0 0 1))) ≡ refused hello (NoRange 7)
set-none = rw (get-empty nat_cmp 7) refl

drop-none : asked hello (Cmd (DropRange 7)) ≡ refused hello (NoRange 7)
drop-none = rw (get-empty nat_cmp 7) refl

show-none : asked hello (Cmd (ShowRange 7)) ≡ refused hello (NoRange 7)
show-none = rw (get-empty nat_cmp 7) refl

-- folds draw from the numbers of the ranges, and cross no other

abbrev four : State
four = beginning (record { text = codes "a" ∷ codes "b" ∷ codes "c" ∷ codes "d" ∷ []; eol = Lf; bom = false }) 9

abbrev folds : Ends → Request
folds span = Cmd (Fold span)

-- a state without ranges has no folds
no_entries : entries (empty {X = Range} {R = nat_cmp}) ≡ []
no_entries = by_length (entries empty) (sym (len-entries empty) ∙ len-empty nat_cmp Range) where
  by_length : (es : List (ℕ × Range)) → length es ≡ 0 → es ≡ []
  by_length [] is = refl
  by_length (e ∷ es) is = absurd (cc)

fold_refused-out : (asked four (folds (span 0 1 4 0))).reply ≡ reply.Refused (refusal.Fold OutOfText)
fold_refused-out = refl

fold_refused-empty : (asked four (folds (span 1 1 1 1))).reply ≡ reply.Refused (refusal.Fold EmptySpan)
fold_refused-empty = refl

folded-reply : (asked four (folds (span 0 1 2 0))).reply ≡ reply.Range 1 (Some (span 0 1 2 0))
folded-reply = rw no_entries refl

unfold-none : asked four (Cmd (Unfold 1)) ≡ refused four (NoFold 1)
unfold-none = rw (get-empty nat_cmp 1) refl

-- the state with this fold
abbrev first_fold : Range
first_fold = fold_now four.editing (span 0 1 2 0)

abbrev folded : State
folded = record four { ranges = insert empty 1 first_fold; next_id = 2 }

folded-after : (asked four (folds (span 0 1 2 0))).after ≡ folded
folded-after = rw no_entries refl

one_entry : entries folded.ranges ≡ (1, first_fold) ∷ []
one_entry = entries-insert nat_cmp_total empty 1 first_fold ∙ ap (put_in nat_cmp 1 first_fold) no_entries

crossing : asked folded (folds (span 1 0 3 1)) ≡ refused folded (refusal.Fold (Crosses 1))
crossing = rw one_entry (rw (get_here empty 1 (span 0 1 2 0)) refl)

unfolded : (asked folded (Cmd (Unfold 1))).reply ≡ reply.Dropped 1
unfolded = rw (get_here empty 1 first_fold) refl

-- a fold is no range for the commands on ranges
set_fold : asked folded (Cmd (SetRange 1 (span 0 0 0 1))) ≡ refused folded (NoRange 1)
set_fold = rw (get_here empty 1 first_fold) refl

drop_fold : asked folded (Cmd (DropRange 1)) ≡ refused folded (NoRange 1)
drop_fold = rw (get_here empty 1 first_fold) refl

show_fold : asked folded (Cmd (ShowRange 1)) ≡ refused folded (NoRange 1)
show_fold = rw (get_here empty 1 first_fold) refl

-- searches

abbrev food : State
food = beginning (record { text = codes "foo Foo food" ∷ []; eol = Lf; bom = false }) 9

abbrev foo : Bool → Bool → Query
foo fold_case whole = record { pattern = codes "foo"; fold_case = fold_case; whole = whole }

all : (asked food (Cmd (All (foo true true)))).reply ≡ reply.Found (span 0 0 0 3 ∷ span 0 4 0 7 ∷ [])
all = refl

find : (asked food (Cmd (Find (place 0 1) (foo false false)))).reply ≡ reply.Found (span 0 8 0 11 ∷ [])
find = refl

find-back : (asked food (Cmd (FindBack (place 0 8) (foo true false)))).reply ≡ reply.Found (span 0 4 0 7 ∷ [])
find-back = refl

no_match : asked food (Cmd (Find (place 0 9) (foo false false))) ≡ refused food NoMatch
no_match = refl

-- a revision that is locked twice stays locked until it is unlocked twice

abbrev ab : State
ab = beginning (record { text = codes "ab" ∷ [] ∷ []; eol = Lf; bom = false }) 9

lock : (asked ab (Cmd Lock)).reply ≡ reply.Locked 0
lock = refl

abbrev locked_twice : State
locked_twice = (asked (asked ab (Cmd Lock)).after (Cmd Lock)).after

unlock : (asked locked_twice (Cmd (Unlock 0))).reply ≡ reply.Unlocked 0
unlock = refl

abbrev later : State
later = (asked (asked locked_twice (Cmd (Unlock 0))).after (put (Change.Insert (place 0 0) (codes "x" ∷ [])))).after

abbrev landing : Request
landing = Cmd (Land 0 (span 0 1 0 2) (record { left = false; right = false }) Allow)

land : (asked later landing).reply ≡ reply.Landed (Some (span 0 2 0 3))
land = refl

abbrev free : State
free = (asked later (Cmd (Unlock 0))).after

not_locked : asked free landing ≡ refused free (NotLocked 0 None)
not_locked = refl

not_owned : asked free (Cmd (Unlock 0)) ≡ refused free (NotOwned 0)
not_owned = refl

-- a state after requests, and the replies to them in order

abbrev after_requests : State → List Request → State
after_requests state [] = state
after_requests state (request ∷ requests) = after_requests (asked state request).after requests

abbrev replies : State → List Request → List Reply
replies state [] = []
replies state (request ∷ requests) = (asked state request).reply ∷ replies (asked state request).after requests

-- a text without a line end, in which many revisions can be made
abbrev text : List (List ℕ) → State
text lines = beginning (record { text = lines; eol = Lf; bom = false }) 99

abbrev edits_of : State → Edits
edits_of state = state.editing.edits

-- nothing is undone while a transaction is open, and a transaction is one group
abbrev while_open : List Request
while_open = Cmd Undo ∷ Cmd Begin ∷ put (Change.Insert (place 0 0) (codes "a" ∷ [])) ∷ Cmd Undo ∷ Cmd End ∷ []

open-replies : replies (text ([] ∷ [])) while_open
    ≡ reply.Refused Nothing ∷ reply.Depth 1 ∷ reply.Edited 1 1 1 ∷ reply.Refused (StillOpen 1) ∷ reply.Depth 0 ∷ []
open-replies = refl

open-edits : edits_of (after_requests (text ([] ∷ [])) while_open)
    ≡ record { depth = 0; current = []; undo = (Step.Insert 0 0 (codes "a") ∷ []) ∷ []; redo = [] }
open-edits = refl

not_open : (asked (text ([] ∷ [])) (Cmd End)).reply ≡ reply.Refused NotOpen
not_open = refl

-- a group is undone once and redone once
abbrev remove_first : Request
remove_first = put (Change.Remove (span 0 0 0 1))

abbrev twice : List Request
twice = remove_first ∷ Cmd Undo ∷ Cmd Redo ∷ Cmd Redo ∷ []

twice-replies : replies (text (codes "ab" ∷ [])) twice
    ≡ reply.Edited 1 1 0 ∷ reply.Edited 1 2 0 ∷ reply.Edited 1 3 0 ∷ reply.Refused Nothing ∷ []
twice-replies = refl

twice-edits : edits_of (after_requests (text (codes "ab" ∷ [])) twice)
    ≡ record { depth = 0; current = []; undo = (Step.Remove 0 0 (codes "a") ∷ []) ∷ []; redo = [] }
twice-edits = refl

undone-made : (asked (after_requests (text (codes "ab" ∷ [])) (remove_first ∷ [])) (Cmd Undo)).made ≡ Insert 0 0 (codes "a") ∷ []
undone-made = refl

undone-edits : edits_of (after_requests (text (codes "ab" ∷ [])) (remove_first ∷ Cmd Undo ∷ []))
    ≡ record { depth = 0; current = []; undo = []; redo = (Step.Remove 0 0 (codes "a") ∷ []) ∷ [] }
undone-edits = refl

-- an empty change keeps what may be redone, and another one does not
kept-redo : edits_of (after_requests (text (codes "ab" ∷ [])) (remove_first ∷ Cmd Undo ∷ put (Change.Insert (place 0 0) ([] ∷ [])) ∷ []))
    ≡ record { depth = 0; current = []; undo = []; redo = (Step.Remove 0 0 (codes "a") ∷ []) ∷ [] }
kept-redo = refl

lost-redo : edits_of (after_requests (text (codes "ab" ∷ [])) (remove_first ∷ Cmd Undo ∷ put (Change.Wrap (place 0 1)) ∷ []))
    ≡ record { depth = 0; current = []; undo = (Step.Wrap 1 1 ∷ []) ∷ []; redo = [] }
lost-redo = refl

-- a text of two lines is inserted
two_lines : asked (text (codes "xy" ∷ [])) (put (Change.Insert (place 0 1) (codes "a" ∷ codes "b" ∷ []))) ≡ record {
  reply = reply.Edited 3 3 0;
  made = Insert 0 1 (codes "a") ∷ Wrap 0 2 ∷ Insert 1 0 (codes "b") ∷ [];
  finished = Some (Insert 0 1 (codes "a") ∷ Wrap 0 2 ∷ Insert 1 0 (codes "b") ∷ []);
  after = after_requests (text (codes "xy" ∷ [])) (put (Change.Insert (place 0 1) (codes "a" ∷ codes "b" ∷ [])) ∷ []);
}
two_lines = refl

-- a part of three lines is replaced
abbrev replace : Request
replace = put (Change.Replace (span 0 0 2 0) (codes "z" ∷ []))

three_lines-reply : (asked (text (codes "a" ∷ codes "b" ∷ codes "c" ∷ [])) replace).reply ≡ reply.Edited 5 5 0
three_lines-reply = refl

three_lines-made : (asked (text (codes "a" ∷ codes "b" ∷ codes "c" ∷ [])) replace).made
    ≡ Remove 1 0 1 ∷ Unwrap 2 ∷ Remove 0 0 1 ∷ Unwrap 1 ∷ Insert 0 0 (codes "z") ∷ []
three_lines-made = refl

three_lines-text : text_of (after_requests (text (codes "a" ∷ codes "b" ∷ codes "c" ∷ [])) (replace ∷ [])).editing ≡ codes "zc" ∷ []
three_lines-text = refl

three_lines-undone : text_of (after_requests (text (codes "a" ∷ codes "b" ∷ codes "c" ∷ [])) (replace ∷ Cmd Undo ∷ [])).editing
    ≡ codes "a" ∷ codes "b" ∷ codes "c" ∷ []
three_lines-undone = refl

-- of a change of three primitives two are made: they are a transaction
cut_change : react_cut (text (codes "xy" ∷ [])) 0 (put (Change.Insert (place 0 1) (codes "a" ∷ codes "b" ∷ []))) 2 ≡ record {
  reply = reply.Cut 2 2 0;
  made = Insert 0 1 (codes "a") ∷ Wrap 0 2 ∷ [];
  finished = Some (Insert 0 1 (codes "a") ∷ Wrap 0 2 ∷ []);
  after = record (text (codes "xy" ∷ [])) {
    editing = record (text (codes "xy" ∷ [])).editing {
      trail = Insert 0 1 (codes "a") ∷ Wrap 0 2 ∷ [];
      edits = record { depth = 0; current = []; undo = (Step.Insert 0 1 (codes "a") ∷ Step.Wrap 1 2 ∷ []) ∷ []; redo = [] };
    };
  };
}
cut_change = refl

-- of an undo of two primitives one is made: the group is cut in two
cut_undo : edits_of (react_cut (after_requests (text (codes "ab" ∷ [])) (put (Change.Replace (span 0 0 0 1) (codes "c" ∷ [])) ∷ [])) 0 (Cmd Undo) 1).after
    ≡ record { depth = 0; current = []; undo = (Step.Remove 0 0 (codes "a") ∷ []) ∷ []; redo = (Step.Insert 0 0 (codes "c") ∷ []) ∷ [] }
cut_undo = refl

-- .. and so it is on the way forth
cut_redo : edits_of (react_cut (after_requests (text (codes "ab" ∷ [])) (put (Change.Replace (span 0 0 0 1) (codes "c" ∷ [])) ∷ Cmd Undo ∷ [])) 0 (Cmd Redo) 1).after
    ≡ record { depth = 0; current = []; undo = (Step.Remove 0 0 (codes "a") ∷ []) ∷ []; redo = (Step.Insert 0 0 (codes "c") ∷ []) ∷ [] }
cut_redo = refl

-- the primitives of the events: those of the finished transactions, and then those of the open one
abbrev as_events : State → List Request → List Event
as_events state [] = []
as_events state (request ∷ requests) =
    record { seat = 0; request = request; reply = (asked state request).reply } ∷ as_events (asked state request).after requests

finished : transactions (text (codes "ab" ∷ [])) (as_events (text (codes "ab" ∷ []))
    (remove_first ∷ Cmd Begin ∷ put (Change.Wrap (place 0 0)) ∷ put (Change.Unwrap 1) ∷ Cmd End ∷ Cmd Begin ∷ Cmd End ∷ Cmd Undo ∷ Cmd Begin ∷ put (Change.Wrap (place 0 1)) ∷ []))
    ≡ (Remove 0 0 1 ∷ []) ∷ (Wrap 0 0 ∷ Unwrap 1 ∷ []) ∷ (Wrap 0 0 ∷ Unwrap 1 ∷ []) ∷ []
finished = refl

-- jobs

-- lines with a blank at the end, in which many revisions can be made
abbrev blanks : State
blanks = text (codes "x" ∷ codes "a  " ∷ [])

abbrev cut : Request
cut = put (Change.Remove (span 0 1 1 3))

-- a job is posted, taken at revision 0, and delivered after the text has changed and is as it was
abbrev checked : State
checked = after_requests blanks (Cmd (Check Blanks) ∷ Take ∷ cut ∷ Cmd Undo ∷ Deliver 1 (span 1 1 1 3 ∷ []) ∷ Close ∷ [])

check-replies : replies blanks (Cmd (Check Blanks) ∷ Take ∷ cut ∷ Cmd Undo ∷ Deliver 1 (span 1 1 1 3 ∷ []) ∷ Close ∷ [])
    ≡ reply.Posted 1 ∷ reply.Took 1 0 ∷ reply.Edited 2 2 0 ∷ reply.Edited 2 4 0 ∷ reply.Delivered 1 1 1 ∷ reply.Closed ∷ []
check-replies = refl

-- the finding was of the text before, so its range is invalid
check-range : stands checked.editing (found_at 1 0 (span 1 1 1 3)) ≡ None
check-range = refl

check-there : get checked.ranges 1 ≡ Some (found_at 1 0 (span 1 1 1 3))
check-there = get_here empty 1 (found_at 1 0 (span 1 1 1 3))

check-done : checked.jobs ≡ record { rule = Blanks; state = Done } ∷ []
check-done = refl

check-unlocked : checked.locks ≡ []
check-unlocked = refl

check-locked : (after_requests blanks (Cmd (Check Blanks) ∷ Take ∷ [])).locks ≡ record { owner = Job 1; revision = 0 } ∷ []
check-locked = refl

-- a job that was given back is taken by another seat
given_back : replies blanks (Cmd (Check Blanks) ∷ Take ∷ GiveBack 1 ∷ GiveBack 1 ∷ Take ∷ [])
    ≡ reply.Posted 1 ∷ reply.Took 1 0 ∷ reply.Returned 1 ∷ reply.Refused (NotTaken 1) ∷ reply.Took 1 0 ∷ []
given_back = refl

-- another seat has not taken it
not_taken : (react (after_requests blanks (Cmd (Check Blanks) ∷ Take ∷ [])) 1 (Deliver 1 [])).reply ≡ reply.Refused (NotTaken 1)
not_taken = refl

-- no job waits, and none will
no_job : replies blanks (Take ∷ Close ∷ Take ∷ []) ≡ reply.Refused (NoJob false) ∷ reply.Closed ∷ reply.Refused (NoJob true) ∷ []
no_job = refl

-- a session is closed once, and at whatever depth
closed : replies blanks (Cmd Begin ∷ Close ∷ Close ∷ Cmd (Check Blanks) ∷ Outcome Saved true ∷ [])
    ≡ reply.Depth 1 ∷ reply.Closed ∷ reply.Refused Closed ∷ reply.Refused Closed ∷ reply.Noted ∷ []
closed = refl

-- what is to be done outside waits for the end of the transaction
outside : replies blanks (Cmd Begin ∷ Cmd Sync ∷ Cmd Save ∷ Cmd End ∷ Cmd Sync ∷ Cmd Save ∷ [])
    ≡ reply.Depth 1 ∷ reply.Refused (StillOpen 1) ∷ reply.Refused (StillOpen 1) ∷ reply.Depth 0 ∷ reply.Asked ∷ reply.Asked ∷ []
outside = refl

-- what is saved has the loaded file's line end and mark
saved : saved_form (after_requests (beginning (record { text = codes "a" ∷ codes "b" ∷ []; eol = CrLf; bom = true }) 9) (put (Change.Unwrap 1) ∷ [])).editing
    ≡ bytes_of (codes "ab" ∷ []) CrLf true
saved = refl

-- room is kept for the first close, and for the return of each job that is taken
kept : owed (after_requests blanks (Cmd (Check Blanks) ∷ Cmd (Check Pairs) ∷ Take ∷ Take ∷ GiveBack 1 ∷ [])) ≡ 2
kept = refl

kept-closed : owed checked ≡ 0
kept-closed = refl
