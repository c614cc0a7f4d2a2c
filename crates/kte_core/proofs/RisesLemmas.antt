-- For how many events there must be room after one request.
use Rattle.std.proofs.Common.{◌≡◌, ℕ, ◌+◌, ◌-◌, ◌≤◌, Bool, true, false, not, List, [], ◌∷◌, ◌++◌, length, Option, Some, None, if◌then◌else◌, refl, ap, sym, ◌∙◌, arith}
use Rattle.std.specs.Prelude.{is_some}
use Rattle.std.proofs.lemmas.List.Sums.{sum_by_push}
use Rattle.kte_place.specs.Ends.{Ends}
use Rattle.kte_edit.specs.Steps.{steps_of}
use Rattle.kte_jobs.specs.declared.job.JobState.{JobState}
use Rattle.kte_jobs.specs.declared.job.JobState.TheVariants.{Waiting, Taken, Done}
use Rattle.kte_jobs.specs.Job.{Job, is_taken}
use Rattle.kte_jobs.specs.Jobs.{state_of, with_state, least_waiting}
use Rattle.kte_command.specs.declared.command.Command.{Command}
use Rattle.kte_command.specs.declared.command.Command.TheVariants.{Edit, Begin, End, Undo, Redo, Check}
use Rattle.kte_core.specs.Editing.{EditReaction, text_of, revision_of, judged, not_open, closing, changed, undone, redone, undo_steps, redo_steps, change_refusal, group_refusal, cut_reaction}
use Rattle.kte_core.specs.State.{State, Reaction, edited}
use Rattle.kte_core.specs.Jobs.{taken_at, take_job, deliver, give_back}
use Rattle.kte_core.specs.Kept.{owed, count_taken, kept_after, is_kept}
use Rattle.kte_core.specs.React.{react, react_by, react_command, unless_closed, close}
use Rattle.kte_core.specs.declared.reply.Reply.{Reply}
use Rattle.kte_core.specs.declared.reply.Reply.TheVariants as reply
use Rattle.kte_core.specs.declared.reply.Refusal.{Refusal}
use Rattle.kte_core.specs.declared.request.Request.{Request}
use Rattle.kte_core.specs.declared.request.Request.TheVariants.{Cmd, Close, Take, Deliver, GiveBack, Outcome}
use Rattle.kte_core.proofs.JobLemmas.{one_if, count-set, taken_in_all, count_within}
use Rattle.kte_core.proofs.OneJobLemmas.{taken_state, waiting_state}
use Rattle.kte_core.proofs.TransactionLemmas.{IsStill, still, unless, unless_then}

-- there must be room after a reaction for as many events as its reply says
abbrev pub Owes : State → Reaction → Type 0
Owes state reaction = owed reaction.after ≡ kept_after (owed state) reaction.reply

owes-judged : (judgement : Option Refusal) (state : State) (made : EditReaction) → ((kept : ℕ) → kept_after kept made.reply ≡ kept)
    → Owes state (edited state (judged judgement state.editing made))
owes-judged None state made plain = sym (plain (owed state))
owes-judged (Some cause) state made plain = refl

owes-still : (state : State) (reaction : Reaction) → IsStill state reaction → Owes state reaction
owes-still state reaction still =
    ap (λ (b : Bool). (if b then 0 else 1) + count_taken reaction.after.jobs) still.closed
    ∙ ap (λ (jobs : List Job). (if state.closed then 0 else 1) + count_taken jobs) still.jobs
    ∙ sym (still.kept (owed state))

-- a job that is posted waits
count-posted : (jobs : List Job) (job : Job) → is_taken job.state ≡ false → count_taken (jobs ++ job ∷ []) ≡ count_taken jobs
count-posted jobs job free =
    let value : Job → ℕ = λ job. if is_taken job.state then 1 else 0 in
    let one : value job ≡ 0 = ap (λ (b : Bool). if b then 1 else 0) free in
    omega (arith, taken_in_all (jobs ++ job ∷ []), taken_in_all jobs, sum_by_push value jobs job, one)

owes-react : (state : State) (command : Command) → Owes state (react_command state command)
owes-react state (Edit change) =
    owes-judged (change_refusal state.editing change) state (changed reply.Edited state.editing (steps_of change (text_of state.editing))) (λ kept. refl)
owes-react state Begin = refl
owes-react state End = owes-judged (not_open state.editing.edits.depth) state (closing state.editing) (λ kept. refl)
owes-react state Undo =
    owes-judged (group_refusal state.editing state.editing.edits.undo (undo_steps state.editing)) state
    (undone reply.Edited state.editing (undo_steps state.editing)) (λ kept. refl)
owes-react state Redo =
    owes-judged (group_refusal state.editing state.editing.edits.redo (redo_steps state.editing)) state
    (redone reply.Edited state.editing (redo_steps state.editing)) (λ kept. refl)
owes-react state (Check rule) =
    ap (λ (n : ℕ). (if state.closed then 0 else 1) + n) (count-posted state.jobs (record { rule = rule; state = Waiting }) refl)
owes-react state command = owes-still state _ (still state command tt)

-- .. also where memory runs out
owes-cut : (state : State) (command : Command) (n : ℕ) → Owes state (edited state (cut_reaction state.editing command n))
owes-cut state (Edit change) n = refl
owes-cut state Undo n = refl
owes-cut state Redo n = refl
owes-cut state _ n = refl

-- the session is closed: no room is to be kept for that any more
owes-close : (state : State) → Owes state (unless_closed state (close state))
owes-close state =
    unless_then (Owes state) state (close state) refl (λ not_closed.
    let before : owed state ≡ 1 + count_taken state.jobs = ap (λ (b : Bool). (if b then 0 else 1) + count_taken state.jobs) not_closed in
    omega arith)

-- how many jobs are taken after one of them has another state
count-changed : (jobs : List Job) (number : ℕ) (old new : JobState) → state_of jobs number ≡ Some old
    → count_taken (with_state jobs number new) + one_if is_taken old ≡ count_taken jobs + one_if is_taken new
count-changed jobs number old new is =
    omega (arith, count-set is_taken jobs number old new is, taken_in_all jobs, taken_in_all (with_state jobs number new))

owes-take : (state : State) (seat : ℕ) (waiting : Option ℕ) → least_waiting state.jobs ≡ waiting → Owes state (take_job state seat waiting)
owes-take state seat None is = refl
owes-take state seat (Some job) is =
    let count = count-changed state.jobs job Waiting (Taken seat (revision_of state.editing)) (waiting_state state.jobs job is) in
    omega arith

owes-deliver : (state : State) (seat job : ℕ) (findings : List Ends) (taken : Option ℕ) → taken_at state.jobs seat job ≡ taken
    → Owes state (deliver state job findings taken)
owes-deliver state seat job findings None is = refl
owes-deliver state seat job findings (Some revision) is =
    let count = count-changed state.jobs job (Taken seat revision) Done (taken_state state.jobs seat job revision is) in
    omega arith

owes-give_back : (state : State) (seat job : ℕ) (taken : Option ℕ) → taken_at state.jobs seat job ≡ taken → Owes state (give_back state job taken)
owes-give_back state seat job None is = refl
owes-give_back state seat job (Some revision) is =
    let count = count-changed state.jobs job (Taken seat revision) Waiting (taken_state state.jobs seat job revision is) in
    omega arith

pub owes : (state : State) (seat : ℕ) (request : Request) (o : Option ℕ) → Owes state (react_by state seat request o)
owes state seat (Cmd command) None = unless (Owes state) state (react_command state command) refl (owes-react state command)
owes state seat Close None = owes-close state
owes state seat Take None = owes-take state seat (least_waiting state.jobs) refl
owes state seat (Deliver job findings) None = owes-deliver state seat job findings (taken_at state.jobs seat job) refl
owes state seat (GiveBack job) None = owes-give_back state seat job (taken_at state.jobs seat job) refl
owes state seat (Outcome call ok) None = refl
owes state seat (Cmd command) (Some n) = owes-cut state command n
owes state seat request (Some n) = refl

-- room that is kept for an event is there, and its reply gives it up
pub record GivesUp (kept : ℕ) (reply : Reply) : Type 0 where
  pub some : 1 ≤ kept
  pub less : kept_after kept reply ≡ kept - 1

gives_up_close : (state : State) (b : Bool) → state.closed ≡ b → not b ≡ true → GivesUp (owed state) (unless_closed state (close state)).reply
gives_up_close state true is open_now = absurd (cc)
gives_up_close state false is open_now = rw is (record { some = omega arith; less = refl })

gives_up_job : (state : State) (seat job : ℕ) (taken : Option ℕ) → taken_at state.jobs seat job ≡ taken → is_some taken ≡ true
    → GivesUp (owed state) (give_back state job taken).reply
gives_up_job state seat job None is some = absurd (cc)
gives_up_job state seat job (Some revision) is some =
    let count = count-changed state.jobs job (Taken seat revision) Waiting (taken_state state.jobs seat job revision is) in
    record { some = omega arith; less = refl }

pub gives_up : (state : State) (seat : ℕ) (request : Request) → is_kept state.closed state.jobs seat request ≡ true
    → GivesUp (owed state) (react state seat request).reply
gives_up state seat (Cmd command) is = absurd (cc)
gives_up state seat Close is = gives_up_close state state.closed refl is
gives_up state seat Take is = absurd (cc)
gives_up state seat (Deliver job findings) is = absurd (cc)
gives_up state seat (GiveBack job) is = gives_up_job state seat job (taken_at state.jobs seat job) refl is
gives_up state seat (Outcome call ok) is = absurd (cc)

-- a reply asks for room for one event more at most
pub kept_within : (kept : ℕ) (reply : Reply) → kept_after kept reply ≤ kept + 1
kept_within kept (reply.Edited steps revision depth) = omega arith
kept_within kept (reply.Cut steps revision depth) = omega arith
kept_within kept (reply.Depth depth) = omega arith
kept_within kept (reply.Range id span) = omega arith
kept_within kept (reply.Dropped id) = omega arith
kept_within kept (reply.Locked revision) = omega arith
kept_within kept (reply.Unlocked revision) = omega arith
kept_within kept (reply.Landed span) = omega arith
kept_within kept (reply.Found spans) = omega arith
kept_within kept (reply.Posted job) = omega arith
kept_within kept reply.Asked = omega arith
kept_within kept (reply.Took job revision) = omega arith
kept_within kept (reply.Delivered job first count) = omega arith
kept_within kept (reply.Returned job) = omega arith
kept_within kept reply.Noted = omega arith
kept_within kept reply.Closed = omega arith
kept_within kept (reply.Refused refusal) = omega arith

-- no more is owed than there are jobs, and one
closed_owes : (b : Bool) (n : ℕ) → (if b then 0 else 1) + n ≤ 1 + n
closed_owes true n = omega arith
closed_owes false n = omega arith

pub owed_within : (state : State) → owed state ≤ 1 + length state.jobs
owed_within state = omega (arith, closed_owes state.closed (count_taken state.jobs), count_within state.jobs)
