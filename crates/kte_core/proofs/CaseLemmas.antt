-- What comes of a request, case by case: the jobs, the close, the locks of jobs, and the trail.
use Rattle.std.proofs.Common.{◌≡◌, ℕ, ◌+◌, ◌≤◌, false, List, [], ◌++◌, length, length-append, take, Option, Some, None, refl, ap, sym, ◌∙◌, arith, append-nil, append_assoc}
use Rattle.std.specs.Option.{option_to_list}
use Rattle.std.proofs.lemmas.Bool.{cond_both}
use Rattle.kte_place.specs.Ends.{Ends}
use Rattle.kte_text.specs.declared.primitive.Primitive.{Primitive}
use Rattle.kte_edit.specs.Steps.{steps_of}
use Rattle.kte_undo.specs.Steps.{steps_along, redo_of}
use Rattle.kte_undo.specs.Groups.{Edits, gone_back, gone_forth}
use Rattle.kte_jobs.specs.Jobs.{least_waiting}
use Rattle.kte_command.specs.declared.command.Command.{Command}
use Rattle.kte_command.specs.declared.command.Command.TheVariants as command
use Rattle.kte_core.specs.Editing.{Editing, EditReaction, text_of, revision_of, judged, carried, not_open, change_refusal, group_refusal, changed, undone, redone, undo_steps, redo_steps, closing, noted_change, cut_reaction, change_reaction, begin_reaction, end_reaction, undo_reaction, redo_reaction}
use Rattle.kte_core.specs.State.{State, Reaction, refused, edited}
use Rattle.kte_core.specs.Jobs.{taken_at, take_job, deliver, give_back}
use Rattle.kte_core.specs.React.{react, react_by, react_command, react_cut, close, cut_at}
use Rattle.kte_core.specs.Requests.{ranges_of}
use Rattle.kte_core.specs.Replay.{came_of, after_event, primitives_in}
use Rattle.kte_core.specs.JobsInWords.{Leaves, JobChange, Grows}
use Rattle.kte_core.specs.JobsInWords.JobChange.{stays, closes, posts, takes, finishes, returns}
use Rattle.kte_core.specs.declared.event.Event.{Event}
use Rattle.kte_core.specs.declared.reply.Reply.{Reply}
use Rattle.kte_core.specs.declared.reply.Reply.TheVariants as reply
use Rattle.kte_core.specs.declared.reply.Refusal.{Refusal}
use Rattle.kte_core.specs.declared.reply.Refusal.TheVariants.{Closed}
use Rattle.kte_core.specs.declared.request.Request.{Request}
use Rattle.kte_core.specs.declared.request.Request.TheVariants.{Cmd, Close, Take, Deliver, GiveBack, Outcome}
use Rattle.kte_core.proofs.TransactionLemmas.{depth-ended, depth-noted, IsStill, still, Moves, finished_and_open}

-- ---- what comes of a request

leaves-edited : (state : State) (edit : EditReaction) → Leaves state (edited state edit)
leaves-edited state edit = record { jobs = refl; closed = refl; locks = λ job revision. refl }

leaves-refused : (state : State) (cause : Refusal) → Leaves state (refused state cause)
leaves-refused state cause = record { jobs = refl; closed = refl; locks = λ job revision. refl }

leaves-still : (state : State) (came : Reaction) → IsStill state came → Leaves state came
leaves-still state came still = record { jobs = still.jobs; closed = still.closed; locks = still.locks }

changes-command : (state : State) (seat : ℕ) (command : Command) → state.closed ≡ false
    → JobChange state seat (Cmd command) (react_command state command)
changes-command state seat (command.Edit change) open_now = stays (leaves-edited state (change_reaction state.editing change))
changes-command state seat command.Begin open_now = stays (leaves-edited state (begin_reaction state.editing))
changes-command state seat command.End open_now = stays (leaves-edited state (end_reaction state.editing))
changes-command state seat command.Undo open_now = stays (leaves-edited state (undo_reaction state.editing))
changes-command state seat command.Redo open_now = stays (leaves-edited state (redo_reaction state.editing))
changes-command state seat (command.Check rule) open_now = posts rule refl open_now refl
changes-command state seat command open_now = stays (leaves-still state _ (still state command tt))

changes-take : (state : State) (seat : ℕ) (o : Option ℕ) → least_waiting state.jobs ≡ o → JobChange state seat Take (take_job state seat o)
changes-take state seat None is = stays (leaves-refused state _)
changes-take state seat (Some job) is = takes job refl is refl

changes-deliver : (state : State) (seat job : ℕ) (findings : List Ends) (o : Option ℕ) → taken_at state.jobs seat job ≡ o
    → JobChange state seat (Deliver job findings) (deliver state job findings o)
changes-deliver state seat job findings None is = stays (leaves-refused state _)
changes-deliver state seat job findings (Some revision) is = finishes job revision findings refl is refl

changes-return : (state : State) (seat job : ℕ) (o : Option ℕ) → taken_at state.jobs seat job ≡ o
    → JobChange state seat (GiveBack job) (give_back state job o)
changes-return state seat job None is = stays (leaves-refused state _)
changes-return state seat job (Some revision) is = returns job revision refl is refl

changes-react : (state : State) (seat : ℕ) (request : Request) → JobChange state seat request (react state seat request)
changes-react state seat (Cmd command) =
    cond_both state.closed (refused state Closed) (react_command state command) (JobChange state seat (Cmd command))
    (λ shut. stays (leaves-refused state _)) (λ open_now. changes-command state seat command open_now)
changes-react state seat Close =
    cond_both state.closed (refused state Closed) (close state) (JobChange state seat Close)
    (λ shut. stays (leaves-refused state _)) (λ open_now. closes refl open_now refl)
changes-react state seat Take = changes-take state seat (least_waiting state.jobs) refl
changes-react state seat (Deliver job findings) = changes-deliver state seat job findings (taken_at state.jobs seat job) refl
changes-react state seat (GiveBack job) = changes-return state seat job (taken_at state.jobs seat job) refl
changes-react state seat (Outcome call ok) = stays (record { jobs = refl; closed = refl; locks = λ job another. refl })

leaves-cut : (state : State) (seat : ℕ) (request : Request) (n : ℕ) → Leaves state (react_cut state seat request n)
leaves-cut state seat (Cmd command) n = leaves-edited state (cut_reaction state.editing command n)
leaves-cut state seat _ n = leaves-edited state (carried reply.Cut state.editing [] state.editing.edits)

-- what comes of a request is one of the six changes
pub changes : (state : State) (seat : ℕ) (request : Request) (o : Option ℕ) → JobChange state seat request (react_by state seat request o)
changes state seat request None = changes-react state seat request
changes state seat request (Some n) = stays (leaves-cut state seat request n)

-- .. and so is what comes of an event
pub event_changes : (state : State) (event : Event) → JobChange state event.seat event.request (came_of state event)
event_changes state event = changes state event.seat event.request (cut_at event.reply)

-- ---- the trail

grows-refused : (state : State) (request : Request) (cause : Refusal) → Grows state request (refused state cause)
grows-refused state request cause = record { loaded = refl; limit = refl; trail = sym (append-nil _); depth = omega arith; next_id = omega arith }

-- .. by what is made of what is edited
record Makes (editing : Editing) (edit : EditReaction) : Type 0 where
  loaded : edit.after.loaded ≡ editing.loaded
  limit : edit.after.limit ≡ editing.limit
  trail : edit.after.trail ≡ editing.trail ++ edit.made
  depth : edit.after.edits.depth ≤ editing.edits.depth + 1

makes-judged : (judgement : Option Refusal) (editing : Editing) (edit : EditReaction) → Makes editing edit
    → Makes editing (judged judgement editing edit)
makes-judged None editing edit makes = makes
makes-judged (Some cause) editing edit makes = record { loaded = refl; limit = refl; trail = sym (append-nil _); depth = omega arith }

makes-carried : (told : ℕ → ℕ → ℕ → Reply) (editing : Editing) (ps : List Primitive) (edits : Edits) → edits.depth ≤ editing.edits.depth + 1
    → Makes editing (carried told editing ps edits)
makes-carried told editing ps edits depth = record { loaded = refl; limit = refl; trail = refl; depth = depth }

makes-changed : (told : ℕ → ℕ → ℕ → Reply) (editing : Editing) (ps : List Primitive) → Makes editing (changed told editing ps)
makes-changed told editing ps =
    makes-carried told editing ps (noted_change (steps_along ps (text_of editing)) editing.edits)
    (omega (arith, depth-noted (steps_along ps (text_of editing)) editing.edits))

makes-undone : (told : ℕ → ℕ → ℕ → Reply) (editing : Editing) (ps : List Primitive) → Makes editing (undone told editing ps)
makes-undone told editing ps = makes-carried told editing ps (gone_back (length ps) editing.edits) (omega arith)

makes-redone : (told : ℕ → ℕ → ℕ → Reply) (editing : Editing) (ps : List Primitive) → Makes editing (redone told editing ps)
makes-redone told editing ps = makes-carried told editing ps (gone_forth (length ps) editing.edits) (omega arith)

makes-cut : (editing : Editing) (command : Command) (n : ℕ) → Makes editing (cut_reaction editing command n)
makes-cut editing (command.Edit change) n = makes-changed reply.Cut editing (take n (steps_of change (text_of editing)))
makes-cut editing command.Undo n = makes-undone reply.Cut editing (take n (undo_steps editing))
makes-cut editing command.Redo n = makes-redone reply.Cut editing (take n (redo_steps editing))
makes-cut editing _ n = makes-carried reply.Cut editing [] editing.edits (omega arith)

grows-edited : (state : State) (request : Request) (edit : EditReaction) → Makes state.editing edit → Grows state request (edited state edit)
grows-edited state request edit makes =
    record { loaded = makes.loaded; limit = makes.limit; trail = makes.trail; depth = makes.depth; next_id = omega arith }

-- a reaction that edits nothing
grows-still : (state : State) (request : Request) (came : Reaction) → came.after.editing ≡ state.editing → came.made ≡ []
    → came.after.next_id ≤ state.next_id + ranges_of request → Grows state request came
grows-still state request came same none id = record {
  loaded = ap (λ (e : Editing). e.loaded) same;
  limit = ap (λ (e : Editing). e.limit) same;
  trail = ap (λ (e : Editing). e.trail) same ∙ (sym (append-nil _) ∙ ap (λ ps. state.editing.trail ++ ps) (sym none));
  depth = omega (arith, ap (λ (e : Editing). e.edits.depth) same);
  next_id = id;
}

grows-command : (state : State) (command : Command) → Grows state (Cmd command) (react_command state command)
grows-command state (command.Edit change) =
    grows-edited state _ _ (makes-judged (change_refusal state.editing change) state.editing _
    (makes-changed reply.Edited state.editing (steps_of change (text_of state.editing))))
grows-command state command.Begin =
    grows-edited state _ (begin_reaction state.editing) (record { loaded = refl; limit = refl; trail = sym (append-nil _); depth = omega arith })
grows-command state command.End =
    grows-edited state _ _ (makes-judged (not_open state.editing.edits.depth) state.editing (closing state.editing)
    (record { loaded = refl; limit = refl; trail = sym (append-nil _); depth = omega (arith, depth-ended state.editing.edits) }))
grows-command state command.Undo =
    grows-edited state _ _ (makes-judged (group_refusal state.editing state.editing.edits.undo (undo_steps state.editing)) state.editing _
    (makes-undone reply.Edited state.editing (undo_steps state.editing)))
grows-command state command.Redo =
    grows-edited state _ _ (makes-judged (group_refusal state.editing state.editing.edits.redo (redo_steps state.editing)) state.editing _
    (makes-redone reply.Edited state.editing (redo_steps state.editing)))
grows-command state (command.Check rule) = grows-still state _ _ refl refl (omega arith)
grows-command state command =
    let plain = still state command tt in
    grows-still state _ _ plain.editing plain.made plain.next_id

grows-take : (state : State) (seat : ℕ) (o : Option ℕ) → Grows state Take (take_job state seat o)
grows-take state seat None = grows-refused state _ _
grows-take state seat (Some job) = grows-still state _ _ refl refl (omega arith)

grows-deliver : (state : State) (job : ℕ) (findings : List Ends) (o : Option ℕ) → Grows state (Deliver job findings) (deliver state job findings o)
grows-deliver state job findings None = grows-refused state _ _
grows-deliver state job findings (Some revision) = grows-still state _ _ refl refl (omega arith)

grows-return : (state : State) (job : ℕ) (o : Option ℕ) → Grows state (GiveBack job) (give_back state job o)
grows-return state job None = grows-refused state _ _
grows-return state job (Some revision) = grows-still state _ _ refl refl (omega arith)

grows-react : (state : State) (seat : ℕ) (request : Request) → Grows state request (react state seat request)
grows-react state seat (Cmd command) =
    cond_both state.closed (refused state Closed) (react_command state command) (Grows state (Cmd command))
    (λ shut. grows-refused state _ _) (λ open_now. grows-command state command)
grows-react state seat Close =
    cond_both state.closed (refused state Closed) (close state) (Grows state Close)
    (λ shut. grows-refused state _ _) (λ open_now. grows-still state _ _ refl refl (omega arith))
grows-react state seat Take = grows-take state seat (least_waiting state.jobs)
grows-react state seat (Deliver job findings) = grows-deliver state job findings (taken_at state.jobs seat job)
grows-react state seat (GiveBack job) = grows-return state job (taken_at state.jobs seat job)
grows-react state seat (Outcome call ok) = grows-still state _ _ refl refl (omega arith)

grows-cut : (state : State) (seat : ℕ) (request : Request) (n : ℕ) → Grows state request (react_cut state seat request n)
grows-cut state seat (Cmd command) n = grows-edited state _ _ (makes-cut state.editing command n)
grows-cut state seat request n =
    grows-edited state request _ (makes-carried reply.Cut state.editing [] state.editing.edits (omega arith))

-- after any request the trail is the old one and the primitives that were made
pub grows : (state : State) (seat : ℕ) (request : Request) (o : Option ℕ) → Grows state request (react_by state seat request o)
grows state seat request None = grows-react state seat request
grows state seat request (Some n) = grows-cut state seat request n

-- .. and so after any event
pub event_grows : (state : State) (event : Event) → Grows state event.request (came_of state event)
event_grows state event = grows state event.seat event.request (cut_at event.reply)

-- the primitives made before an event, and those that come of it
pub parted-on : (state : State) (event : Event) (done : List Primitive) → Moves state (came_of state event)
    → state.editing.trail ≡ done ++ redo_of state.editing.edits.current
    → (after_event state event).editing.trail
    ≡ (done ++ primitives_in (option_to_list (came_of state event).finished)) ++ redo_of (after_event state event).editing.edits.current
parted-on state event done moves is =
    let came = came_of state event in
    let more = primitives_in (option_to_list came.finished) in
    (event_grows state event).trail ∙ ap (λ (t : List Primitive). t ++ came.made) is
    ∙ append_assoc done (redo_of state.editing.edits.current) came.made
    ∙ ap (λ (t : List Primitive). done ++ t) (finished_and_open state came moves)
    ∙ sym (append_assoc done more (redo_of came.after.editing.edits.current))

-- the revision never falls
pub revision_grows : (state : State) (event : Event) → revision_of state.editing ≤ revision_of (after_event state event).editing
revision_grows state event = omega (arith, simp length-append at (ap length (event_grows state event).trail))
