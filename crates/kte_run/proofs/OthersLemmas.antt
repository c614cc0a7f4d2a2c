-- Events of other seats than the editor's: they leave what is edited, what is due and was asked for,
-- and whether the swap file is lost.
use Rattle.std.proofs.Common.{◌≡◌, ◌≢◌, ℕ, List, [], ◌∷◌, ◌++◌, append-nil, Bool, false, Option, Some, None, inl, inr, refl, ap, sym, subst, ◌∙◌, if◌then◌else◌, eq-eqb, ne_eqb, cond}
use Rattle.std.specs.List.{AllByRecursion, cons_option}
use Rattle.std.proofs.lemmas.Bool.{cases_eq}
use Rattle.std.proofs.lemmas.List.Elements.{All-head, All-tail}
use Rattle.kte_place.specs.Ends.{Ends}
use Rattle.kte_turn.specs.Known.{events_of}
use Rattle.kte_undo.specs.Steps.{redo_of}
use Rattle.kte_jobs.specs.Jobs.{least_waiting}
use Rattle.kte_core.specs.Editing.{Editing}
use Rattle.kte_core.specs.State.{State, Reaction}
use Rattle.kte_core.specs.React.{CutsBetween, cut_at, react}
use Rattle.kte_core.specs.Requests.{IsAllowed}
use Rattle.kte_core.specs.Jobs.{deliver, give_back, take_job, taken_at}
use Rattle.kte_core.specs.Replay.{IsAnswered, IsLegal, Legal, after_event, came_of, replay}
use Rattle.kte_core.specs.declared.event.Event.{Event}
use Rattle.kte_core.specs.declared.request.Request.{Request}
use Rattle.kte_core.specs.declared.request.Request.TheVariants.{Cmd, Close, Take, Deliver, GiveBack, Outcome}
use Rattle.kte_core.proofs.JournalLemmas.{EachIn-back, replay-append}
use Rattle.kte_core.proofs.TakeLemmas.{deliver_came, return_came, take_came}
use Rattle.kte_core.proofs.TransactionLemmas.{IsCommand, no_cut}
use Rattle.kte_command.specs.declared.command.Command.{Command}
use Rattle.kte_desk.specs.Schedule.{Due, InTurn, IsSettled, asked_in, due_after, due_of, if_asked, lost_after, lost_by, nothing}
use Rattle.kte_run.specs.Editor.{IsAt, Part, left}
use Rattle.kte_run.specs.Alone.{Asking, EachDue, due_left}
use Rattle.kte_desk.specs.Seen.{seat_of}
use Rattle.kte_desk.proofs.HistoryLemmas.{asked_in-append}
use Rattle.kte_run.proofs.ApartLemmas.{IsApart, TellsNothing}
use Rattle.kte_run.proofs.OwnLemmas.{NoneOf, events_of-others}

-- ---- one event

due-other : (state : State) (due : Due) (event : Event) → event.seat ≢ 0 → due_after state due event ≡ due
due-other state due event other =
    ap (λ b. if b then due_of event.request (came_of state event).finished event.reply else due) (ne_eqb event.seat 0 other)

lost-other : (lost : Bool) (seat : ℕ) (request : Request) → IsAllowed seat request → seat ≢ 0 → lost_by lost request ≡ lost
lost-other lost seat (Cmd command) allowed other = refl
lost-other lost seat Close allowed other = refl
lost-other lost seat Take allowed other = refl
lost-other lost seat (Deliver job findings) allowed other = refl
lost-other lost seat (GiveBack job) allowed other = refl
lost-other lost seat (Outcome call ok) allowed other = absurd (other allowed)

asked-other : (seat : ℕ) (request : Request) → IsAllowed seat request → seat ≢ 0 → if_asked request ≡ None
asked-other seat (Cmd command) allowed other = absurd (other allowed.0)
asked-other seat Close allowed other = absurd (other allowed)
asked-other seat Take allowed other = refl
asked-other seat (Deliver job findings) allowed other = refl
asked-other seat (GiveBack job) allowed other = refl
asked-other seat (Outcome call ok) allowed other = refl

-- they take, deliver and give back jobs, which tells of no call outside, and memory does not run out
apart-request : (seat : ℕ) (request : Request) → IsAllowed seat request → seat ≢ 0 → IsApart request
apart-request seat (Cmd command) allowed other = absurd (other allowed.0)
apart-request seat Close allowed other = absurd (other allowed)
apart-request seat Take allowed other = tt
apart-request seat (Deliver job findings) allowed other = tt
apart-request seat (GiveBack job) allowed other = tt
apart-request seat (Outcome call ok) allowed other = absurd (other allowed)

no-command : (request : Request) → IsApart request → IsCommand request → ⊥
no-command (Cmd command) apart is = apart
no-command Close apart is = is
no-command Take apart is = is
no-command (Deliver job findings) apart is = is
no-command (GiveBack job) apart is = is
no-command (Outcome call ok) apart is = is

uncut-by : (state : State) (seat : ℕ) (request : Request) (at : Option ℕ) → (IsCommand request → ⊥)
    → CutsBetween (react state seat request).made at → at ≡ None
uncut-by state seat request None none cut = refl
uncut-by state seat request (Some n) none cut = absurd (no_cut state seat request n none cut.1)

apart-other : (state : State) (event : Event) → IsAnswered state event → event.seat ≢ 0 → TellsNothing event
apart-other state event answered other =
    let apart = apart-request event.seat event.request answered.allowed other in
    (apart, uncut-by state event.seat event.request (cut_at event.reply) (no-command event.request apart) answered.cut)

-- what is edited, and whether the session is closed, are the same
pub record Keeps (before after : State) : Type 0 where
  pub editing : after.editing ≡ before.editing
  pub closed : after.closed ≡ before.closed

keeps-take : (state : State) (seat : ℕ) (o : Option ℕ) → Keeps state (take_job state seat o).after
keeps-take state seat None = record { editing = refl; closed = refl }
keeps-take state seat (Some job) = record { editing = refl; closed = refl }

keeps-deliver : (state : State) (job : ℕ) (findings : List Ends) (o : Option ℕ) → Keeps state (deliver state job findings o).after
keeps-deliver state job findings None = record { editing = refl; closed = refl }
keeps-deliver state job findings (Some revision) = record { editing = refl; closed = refl }

keeps-return : (state : State) (job : ℕ) (o : Option ℕ) → Keeps state (give_back state job o).after
keeps-return state job None = record { editing = refl; closed = refl }
keeps-return state job (Some revision) = record { editing = refl; closed = refl }

keeps-other : (state : State) (event : Event) → IsAnswered state event → event.seat ≢ 0 → Keeps state (after_event state event)
keeps-other state event answered other = by event.request refl where
  allowed : (request : Request) → event.request ≡ request → IsAllowed event.seat request
  allowed request asked = subst (IsAllowed event.seat) asked answered.allowed

  came : (reaction : Reaction) → came_of state event ≡ reaction → Keeps state reaction.after → Keeps state (after_event state event)
  came reaction is = subst (λ (c : Reaction). Keeps state c.after) (sym is)

  by : (request : Request) → event.request ≡ request → Keeps state (after_event state event)
  by (Cmd command) asked = absurd (other (allowed (Cmd command) asked).0)
  by Close asked = absurd (other (allowed Close asked))
  by Take asked =
      came (take_job state event.seat (least_waiting state.jobs)) (take_came state event answered asked)
      (keeps-take state event.seat (least_waiting state.jobs))
  by (Deliver job findings) asked =
      came (deliver state job findings (taken_at state.jobs event.seat job)) (deliver_came state event job findings answered asked)
      (keeps-deliver state job findings (taken_at state.jobs event.seat job))
  by (GiveBack job) asked =
      came (give_back state job (taken_at state.jobs event.seat job)) (return_came state event job answered asked)
      (keeps-return state job (taken_at state.jobs event.seat job))
  by (Outcome call ok) asked = absurd (other (allowed (Outcome call ok) asked))

-- ---- many events

pub apart-others : (state : State) (events : List Event) → Legal state events → NoneOf 0 events → AllByRecursion TellsNothing events
apart-others state [] legal others = tt
apart-others state (event ∷ events) legal others =
    let P : Event → Type 0 = λ e. e.seat ≢ 0 in (
      apart-other state event legal.0.answered (All-head P event events others),
      apart-others (after_event state event) events legal.1 (All-tail P event events others),
    )

pub keeps-others : (state : State) (events : List Event) → Legal state events → NoneOf 0 events → Keeps state (replay state events)
keeps-others state [] legal others = record { editing = refl; closed = refl }
keeps-others state (event ∷ events) legal others =
    let P : Event → Type 0 = λ e. e.seat ≢ 0 in
    let now = keeps-other state event legal.0.answered (All-head P event events others) in
    let later = keeps-others (after_event state event) events legal.1 (All-tail P event events others) in
    record { editing = later.editing ∙ now.editing; closed = later.closed ∙ now.closed }

due_left-others : (state : State) (due : Due) (events : List Event) → NoneOf 0 events → due_left state due events ≡ due
due_left-others state due [] others = refl
due_left-others state due (event ∷ events) others =
    let P : Event → Type 0 = λ e. e.seat ≢ 0 in
    ap (λ d. due_left (after_event state event) d events) (due-other state due event (All-head P event events others))
    ∙ due_left-others (after_event state event) due events (All-tail P event events others)

lost_after-others : (state : State) (lost : Bool) (events : List Event) → Legal state events → NoneOf 0 events → lost_after lost events ≡ lost
lost_after-others state lost [] legal others = refl
lost_after-others state lost (event ∷ events) legal others =
    let P : Event → Type 0 = λ e. e.seat ≢ 0 in
    ap (λ b. lost_after b events) (lost-other lost event.seat event.request legal.0.answered.allowed (All-head P event events others))
    ∙ lost_after-others (after_event state event) lost events legal.1 (All-tail P event events others)

EachDue-others : (state : State) (lost : Bool) (due : Due) (events : List Event) → NoneOf 0 events → EachDue state lost due events
EachDue-others state lost due [] others = tt
EachDue-others state lost due (event ∷ events) others =
    let P : Event → Type 0 = λ e. e.seat ≢ 0 in (
      λ same. absurd (All-head P event events others same),
      EachDue-others (after_event state event) (lost_by lost event.request) (due_after state due event) events (All-tail P event events others),
    )

-- where nothing is left to be told or delivered, nothing is after them
pub InTurn-others : (state : State) (lost : Bool) (due : Due) (events : List Event) → NoneOf 0 events → IsSettled due
    → InTurn state lost due events
InTurn-others state lost due [] others settled = settled
InTurn-others state lost due (event ∷ events) others settled =
    let P : Event → Type 0 = λ e. e.seat ≢ 0 in
    let other = All-head P event events others in (
      λ same. absurd (other same),
      InTurn-others (after_event state event) (lost_by lost event.request) (due_after state due event) events (All-tail P event events others)
          (subst IsSettled (sym (due-other state due event other)) settled),
    )

-- only the editor asks for commands and for the close
pub asked_in-editor : (state : State) (events : List Event) → Legal state events → asked_in events ≡ asked_in (events_of seat_of 0 events)
asked_in-editor state [] legal = refl
asked_in-editor state (event ∷ events) legal =
    let own = events_of seat_of 0 events in
    let rest = asked_in-editor (after_event state event) events legal.1 in
    elim (cases_eq event.seat 0) [
      | inl same ↦
          ap (cons_option (if_asked event.request)) rest
          ∙ ap (λ b. asked_in (cond b (event ∷ own) own)) (sym (eq-eqb event.seat 0 same))
      | inr other ↦
          ap (λ o. cons_option o (asked_in events)) (asked-other event.seat event.request legal.0.answered.allowed other)
          ∙ (rest ∙ ap (λ b. asked_in (cond b (event ∷ own) own)) (sym (ne_eqb event.seat 0 other)))
    ]

-- ---- after events that the editor has seen

EachDue-append : (state : State) (lost : Bool) (due : Due) (events more : List Event) → EachDue state lost due events
    → EachDue (replay state events) (lost_after lost events) (due_left state due events) more → EachDue state lost due (events ++ more)
EachDue-append state lost due [] more each later = later
EachDue-append state lost due (event ∷ events) more each later =
    (each.0, EachDue-append (after_event state event) (lost_by lost event.request) (due_after state due event) events more each.1 later)

due_left-append : (state : State) (due : Due) (events more : List Event)
    → due_left state due (events ++ more) ≡ due_left (replay state events) (due_left state due events) more
due_left-append state due [] more = refl
due_left-append state due (event ∷ events) more = due_left-append (after_event state event) (due_after state due event) events more

lost_after-append : (lost : Bool) (events more : List Event) → lost_after lost (events ++ more) ≡ lost_after (lost_after lost events) more
lost_after-append lost [] more = refl
lost_after-append lost (event ∷ events) more = lost_after-append (lost_by lost event.request) events more

-- after more events of other seats too, the requests were made so far, and the same are left
pub Asking-others : (commands : List Command) (first : State) (part : Part) (seen more : List Event) → Legal first (seen ++ more)
    → NoneOf 0 more → Asking commands first (replay first seen) seen part
    → Asking commands first (replay first (seen ++ more)) (seen ++ more) part
Asking-others commands first part seen more legal others asking =
    let due = due_left first nothing seen in
    let lost = lost_after false seen in
    let state = replay first seen in
    let later = EachIn-back IsLegal first seen more legal in
    let keeps = keeps-others state more later others in
    let still_due = due_left-append first nothing seen more ∙ due_left-others state due more others in
    let still_lost = lost_after-append false seen more ∙ lost_after-others state lost more later others in
    let none_asked : asked_in more ≡ [] = asked_in-editor state more later ∙ ap asked_in (events_of-others 0 more others) in
    let at = asking.at in
    let now : IsAt (replay state more) lost due part =
    record {
      depth = ap (λ (editing : Editing). editing.edits.depth) keeps.editing ∙ at.depth;
      closed = keeps.closed ∙ at.closed;
      current = ap (λ (editing : Editing). redo_of editing.edits.current) keeps.editing ∙ at.current;
      shut = at.shut;
      owed = at.owed;
      lost = at.lost;
    } in
    record {
      now_is = refl;
      each_due = EachDue-append first false nothing seen more asking.each_due (EachDue-others state lost due more others);
      ordered = ap (λ (requests : List Request). requests ++ left part)
          (asked_in-append seen more ∙ ap (λ (requests : List Request). asked_in seen ++ requests) none_asked ∙ append-nil (asked_in seen))
          ∙ asking.ordered;
      at = rw (replay-append first seen more, still_due, still_lost) now;
      shut = λ closed. still_due ∙ asking.shut closed;
    }
