-- What one more event makes of a replay.
use Rattle.std.proofs.Common.{◌≡◌, ℕ, ◌+◌, ◌-◌, ◌<◌, ◌≤◌, ◌^◌, false, List, [], ◌∷◌, ◌++◌, length, refl, ap, sym, subst, ◌∙◌, arith, append-nil, append_assoc}
use Rattle.std.specs.Option.{option_map, option_to_list}
use Rattle.std.specs.Ordering.{nat_cmp}
use Rattle.std.specs.FinMap.{get, empty, get-empty}
use Rattle.std.proofs.lemmas.List.Concat.{flat_map-append}
use Rattle.std.proofs.lemmas.List.Elements.{All-nil}
use Rattle.kte_text.specs.Primitives.{FitInTurn}
use Rattle.kte_text.specs.Texts.{IsText}
use Rattle.kte_text.specs.declared.primitive.Primitive.{Primitive}
use Rattle.kte_text.specs.declared.loading.Loaded.{Loaded}
use Rattle.kte_history.specs.declared.lock.Owner.TheVariants as owner
use Rattle.kte_history.specs.Locks.{has_lock}
use Rattle.kte_doc.specs.Documents.{Document, CameBy}
use Rattle.kte_doc.specs.Standings.{Standings}
use Rattle.kte_undo.specs.Steps.{redo_of}
use Rattle.kte_undo.specs.Groups.{Edits}
use Rattle.kte_text.specs.Saving.{bytes_of}
use Rattle.kte_core.specs.Editing.{saved_form, text_of}
use Rattle.kte_core.specs.Groups.{GroupsFit, IsFilled}
use Rattle.kte_core.specs.State.{State, Reaction}
use Rattle.kte_core.specs.React.{react, react_by, cut_at, CutsBetween}
use Rattle.kte_core.specs.Requests.{IsAllowed}
use Rattle.kte_core.specs.Replay.{Session, beginning, present, replay, came_of, after_event, transactions, primitives_in, IsAnswered, Answered}
use Rattle.kte_core.specs.Shown.{range_of, IsOf, AreFoldsOf, Answers, Reacts, Shows}
use Rattle.kte_core.specs.Jobs.{AreLocked, KeepsRevisions, taken_at}
use Rattle.kte_core.specs.Kept.{owed, kept_after}
use Rattle.kte_jobs.specs.Job.{Job}
use Rattle.kte_history.specs.declared.lock.Lock.{Lock}
use Rattle.kte_core.specs.Inside.{session_of, IsSound}
use Rattle.kte_core.specs.declared.session.Core.TheInside.{Inside}
use Rattle.kte_core.specs.declared.present.Present.{Present}
use Rattle.kte_core.specs.declared.event.Event.{Event}
use Rattle.kte_core.specs.declared.event.Step.{Step}
use Rattle.kte_core.specs.declared.reply.Reply.{Reply}
use Rattle.kte_core.proofs.FoldKeepLemmas.{folds-none}
use Rattle.kte_core.proofs.GroupLemmas.{Leads-none}
use Rattle.kte_core.proofs.CaseLemmas.{event_grows, parted-on}
use Rattle.kte_core.proofs.JournalLemmas.{replay-append, follows-replay, EachIn-one_more}
use Rattle.kte_core.proofs.KeptLemmas.{keeps-beginning, keeps-event}
use Rattle.kte_core.proofs.RisesLemmas.{owes, owed_within}
use Rattle.kte_core.proofs.TransactionLemmas.{Moves, moves-by}

-- one more event finishes one transaction at most
transactions-push : (state : State) (events : List Event) (event : Event)
    → transactions state (events ++ event ∷ []) ≡ transactions state events ++ option_to_list (came_of (replay state events) event).finished
transactions-push state [] event = append-nil (option_to_list (came_of state event).finished)
transactions-push state (first ∷ events) event =
    ap (λ (t : List (List Primitive)). option_to_list (came_of state first).finished ++ t) (transactions-push (after_event state first) events event)
    ∙ sym (append_assoc (option_to_list (came_of state first).finished) (transactions (after_event state first) events)
    (option_to_list (came_of (replay (after_event state first) events) event).finished))

-- a core without events is sound where its document is the loaded text
pub IsSound-new : (core : Inside) → core.journal.events ≡ [] → IsText core.loaded.text → CameBy core.loaded.text [] core.present.doc
    → core.present.doc.limit ≡ core.limit → core.present.doc.ranges ≡ empty → core.present.doc.next ≡ 1 → core.present.doc.locks ≡ []
    → core.present.undo.edits ≡ record { depth = 0; current = []; undo = []; redo = [] } → core.present.jobs ≡ []
    → core.present.folds.numbers ≡ [] → core.present.is_closed ≡ false → core.kept ≡ 1 → core.kept ≤ core.journal.room → IsSound core
IsSound-new core none whole came limit ranges next_id locks edits jobs folds closed kept room =
    let text = came.text in
    let start = Leads-none core.loaded.text whole in
    let fit : GroupsFit (record { depth = 0; current = []; undo = []; redo = [] }) core.loaded.text = record {
      oldest = core.loaded.text;
      opened = core.loaded.text;
      newest = core.loaded.text;
      undo = start;
      current = start;
      redo = start;
      undo_filled = All-nil IsFilled;
      redo_filled = All-nil IsFilled;
      shut = λ closed. refl;
    } in
    record {
      shows = rw none (record {
        document = record {
          came = came;
          limit = limit;
          ranges = λ id. ap (λ (ranges : Standings). option_map range_of (get ranges id)) ranges ∙ ap (option_map range_of) (get-empty nat_cmp id) ∙ sym (get-empty nat_cmp id);
          next_id = next_id;
          locks = locks;
        };
        edits = edits;
        jobs = jobs;
        folds = folds-none core.present.doc core.present.folds ranges folds;
        closed = closed;
      });
      fit = subst (λ (e : Edits). GroupsFit e core.present.doc.text) (sym edits) (subst (λ (t : List (List ℕ)). GroupsFit (record { depth = 0; current = []; undo = []; redo = [] }) t) (sym text) fit);
      locked = rw none (keeps-beginning core.loaded core.limit);
      kept = rw none kept;
      room = room;
      answered = rw none tt;
      parted = rw none refl;
    }

-- what came of an event with the reply of a step
came_is : (state : State) (event : Event) (step : Step) → event.reply ≡ step.reply
    → react_by state event.seat event.request (cut_at step.reply) ≡ came_of state event
came_is state event step reply = ap (λ (r : Reply). react_by state event.seat event.request (cut_at r)) (sym reply)

-- the primitives after one event more
parted-push : (start : State) (events : List Event) (event : Event)
    → (replay start events).editing.trail ≡ primitives_in (transactions start events) ++ redo_of (replay start events).editing.edits.current
    → Moves (replay start events) (came_of (replay start events) event)
    → (after_event (replay start events) event).editing.trail
    ≡ primitives_in (transactions start (events ++ event ∷ [])) ++ redo_of (after_event (replay start events) event).editing.edits.current
parted-push start events event was moves =
    let state = replay start events in
    let came = came_of state event in
    let all : primitives_in (transactions start (events ++ event ∷ []))
    ≡ primitives_in (transactions start events) ++ primitives_in (option_to_list came.finished) =
    ap primitives_in (transactions-push start events event)
    ∙ flat_map-append (λ (t : List Primitive). t) (transactions start events) (option_to_list came.finished) in
    parted-on state event (primitives_in (transactions start events)) moves was
    ∙ ap (λ (t : List Primitive). t ++ redo_of came.after.editing.edits.current) (sym all)

-- outside of a transaction no step is in the open group
shut_sound : (core : Inside) → IsSound core → (present (session_of core)).editing.edits.depth ≡ 0
    → (present (session_of core)).editing.edits.current ≡ []
shut_sound core sound shut =
    sym (ap (λ (e : Edits). e.current) sound.shows.edits) ∙ sound.fit.shut (ap (λ (e : Edits). e.depth) sound.shows.edits ∙ shut)

-- a core that is sound stays so by a step that answers a request, and its event
pub IsSound-step : (core later : Inside) (event : Event) (step : Step) → IsSound core → later.loaded ≡ core.loaded → later.limit ≡ core.limit
    → later.journal.events ≡ core.journal.events ++ event ∷ [] → IsAllowed event.seat event.request → event.reply ≡ step.reply
    → Answers (present (session_of core)) event.seat event.request step later.present
    → GroupsFit later.present.undo.edits later.present.doc.text → later.kept ≡ kept_after core.kept step.reply
    → later.kept ≤ later.journal.room → IsSound later
IsSound-step core later event step sound loaded limit journal allowed reply answers fit kept room =
    let first = beginning core.loaded core.limit in
    let state = present (session_of core) in
    let came = came_of state event in
    let is = came_is state event step reply in
    let start : beginning later.loaded later.limit ≡ first =
    ap (λ (l : Loaded). beginning l later.limit) loaded ∙ ap (beginning core.loaded) limit in
    let after : answers.after ≡ came.after = answers.reacts.leads ∙ ap (λ (r : Reaction). r.after) is in
    let now : present (session_of later) ≡ came.after =
    ap (λ (s : State). replay s later.journal.events) start ∙ ap (replay first) journal ∙ replay-append first core.journal.events (event ∷ []) in
    let shown : Shows came.after later.present = subst (λ (s : State). Shows s later.present) after answers.shows in
    let cut : CutsBetween (react state event.seat event.request).made (cut_at event.reply) =
    subst (λ (r : Reply). CutsBetween (react state event.seat event.request).made (cut_at r)) (sym reply) answers.reacts.cut in
    let replied : event.reply ≡ came.reply = reply ∙ answers.reacts.reply ∙ ap (λ (r : Reaction). r.reply) is in
    let turn : FitInTurn came.after.editing.trail state.editing.loaded.text =
    subst (λ (l : Loaded). FitInTurn came.after.editing.trail l.text) (event_grows state event).loaded shown.document.came.fits in
    let moves = moves-by state event.seat event.request (cut_at event.reply) (λ shut. ap redo_of (shut_sound core sound shut)) cut turn in
    let all_parted = parted-push first core.journal.events event sound.parted moves in
    record {
      shows = subst (λ (s : State). Shows s later.present) (sym now) shown;
      fit = fit;
      locked = subst KeepsRevisions (sym now) (keeps-event state event sound.locked);
      kept = kept ∙ ap (λ (n : ℕ). kept_after n step.reply) sound.kept
          ∙ ap (kept_after (owed state)) (answers.reacts.reply ∙ ap (λ (r : Reaction). r.reply) is)
          ∙ sym (owes state event.seat event.request (cut_at event.reply)) ∙ ap owed (sym now);
      room = room;
      answered = subst (λ (s : State). Answered s later.journal.events) (sym start) (subst (Answered first) (sym journal)
          (EachIn-one_more IsAnswered first core.journal.events event sound.answered (record { allowed = allowed; reply = replied; cut = cut })));
      parted = ap (λ (s : State). s.editing.trail) now ∙ all_parted
          ∙ ap (λ (events : List Event). primitives_in (transactions first events) ++ redo_of came.after.editing.edits.current) (sym journal)
          ∙ ap (λ (s : State). primitives_in (transactions s later.journal.events) ++ redo_of came.after.editing.edits.current) (sym start)
          ∙ ap (λ (s : State). primitives_in (transactions (beginning later.loaded later.limit) later.journal.events) ++ redo_of s.editing.edits.current) (sym now);
    }

-- a step leads to the state after its event
pub Reacts-push : (session later : Session) (event : Event) (step : Step) (after : State) → later.loaded ≡ session.loaded → later.limit ≡ session.limit
    → later.events ≡ session.events ++ event ∷ [] → event.reply ≡ step.reply → Reacts (present session) event.seat event.request step after
    → Reacts (present session) event.seat event.request step (present later)
Reacts-push session later event step after loaded limit events reply reacts =
    let state = present session in
    let first = beginning session.loaded session.limit in
    let start : beginning later.loaded later.limit ≡ first =
    ap (λ (l : Loaded). beginning l later.limit) loaded ∙ ap (beginning session.loaded) limit in
    let now : present later ≡ (came_of state event).after =
    ap (λ (s : State). replay s later.events) start ∙ ap (replay first) events ∙ replay-append first session.events (event ∷ []) in
    record {
      reply = reacts.reply;
      made = reacts.made;
      leads = now ∙ ap (λ (r : Reply). (react_by state event.seat event.request (cut_at r)).after) reply;
      cut = reacts.cut;
    }

-- what is locked for the jobs that are held
pub locked_sound : (core : Inside) → IsSound core → AreLocked core.present.jobs core.present.doc.locks
locked_sound core sound = λ job seat revision taken.
    let kept = sound.locked job seat revision (ap (λ (js : List Job). taken_at js seat job) (sym sound.shows.jobs) ∙ taken) in
    ap (λ (locks : List Lock). has_lock locks (owner.Job job) revision) sound.shows.document.locks ∙ kept.locked

-- a core that holds the same stays sound, with more room
pub IsSound-again : (core later : Inside) → IsSound core → later.loaded ≡ core.loaded → later.limit ≡ core.limit
    → later.present ≡ record core.present { undo = later.present.undo; folds = later.present.folds }
    → later.present.undo.edits ≡ core.present.undo.edits → AreFoldsOf later.present.doc later.present.folds
    → later.kept ≡ core.kept → later.journal.events ≡ core.journal.events → later.kept ≤ later.journal.room → IsSound later
IsSound-again core later sound loaded limit held edits folds kept events room =
    let first : beginning core.loaded core.limit ≡ beginning later.loaded later.limit =
    ap (λ (l : Loaded). beginning l core.limit) (sym loaded) ∙ ap (beginning later.loaded) (sym limit) in
    let now : present (session_of core) ≡ present (session_of later) =
    ap (λ (s : State). replay s core.journal.events) first ∙ ap (replay (beginning later.loaded later.limit)) (sym events) in
    let doc = ap (λ (p : Present). p.doc) held in
    record {
      shows = subst (λ (s : State). Shows s later.present) now (record {
        document = subst (λ (d : Document). IsOf (present (session_of core)) d) (sym doc) sound.shows.document;
        edits = edits ∙ sound.shows.edits;
        jobs = ap (λ (p : Present). p.jobs) held ∙ sound.shows.jobs;
        folds = folds;
        closed = ap (λ (p : Present). p.is_closed) held ∙ sound.shows.closed;
      });
      fit = subst (λ (e : Edits). GroupsFit e later.present.doc.text) (sym edits)
          (subst (λ (d : Document). GroupsFit core.present.undo.edits d.text) (sym doc) sound.fit);
      locked = subst KeepsRevisions now sound.locked;
      kept = kept ∙ sound.kept ∙ ap owed now;
      room = room;
      answered = subst (λ (s : State). Answered s later.journal.events) first
          (subst (λ (e : List Event). Answered (beginning core.loaded core.limit) e) (sym events) sound.answered);
      parted = ap (λ (s : State). s.editing.trail) (sym now) ∙ sound.parted
          ∙ ap (λ (e : List Event). primitives_in (transactions (beginning core.loaded core.limit) e)
          ++ redo_of (present (session_of core)).editing.edits.current) (sym events)
          ∙ ap (λ (s : State). primitives_in (transactions s later.journal.events) ++ redo_of (present (session_of core)).editing.edits.current) first
          ∙ ap (λ (s : State). primitives_in (transactions (beginning later.loaded later.limit) later.journal.events) ++ redo_of s.editing.edits.current) now;
    }

-- room is kept for few events
pub kept_small : (core : Inside) (session : Session) → IsSound core → session_of core ≡ session → length (present session).jobs < 2 ^ 32 - 1
    → core.kept < 2 ^ 32
kept_small core session sound same few =
    let within : owed (present (session_of core)) ≤ 1 + length (present (session_of core)).jobs = owed_within (present (session_of core)) in
    let jobs = ap (λ (s : Session). length (present s).jobs) same in
    let kept = sound.kept in
    omega arith

-- what is saved is what is held, with the line end and the mark of what was loaded
pub saved_sound : (core : Inside) (session : Session) → IsSound core → session_of core ≡ session
    → bytes_of core.present.doc.text core.loaded.eol core.loaded.bom ≡ saved_form (present session).editing
saved_sound core session sound same =
    let now = present (session_of core) in
    let loaded : now.editing.loaded ≡ core.loaded = (follows-replay (beginning core.loaded core.limit) core.journal.events).loaded in
    ap (λ (text : List (List ℕ)). bytes_of text core.loaded.eol core.loaded.bom) sound.shows.document.came.text
    ∙ ap (λ (l : Loaded). bytes_of (text_of now.editing) l.eol l.bom) (sym loaded)
    ∙ ap (λ (s : Session). saved_form (present s).editing) same

-- what was loaded stays, so a state knows its line end and its mark
pub loaded_sound : (core : Inside) (session : Session) → session_of core ≡ session → core.loaded ≡ (present session).editing.loaded
loaded_sound core session same =
    sym (follows-replay (beginning core.loaded core.limit) core.journal.events).loaded ∙ ap (λ (s : Session). (present s).editing.loaded) same
