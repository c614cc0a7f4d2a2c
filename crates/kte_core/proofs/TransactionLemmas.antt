-- What comes of requests that edit nothing, and what others make of the open transaction: it is
-- finished with the primitives made, or goes on with them.
use Rattle.std.proofs.Common.{◌≡◌, ◌≢◌, ℕ, ◌+◌, ◌-◌, ◌<◌, ◌≤◌, ◌==◌, Bool, true, false, List, [], ◌∷◌, ◌++◌, length, take, Option, None, Some, refl, ap, sym, ◌∙◌, if◌then◌else◌, inl, inr, arith, append-nil}
use Rattle.std.specs.Option.{option_to_list}
use Rattle.std.specs.Ordering.{nat_cmp}
use Rattle.std.specs.FinMap.{FinMap, get}
use Rattle.std.proofs.lemmas.Bool.{cases_Bool, eq-eqb, eqb-true, eqb-false, ne_eqb}
use Rattle.std.proofs.lemmas.List.{map-append}
use Rattle.kte_text.specs.Primitives.{FitInTurn, after, after_all}
use Rattle.kte_text.specs.declared.primitive.Primitive.{Primitive}
use Rattle.kte_place.specs.Ends.{Ends}
use Rattle.kte_place.specs.declared.span.Expand.{Expand}
use Rattle.kte_place.specs.declared.span.Empty.{Empty}
use Rattle.kte_history.specs.declared.lock.Lock.{Lock as OneLock}
use Rattle.kte_history.specs.declared.lock.Owner.TheVariants as owner
use Rattle.kte_history.specs.Locks.{has_lock}
use Rattle.kte_edit.specs.Steps.{steps_of}
use Rattle.kte_fold.specs.declared.refused.FoldRefused.{FoldRefused}
use Rattle.kte_search.specs.Found.{first_match, last_match, all_matches}
use Rattle.kte_undo.specs.Steps.{steps_along, redo_of, forth_of}
use Rattle.kte_undo.specs.Groups.{Edits, begun, closed, ended, gone_back, gone_forth}
use Rattle.kte_undo.specs.declared.step.Step.{Step}
use Rattle.kte_undo.proofs.InverseLemmas.{redoes}
use Rattle.kte_command.specs.declared.command.Command.{Command}
use Rattle.kte_command.specs.declared.command.Command.TheVariants.{Edit, Begin, End, Undo, Redo, MakeRange, SetRange, DropRange, ShowRange, Lock, Unlock, Land, Fold, Unfold, Find, FindBack, All, Check, Sync, Save}
use Rattle.kte_core.specs.Editing.{Editing, EditReaction, text_of, revision_of, judged, not_open, still_open, if_made, finished_at, noted_all, noted_change, carried, changed, undone, redone, undo_steps, redo_steps, change_refusal, group_refusal, closing, begin_reaction, cut_reaction}
use Rattle.kte_core.specs.State.{State, Range, Reaction, edited, replied, refused}
use Rattle.kte_core.specs.Folds.{only_fold, no_fold, fold_refusal}
use Rattle.kte_core.specs.Kept.{kept_after}
use Rattle.kte_core.specs.React.{react, react_by, react_command, cut_at, CutsBetween, set_range, drop_range, show_range, unlock, land, can_land_from, fold, drop_fold, told_found, ask_outside, unless_closed, close}
use Rattle.kte_core.specs.Jobs.{take_job, deliver, give_back, taken_at}
use Rattle.kte_jobs.specs.Jobs.{least_waiting}
use Rattle.kte_core.specs.Replay.{primitives_in}
use Rattle.kte_core.specs.declared.reply.Reply.{Reply}
use Rattle.kte_core.specs.declared.reply.Reply.TheVariants as reply
use Rattle.kte_core.specs.declared.reply.Refusal.{Refusal}
use Rattle.kte_core.specs.declared.reply.Refusal.TheVariants.{Closed}
use Rattle.kte_core.specs.declared.request.Request.{Request}
use Rattle.kte_core.specs.declared.request.Request.TheVariants.{Cmd, Close, Take, Deliver, GiveBack, Outcome}
use Rattle.kte_core.proofs.LockLemmas.{push_other, unlocked_editor}

-- A reaction that edits nothing
pub record IsQuiet (state : State) (reaction : Reaction) : Type 0 where
  pub editing : reaction.after.editing ≡ state.editing
  pub made : reaction.made ≡ []
  pub finished : reaction.finished ≡ None

-- .. nor changes jobs, their locks and the close: the number of the next range rises by one at most,
-- and the reply says neither that memory ran out nor that room is to be kept or given up
pub record IsStill (state : State) (reaction : Reaction) : Type 0 where
  pub editing : reaction.after.editing ≡ state.editing
  pub made : reaction.made ≡ []
  pub finished : reaction.finished ≡ None
  pub next_id : reaction.after.next_id ≤ state.next_id + 1
  pub uncut : cut_at reaction.reply ≡ None
  pub kept : (kept : ℕ) → kept_after kept reaction.reply ≡ kept
  pub jobs : reaction.after.jobs ≡ state.jobs
  pub closed : reaction.after.closed ≡ state.closed
  pub locks : (job revision : ℕ) → has_lock reaction.after.locks (owner.Job job) revision ≡ has_lock state.locks (owner.Job job) revision

quiet : (state : State) (reaction : Reaction) → IsStill state reaction → IsQuiet state reaction
quiet state reaction still = record { editing = still.editing; made = still.made; finished = still.finished }

-- the ranges and the locks of the editor may change
still-changed : (state : State) (told : Reply) (ranges : FinMap nat_cmp Range) (next : ℕ) (locks : List OneLock) → next ≤ state.next_id + 1
    → cut_at told ≡ None → ((kept : ℕ) → kept_after kept told ≡ kept)
    → ((job revision : ℕ) → has_lock locks (owner.Job job) revision ≡ has_lock state.locks (owner.Job job) revision)
    → IsStill state (record { reply = told; made = []; finished = None; after = record state { ranges = ranges; next_id = next; locks = locks } })
still-changed state told ranges next locks id uncut kept same = record {
  editing = refl;
  made = refl;
  finished = refl;
  next_id = id;
  uncut = uncut;
  kept = kept;
  jobs = refl;
  closed = refl;
  locks = same;
}

still-ranges : (state : State) (told : Reply) (ranges : FinMap nat_cmp Range) (next : ℕ) → next ≤ state.next_id + 1
    → cut_at told ≡ None → ((kept : ℕ) → kept_after kept told ≡ kept)
    → IsStill state (record { reply = told; made = []; finished = None; after = record state { ranges = ranges; next_id = next } })
still-ranges state told ranges next id uncut kept =
    still-changed state told ranges next state.locks id uncut kept (λ job revision. refl)

still-locks : (state : State) (told : Reply) (locks : List OneLock) → cut_at told ≡ None → ((kept : ℕ) → kept_after kept told ≡ kept)
    → ((job revision : ℕ) → has_lock locks (owner.Job job) revision ≡ has_lock state.locks (owner.Job job) revision)
    → IsStill state (record { reply = told; made = []; finished = None; after = record state { locks = locks } })
still-locks state told locks uncut kept same =
    still-changed state told state.ranges state.next_id locks (omega arith) uncut kept same

still-replied : (state : State) (told : Reply) → cut_at told ≡ None → ((kept : ℕ) → kept_after kept told ≡ kept) → IsStill state (replied state told)
still-replied state told uncut kept = still-ranges state told state.ranges state.next_id (omega arith) uncut kept

still-refused : (state : State) (cause : Refusal) → IsStill state (refused state cause)
still-refused state cause = still-replied state (reply.Refused cause) refl (λ kept. refl)

pub still-make : (state : State) (span : Ends) (expand : Expand) (empty : Empty) → IsStill state (react_command state (MakeRange span expand empty))
still-make state span expand empty = still-ranges state _ _ (state.next_id + 1) (omega arith) refl (λ kept. refl)

pub still-lock : (state : State) → IsStill state (react_command state Lock)
still-lock state =
    still-locks state _ _ refl (λ kept. refl)
    (λ job revision. push_other state.locks (record { owner = owner.Editor; revision = revision_of state.editing }) (owner.Job job) revision refl)

pub still-set : (state : State) (id : ℕ) (span : Ends) (found : Option Range) → IsStill state (set_range state id span found)
still-set state id span None = still-refused state _
still-set state id span (Some range) = still-ranges state _ _ state.next_id (omega arith) refl (λ kept. refl)

pub still-drop : (state : State) (id : ℕ) (found : Option Range) → IsStill state (drop_range state id found)
still-drop state id None = still-refused state _
still-drop state id (Some range) = still-ranges state _ _ state.next_id (omega arith) refl (λ kept. refl)

pub still-show : (state : State) (id : ℕ) (found : Option Range) → IsStill state (show_range state id found)
still-show state id None = still-refused state _
still-show state id (Some range) = still-replied state _ refl (λ kept. refl)

pub still-unlock : (state : State) (revision : ℕ) (owned : Bool) → IsStill state (unlock state revision owned)
still-unlock state revision true =
    still-locks state _ _ refl (λ kept. refl) (λ job another. unlocked_editor state.locks revision job another)
still-unlock state revision false = still-refused state _

pub still-land : (state : State) (revision : ℕ) (span : Ends) (expand : Expand) (empty : Empty) (may : Bool)
    → IsStill state (land state revision span expand empty may)
still-land state revision span expand empty true = still-replied state _ refl (λ kept. refl)
still-land state revision span expand empty false = still-refused state _

pub still-fold : (state : State) (span : Ends) (cause : Option FoldRefused) → IsStill state (fold state span cause)
still-fold state span None = still-ranges state _ _ (state.next_id + 1) (omega arith) refl (λ kept. refl)
still-fold state span (Some cause) = still-refused state _

pub still-drop_fold : (state : State) (id : ℕ) (found : Option Range) → IsStill state (drop_fold state id found)
still-drop_fold state id None = still-refused state _
still-drop_fold state id (Some range) = still-ranges state _ _ state.next_id (omega arith) refl (λ kept. refl)

pub still-found : (state : State) (found : List Ends) → IsStill state (replied state (told_found found))
still-found state [] = still-refused state _
still-found state (first ∷ others) = still-replied state _ refl (λ kept. refl)

pub still-outside : (state : State) (cause : Option Refusal) → IsStill state (ask_outside state cause)
still-outside state None = still-replied state _ refl (λ kept. refl)
still-outside state (Some refusal) = still-refused state refusal

-- the command neither edits nor posts a job
abbrev pub IsPlain : Command → Type 0
IsPlain (Edit change) = ⊥
IsPlain Begin = ⊥
IsPlain End = ⊥
IsPlain Undo = ⊥
IsPlain Redo = ⊥
IsPlain (Check rule) = ⊥
IsPlain _ = Unit {0}

-- what comes of all such commands
pub still : (state : State) (command : Command) → IsPlain command → IsStill state (react_command state command)
still state (MakeRange span expand empty) plain = still-make state span expand empty
still state (SetRange id span) plain = still-set state id span (no_fold (get state.ranges id))
still state (DropRange id) plain = still-drop state id (no_fold (get state.ranges id))
still state (ShowRange id) plain = still-show state id (no_fold (get state.ranges id))
still state Lock plain = still-lock state
still state (Unlock revision) plain = still-unlock state revision (has_lock state.locks owner.Editor revision)
still state (Land revision span expand empty) plain = still-land state revision span expand empty (can_land_from state revision)
still state (Fold span) plain = still-fold state span (fold_refusal state span)
still state (Unfold id) plain = still-drop_fold state id (only_fold (get state.ranges id))
still state (Find from query) plain = still-found state (option_to_list (first_match query (text_of state.editing) from))
still state (FindBack before query) plain = still-found state (option_to_list (last_match query (text_of state.editing) before))
still state (All query) plain = still-found state (all_matches query (text_of state.editing))
still state Sync plain = still-outside state (still_open state.editing.edits.depth)
still state Save plain = still-outside state (still_open state.editing.edits.depth)
still state _ plain = absurd plain

-- what holds of a refusal for a closed session, and of a reaction where it is not closed
if_then : (P : Reaction → Type 0) (b : Bool) (x y : Reaction) → P x → (b ≡ false → P y) → P (if b then x else y)
if_then P true x y first last = first
if_then P false x y first last = last refl

pub unless_then : (P : Reaction → Type 0) (state : State) (reaction : Reaction) → P (refused state Closed)
    → (state.closed ≡ false → P reaction) → P (unless_closed state reaction)
unless_then P state reaction closed still_open = if_then P state.closed (refused state Closed) reaction closed still_open

pub unless : (P : Reaction → Type 0) (state : State) (reaction : Reaction) → P (refused state Closed) → P reaction
    → P (unless_closed state reaction)
unless P state reaction closed still_open = unless_then P state reaction closed (λ not_closed. still_open)

-- the requests that are no commands
quiet-take : (state : State) (seat : ℕ) (waiting : Option ℕ) → IsQuiet state (take_job state seat waiting)
quiet-take state seat None = record { editing = refl; made = refl; finished = refl }
quiet-take state seat (Some job) = record { editing = refl; made = refl; finished = refl }

quiet-deliver : (state : State) (job : ℕ) (findings : List Ends) (taken : Option ℕ) → IsQuiet state (deliver state job findings taken)
quiet-deliver state job findings None = record { editing = refl; made = refl; finished = refl }
quiet-deliver state job findings (Some revision) = record { editing = refl; made = refl; finished = refl }

quiet-give_back : (state : State) (job : ℕ) (taken : Option ℕ) → IsQuiet state (give_back state job taken)
quiet-give_back state job None = record { editing = refl; made = refl; finished = refl }
quiet-give_back state job (Some revision) = record { editing = refl; made = refl; finished = refl }

quiet-close : (state : State) → IsQuiet state (unless_closed state (close state))
quiet-close state =
    unless (IsQuiet state) state (close state) (record { editing = refl; made = refl; finished = refl })
    (record { editing = refl; made = refl; finished = refl })

-- a request is a command, or edits nothing
abbrev pub IsCommand : Request → Type 0
IsCommand (Cmd command) = Unit {0}
IsCommand _ = ⊥

pub quiet_unless : (state : State) (seat : ℕ) (request : Request) → (IsCommand request → ⊥) → IsQuiet state (react state seat request)
quiet_unless state seat (Cmd command) none = absurd (none tt)
quiet_unless state seat Close none = quiet-close state
quiet_unless state seat Take none = quiet-take state seat (least_waiting state.jobs)
quiet_unless state seat (Deliver job findings) none = quiet-deliver state job findings (taken_at state.jobs seat job)
quiet_unless state seat (GiveBack job) none = quiet-give_back state job (taken_at state.jobs seat job)
quiet_unless state seat (Outcome call ok) none = record { editing = refl; made = refl; finished = refl }

-- the depth after each step of the groups
depth-closed : (steps : List Step) (edits : Edits) → (closed steps edits).depth ≡ edits.depth
depth-closed [] edits = refl
depth-closed (first ∷ steps) edits = refl

pub depth-ended : (edits : Edits) → (ended edits).depth ≡ edits.depth - 1
depth-ended edits =
    elim (cases_Bool (edits.depth == 1)) [
      | inl t ↦ rw t (depth-closed edits.current (record edits { depth = 0 }) ∙ omega (arith, eqb-true edits.depth 1 t))
      | inr f ↦ rw f refl
    ]

pub depth-noted : (steps : List Step) (edits : Edits) → (noted_change steps edits).depth ≡ edits.depth
depth-noted steps edits =
    elim (cases_Bool (edits.depth == 0)) [
      | inl t ↦ rw t (depth-ended (noted_all steps (begun edits)) ∙ omega arith)
      | inr f ↦ rw f refl
    ]

-- the later ones of primitives that fit in turn fit the text after the first ones
pub FitInTurn-later : (ps qs : List Primitive) (text : List (List ℕ)) → FitInTurn (ps ++ qs) text → FitInTurn qs (after_all ps text)
FitInTurn-later [] qs text fit = fit
FitInTurn-later (p ∷ ps) qs text (none, some, rest) = FitInTurn-later ps qs (after p text) rest

none-closed : (steps : List Step) (edits : Edits) → edits.current ≡ steps → (closed steps edits).current ≡ []
none-closed [] edits is = is
none-closed (first ∷ steps) edits is = refl

none-ended : (edits : Edits) → edits.depth ≡ 1 → (ended edits).current ≡ []
none-ended edits one =
    let t : (edits.depth == 1) ≡ true = eq-eqb edits.depth 1 one in
    rw t (none-closed edits.current (record edits { depth = 0 }) refl)

-- no transaction is open where an undo or a redo is not refused
pub shut_unless : (editing : Editing) (groups : List (List Step)) (ps : List Primitive) → group_refusal editing groups ps ≡ None → editing.edits.depth ≡ 0
shut_unless editing groups ps none =
    elim (cases_Bool (editing.edits.depth == 0)) [
      | inl t ↦ eqb-true editing.edits.depth 0 t
      | inr f ↦ let open_none = rw f at none in absurd (cc)
    ]

pub open_unless : (depth : ℕ) → not_open depth ≡ None → 0 < depth
open_unless depth none =
    elim (cases_Bool (depth == 0)) [
      | inl t ↦ let shut_none = rw t at none in absurd (cc)
      | inr f ↦ omega (arith, eqb-false depth 0 f)
    ]

-- what makes a primitive is not refused
pub not_refused : (judgement : Option Refusal) (editing : Editing) (made : EditReaction) (n : ℕ) → n < length (judged judgement editing made).made → judgement ≡ None
not_refused None editing made n within = refl
not_refused (Some cause) editing made n within = absurd (omega arith)

-- a command that makes no primitive is not cut
pub uncut : (state : State) (reaction : Reaction) (n : ℕ) → reaction.made ≡ [] → n < length reaction.made → ⊥
uncut state reaction n none within = let few : n < 0 = rw none at within in absurd (omega arith)

no_made : (judgement : Option Refusal) (editing : Editing) (n : ℕ) → n < length (judged judgement editing (closing editing)).made → ⊥
no_made None editing n within = absurd (omega arith)
no_made (Some cause) editing n within = absurd (omega arith)

pub no_end : (editing : Editing) (n : ℕ) → n < length (judged (not_open editing.edits.depth) editing (closing editing)).made → ⊥
no_end editing n within = no_made (not_open editing.edits.depth) editing n within

-- what is cut in a session that may be closed is not refused
pub within_open : (state : State) (reaction : Reaction) (n : ℕ) → n < length (unless_closed state reaction).made → n < length reaction.made
within_open state reaction n =
    unless (λ (r : Reaction). n < length r.made → n < length reaction.made) state reaction (λ within. absurd (omega arith)) (λ within. within)

-- a request that is no command is not cut
pub no_cut : (state : State) (seat : ℕ) (request : Request) (n : ℕ) → (IsCommand request → ⊥) → n < length (react state seat request).made → ⊥
no_cut state seat request n none within = uncut state (react state seat request) n (quiet_unless state seat request none).made within

-- ---- the open transaction

-- the primitives of the open transaction with those made
abbrev pub opened : State → Reaction → List Primitive
opened state came = redo_of state.editing.edits.current ++ came.made

-- They are finished where no transaction is open any more, and else they are those of the open one.
-- A call outside is asked for without an edit
pub record Moves (state : State) (came : Reaction) : Type 0 where
  pub finished : came.finished ≡ finished_at came.after.editing.edits.depth (opened state came)
  pub current : redo_of came.after.editing.edits.current
      ≡ (if came.after.editing.edits.depth == 0 then [] else opened state came)
  pub asked : came.reply ≡ reply.Asked → (came.after.editing ≡ state.editing) × (came.made ≡ [])

-- no primitive is in the open transaction while none is open
abbrev pub IsShut : State → Type 0
IsShut state = state.editing.edits.depth ≡ 0 → redo_of state.editing.edits.current ≡ []

-- the primitives are made in a text that they fit
abbrev pub FitsAfter : State → Reaction → Type 0
FitsAfter state reaction = FitInTurn reaction.after.editing.trail state.editing.loaded.text

-- nothing is made
quiet-finished : (depth : ℕ) (ps : List Primitive) → (depth ≡ 0 → ps ≡ []) → None ≡ finished_at depth (ps ++ [])
quiet-finished depth ps shut =
    elim (cases_Bool (depth == 0)) [
      | inl t ↦ rw (t, shut (eqb-true depth 0 t)) refl
      | inr f ↦ rw f refl
    ]

quiet-current : (depth : ℕ) (ps : List Primitive) → (depth ≡ 0 → ps ≡ []) → ps ≡ (if depth == 0 then [] else ps ++ [])
quiet-current depth ps shut =
    elim (cases_Bool (depth == 0)) [
      | inl t ↦ rw t (shut (eqb-true depth 0 t))
      | inr f ↦ rw f (sym (append-nil ps))
    ]

moves-quiet : (state : State) (came : Reaction) → IsQuiet state came → IsShut state → Moves state came
moves-quiet state came quiet shut =
    let ps = redo_of state.editing.edits.current in
    record {
      finished = rw (quiet.made, quiet.finished, quiet.editing) (quiet-finished state.editing.edits.depth ps shut);
      current = rw (quiet.made, quiet.editing) (quiet-current state.editing.edits.depth ps shut);
      asked = λ is. (quiet.editing, quiet.made);
    }

moves-judged : (judgement : Option Refusal) (state : State) (made : EditReaction) → IsShut state
    → (FitsAfter state (edited state made) → judgement ≡ None → Moves state (edited state made))
    → FitsAfter state (edited state (judged judgement state.editing made))
    → Moves state (edited state (judged judgement state.editing made))
moves-judged None state made shut moves fit = moves fit refl
moves-judged (Some cause) state made shut moves fit =
    moves-quiet state (edited state (judged (Some cause) state.editing made)) (record { editing = refl; made = refl; finished = refl }) shut

-- a transaction is opened
moves-begin : (state : State) → Moves state (edited state (begin_reaction state.editing))
moves-begin state =
    let f : (state.editing.edits.depth + 1 == 0) ≡ false = ne_eqb (state.editing.edits.depth + 1) 0 (λ e. absurd (omega arith)) in
    record {
      finished = rw f refl;
      current = rw f (sym (append-nil (redo_of state.editing.edits.current)));
      asked = λ is. absurd (cc);
    }

-- a transaction is closed
ended-current : (edits : Edits) → 0 < edits.depth
    → redo_of (ended edits).current ≡ (if (ended edits).depth == 0 then [] else redo_of edits.current ++ [])
ended-current edits some =
    elim (cases_Bool (edits.depth == 1)) [
      | inl t ↦
          let one = eqb-true edits.depth 1 t in
          let zero : (ended edits).depth ≡ 0 = omega (arith, depth-ended edits, one) in
          rw (zero, none-ended edits one) refl
      | inr f ↦
          let more : (edits.depth - 1 == 0) ≡ false = ne_eqb (edits.depth - 1) 0 (λ zero. absurd (eqb-false edits.depth 1 f (omega arith))) in
          rw (f, more) (sym (append-nil (redo_of edits.current)))
    ]

moves-closing : (state : State) → 0 < state.editing.edits.depth → Moves state (edited state (closing state.editing))
moves-closing state some =
    let ps = redo_of state.editing.edits.current in
    record {
      finished = ap (λ (qs : List Primitive). finished_at (ended state.editing.edits).depth qs) (sym (append-nil ps));
      current = ended-current state.editing.edits some;
      asked = λ is. absurd (cc);
    }

-- a change
moves-changed : (told : ℕ → ℕ → ℕ → Reply) → ((steps revision depth : ℕ) → told steps revision depth ≢ reply.Asked)
    → (state : State) (ps : List Primitive) → IsShut state → FitInTurn ps (text_of state.editing)
    → Moves state (edited state (changed told state.editing ps))
moves-changed told never state ps shut fit =
    let edits = state.editing.edits in
    let steps = steps_along ps (text_of state.editing) in
    let same = depth-noted steps edits in
    elim (cases_Bool (edits.depth == 0)) [
      | inl t ↦
          let zero = eqb-true edits.depth 0 t in
          let none : redo_of edits.current ≡ [] = shut zero in
          let shut_now : (noted_change steps edits).current ≡ [] = rw t (none-ended (noted_all steps (begun edits)) (omega arith)) in
          let now : ((noted_change steps edits).depth == 0) ≡ true = ap (λ (d : ℕ). d == 0) same ∙ t in
          record {
            finished = ap (λ (qs : List Primitive). finished_at (noted_change steps edits).depth (qs ++ ps)) (sym none);
            current = rw now (ap redo_of shut_now);
            asked = λ is. absurd (never _ _ _ is);
          }
      | inr f ↦
          let now : ((noted_change steps edits).depth == 0) ≡ false = ap (λ (d : ℕ). d == 0) same ∙ f in
          let is : (noted_change steps edits).current ≡ edits.current ++ steps = rw f refl in
          record {
            finished = rw now refl;
            current = rw now (ap redo_of is ∙ map-append forth_of edits.current steps
                ∙ ap (λ (qs : List Primitive). redo_of edits.current ++ qs) (redoes ps (text_of state.editing) fit));
            asked = λ is. absurd (never _ _ _ is);
          }
    ]

-- primitives that are a transaction of their own, as those of an undo and a redo are
moves-alone : (told : ℕ → ℕ → ℕ → Reply) → ((steps revision depth : ℕ) → told steps revision depth ≢ reply.Asked)
    → (state : State) (ps : List Primitive) (edits : Edits) → IsShut state → state.editing.edits.depth ≡ 0
    → edits.depth ≡ state.editing.edits.depth → edits.current ≡ state.editing.edits.current
    → Moves state (edited state (carried told state.editing ps edits))
moves-alone told never state ps edits shut zero depth current =
    let none : redo_of state.editing.edits.current ≡ [] = shut zero in
    let t : (edits.depth == 0) ≡ true = eq-eqb edits.depth 0 (depth ∙ zero) in
    record {
      finished = ap (λ (qs : List Primitive). finished_at edits.depth (qs ++ ps)) (sym none);
      current = rw t (ap redo_of current ∙ none);
      asked = λ is. absurd (never _ _ _ is);
    }

-- a reply that steps were made is no request outside
edited_is : (steps revision depth : ℕ) → reply.Edited steps revision depth ≢ reply.Asked
edited_is steps revision depth is = cc

cut_is : (steps revision depth : ℕ) → reply.Cut steps revision depth ≢ reply.Asked
cut_is steps revision depth is = cc

-- a command
moves : (state : State) (command : Command) → IsShut state → FitsAfter state (react_command state command)
    → Moves state (react_command state command)
moves state (Edit change) shut fit =
    let editing = state.editing in
    let ps = steps_of change (text_of editing) in
    moves-judged (change_refusal editing change) state (changed reply.Edited editing ps) shut
    (λ fits none. moves-changed reply.Edited edited_is state ps shut (FitInTurn-later editing.trail ps editing.loaded.text fits)) fit
moves state Begin shut fit = moves-begin state
moves state End shut fit =
    moves-judged (not_open state.editing.edits.depth) state (closing state.editing) shut
    (λ fits none. moves-closing state (open_unless state.editing.edits.depth none)) fit
moves state Undo shut fit =
    let editing = state.editing in
    let ps = undo_steps editing in
    moves-judged (group_refusal editing editing.edits.undo ps) state (undone reply.Edited editing ps) shut
    (λ fits none. moves-alone reply.Edited edited_is state ps (gone_back (length ps) editing.edits) shut
    (shut_unless editing editing.edits.undo ps none) refl refl) fit
moves state Redo shut fit =
    let editing = state.editing in
    let ps = redo_steps editing in
    moves-judged (group_refusal editing editing.edits.redo ps) state (redone reply.Edited editing ps) shut
    (λ fits none. moves-alone reply.Edited edited_is state ps (gone_forth (length ps) editing.edits) shut
    (shut_unless editing editing.edits.redo ps none) refl refl) fit
moves state (Check rule) shut fit =
    moves-quiet state (react_command state (Check rule)) (record { editing = refl; made = refl; finished = refl }) shut
moves state command shut fit = moves-quiet state _ (quiet state _ (still state command tt)) shut

-- .. that is cut
moves-cut : (state : State) (command : Command) (n : ℕ) → IsShut state → n < length (react_command state command).made
    → FitsAfter state (edited state (cut_reaction state.editing command n)) → Moves state (edited state (cut_reaction state.editing command n))
moves-cut state (Edit change) n shut within fit =
    let ps = take n (steps_of change (text_of state.editing)) in
    moves-changed reply.Cut cut_is state ps shut (FitInTurn-later state.editing.trail ps state.editing.loaded.text fit)
moves-cut state Begin n shut within fit = absurd (omega arith)
moves-cut state End n shut within fit = absurd (no_end state.editing n within)
moves-cut state Undo n shut within fit =
    let editing = state.editing in
    let steps = undo_steps editing in
    let ps = take n steps in
    moves-alone reply.Cut cut_is state ps (gone_back (length ps) editing.edits) shut
    (shut_unless editing editing.edits.undo steps
    (not_refused (group_refusal editing editing.edits.undo steps) editing (undone reply.Edited editing steps) n within)) refl refl
moves-cut state Redo n shut within fit =
    let editing = state.editing in
    let steps = redo_steps editing in
    let ps = take n steps in
    moves-alone reply.Cut cut_is state ps (gone_forth (length ps) editing.edits) shut
    (shut_unless editing editing.edits.redo steps
    (not_refused (group_refusal editing editing.edits.redo steps) editing (redone reply.Edited editing steps) n within)) refl refl
moves-cut state (Check rule) n shut within fit = absurd (omega arith)
moves-cut state command n shut within fit = absurd (uncut state (react_command state command) n (still state command tt).made within)

moves-open : (state : State) (command : Command) → IsShut state → FitsAfter state (unless_closed state (react_command state command))
    → Moves state (unless_closed state (react_command state command))
moves-open state command shut =
    unless (λ (r : Reaction). FitsAfter state r → Moves state r) state (react_command state command)
    (λ fit. moves-quiet state (refused state Closed) (record { editing = refl; made = refl; finished = refl }) shut)
    (λ fit. moves state command shut fit)

-- each request
pub moves-by : (state : State) (seat : ℕ) (request : Request) (o : Option ℕ) → IsShut state → CutsBetween (react state seat request).made o
    → FitsAfter state (react_by state seat request o) → Moves state (react_by state seat request o)
moves-by state seat (Cmd command) None shut cut fit = moves-open state command shut fit
moves-by state seat (Cmd command) (Some n) shut cut fit = moves-cut state command n shut (within_open state (react_command state command) n cut.1) fit
moves-by state seat Close None shut cut fit = moves-quiet state _ (quiet_unless state seat Close (λ is. is)) shut
moves-by state seat Take None shut cut fit = moves-quiet state _ (quiet_unless state seat Take (λ is. is)) shut
moves-by state seat (Deliver job findings) None shut cut fit = moves-quiet state _ (quiet_unless state seat (Deliver job findings) (λ is. is)) shut
moves-by state seat (GiveBack job) None shut cut fit = moves-quiet state _ (quiet_unless state seat (GiveBack job) (λ is. is)) shut
moves-by state seat (Outcome call ok) None shut cut fit = moves-quiet state _ (quiet_unless state seat (Outcome call ok) (λ is. is)) shut
moves-by state seat Close (Some n) shut cut fit = absurd (no_cut state seat Close n (λ is. is) cut.1)
moves-by state seat Take (Some n) shut cut fit = absurd (no_cut state seat Take n (λ is. is) cut.1)
moves-by state seat (Deliver job findings) (Some n) shut cut fit = absurd (no_cut state seat (Deliver job findings) n (λ is. is) cut.1)
moves-by state seat (GiveBack job) (Some n) shut cut fit = absurd (no_cut state seat (GiveBack job) n (λ is. is) cut.1)
moves-by state seat (Outcome call ok) (Some n) shut cut fit = absurd (no_cut state seat (Outcome call ok) n (λ is. is) cut.1)

-- primitives that are a transaction of their own
alone : (ps : List Primitive) → ps ≡ primitives_in (option_to_list (if_made ps)) ++ []
alone [] = refl
alone (p ∷ ps) = sym (append-nil ((p ∷ ps) ++ []) ∙ append-nil (p ∷ ps))

either_at : (depth : ℕ) (ps : List Primitive)
    → ps ≡ primitives_in (option_to_list (finished_at depth ps)) ++ (if depth == 0 then [] else ps)
either_at depth ps =
    elim (cases_Bool (depth == 0)) [
      | inl t ↦ rw t (alone ps)
      | inr f ↦ rw f refl
    ]

-- what was open and what was made are what is finished and what is open then
pub finished_and_open : (state : State) (came : Reaction) → Moves state came
    → opened state came ≡ primitives_in (option_to_list came.finished) ++ redo_of came.after.editing.edits.current
finished_and_open state came moves =
    let rest = if came.after.editing.edits.depth == 0 then [] else opened state came in
    either_at came.after.editing.edits.depth (opened state came)
    ∙ ap (λ (o : Option (List Primitive)). primitives_in (option_to_list o) ++ rest) (sym moves.finished)
    ∙ ap (λ (ps : List Primitive). primitives_in (option_to_list came.finished) ++ ps) (sym moves.current)

-- .. for callers
pub record Parts (before : Editing) (made : List Primitive) (finished : Option (List Primitive)) (after : Editing) : Type 0 where
  pub parts : redo_of before.edits.current ++ made ≡ primitives_in (option_to_list finished) ++ redo_of after.edits.current

pub parts-by : (state : State) (seat : ℕ) (request : Request) (o : Option ℕ) → (state.editing.edits.depth ≡ 0 → state.editing.edits.current ≡ [])
    → CutsBetween (react state seat request).made o → FitsAfter state (react_by state seat request o)
    → Parts state.editing (react_by state seat request o).made (react_by state seat request o).finished (react_by state seat request o).after.editing
parts-by state seat request o shut cut fit =
    let moves = moves-by state seat request o (λ none. ap redo_of (shut none)) cut fit in
    record { parts = finished_and_open state (react_by state seat request o) moves }
