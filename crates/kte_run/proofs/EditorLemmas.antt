-- What the replies of the core make of the editor's part.
use Rattle.std.proofs.Common.{◌≡◌, ℕ, zero, suc, ◌<◌, ◌==◌, Bool, true, false, List, [], ◌∷◌, Option, None, Some, if◌then◌else◌, refl, ap, sym, ◌∙◌, inl, inr, arith}
use Rattle.std.specs.FinMap.{get}
use Rattle.std.proofs.lemmas.Bool.{cases_Bool, eqb-true}
use Rattle.kte_text.specs.declared.primitive.Primitive.{Primitive}
use Rattle.kte_place.specs.Ends.{Ends}
use Rattle.kte_history.specs.declared.lock.Owner.TheVariants as owner
use Rattle.kte_history.specs.Locks.{has_lock}
use Rattle.kte_undo.specs.Steps.{steps_along}
use Rattle.kte_edit.specs.Steps.{steps_of}
use Rattle.kte_command.specs.declared.command.Command.{Command}
use Rattle.kte_command.specs.declared.command.Command.TheVariants.{Edit, Begin, End, Undo, Redo, MakeRange, SetRange, DropRange, ShowRange, Lock, Unlock, Land, Fold, Unfold, Find, FindBack, All, Check, Sync, Save}
use Rattle.kte_core.specs.Editing.{Editing, EditReaction, text_of, judged, still_open, changed, undone, redone, undo_steps, redo_steps, change_refusal, group_refusal}
use Rattle.kte_core.specs.State.{State, Range, Reaction, replied, refused, edited}
use Rattle.kte_core.specs.Folds.{only_fold, no_fold, fold_refusal}
use Rattle.kte_core.specs.Kept.{kept_after}
use Rattle.kte_core.specs.React.{react_by, react_command, cut_at, set_range, drop_range, show_range, unlock, land, can_land_from, fold, drop_fold, told_found, ask_outside, close}
use Rattle.kte_core.specs.Replay.{IsAnswered, came_of, after_event}
use Rattle.kte_core.specs.declared.reply.Reply.{Reply}
use Rattle.kte_core.specs.declared.reply.Reply.TheVariants as reply
use Rattle.kte_core.specs.declared.reply.Refusal.{Refusal}
use Rattle.kte_core.specs.declared.reply.Refusal.TheVariants.{Closed}
use Rattle.kte_core.specs.declared.request.OutsideCall.{OutsideCall}
use Rattle.kte_core.specs.declared.request.Request.TheVariants.{Cmd, Close, Outcome}
use Rattle.kte_core.proofs.TransactionLemmas.{IsPlain, still, depth-ended, depth-noted}
use Rattle.kte_desk.specs.Schedule.{depth_by, asked_from}
use Rattle.kte_desk.specs.Serving.{own}
use Rattle.kte_run.specs.Editor.{Part, left, first_of, next_of, depth_told}

-- the seat has taken a job
abbrev pub is_took : Reply → Bool
is_took (reply.Took job revision) = true
is_took _ = false

-- what comes of a command in a session that is open: the depth is the one after the command, and the
-- reply tells it, and takes no job
pub record Tells (state : State) (command : Command) (came : Reaction) : Type 0 where
  pub depth : came.after.editing.edits.depth ≡ depth_by state.editing.edits.depth command
  pub told : depth_told came.reply state.editing.edits.depth ≡ depth_by state.editing.edits.depth command
  pub closed : came.after.closed ≡ state.closed
  pub untaken : is_took came.reply ≡ false

-- a command that edits, and keeps the depth
tells-judged : (judgement : Option Refusal) (state : State) (command : Command) (made : EditReaction)
    → depth_by state.editing.edits.depth command ≡ state.editing.edits.depth
    → made.after.edits.depth ≡ state.editing.edits.depth
    → depth_told made.reply state.editing.edits.depth ≡ state.editing.edits.depth → is_took made.reply ≡ false
    → Tells state command (edited state (judged judgement state.editing made))
tells-judged None state command made keeps depth told untaken =
    record { depth = depth ∙ sym keeps; told = told ∙ sym keeps; closed = refl; untaken = untaken }
tells-judged (Some refusal) state command made keeps depth told untaken =
    record { depth = sym keeps; told = sym keeps; closed = refl; untaken = refl }

-- the end of a transaction, or of none
tells-end : (state : State) → Tells state End (react_command state End)
tells-end state =
    elim (cases_Bool (state.editing.edits.depth == 0)) [
      | inl t ↦ rw t (let shut = eqb-true state.editing.edits.depth 0 t in record { depth = omega arith; told = omega arith; closed = refl; untaken = refl })
      | inr f ↦ rw f (record { depth = depth-ended state.editing.edits; told = depth-ended state.editing.edits; closed = refl; untaken = refl })
    ]

-- a command that neither edits nor posts a job: its reply does not tell the depth
abbrev IsUntold : Reaction → Type 0
IsUntold came = (depth : ℕ) → depth_told came.reply depth ≡ depth

untold-found : (state : State) (found : List Ends) → IsUntold (replied state (told_found found))
untold-found state [] = λ depth. refl
untold-found state (first ∷ others) = λ depth. refl

untold-outside : (state : State) (cause : Option Refusal) → IsUntold (ask_outside state cause)
untold-outside state None = λ depth. refl
untold-outside state (Some refusal) = λ depth. refl

untold : (state : State) (command : Command) → IsPlain command → IsUntold (react_command state command)
untold state (MakeRange span expand empty) plain = λ depth. refl
untold state (SetRange id span) plain =
    elim (no_fold (get state.ranges id)) as (λ found. IsUntold (set_range state id span found)) [ None ↦ λ depth. refl | Some range ↦ λ depth. refl ]
untold state (DropRange id) plain =
    elim (no_fold (get state.ranges id)) as (λ found. IsUntold (drop_range state id found)) [ None ↦ λ depth. refl | Some range ↦ λ depth. refl ]
untold state (ShowRange id) plain =
    elim (no_fold (get state.ranges id)) as (λ found. IsUntold (show_range state id found)) [ None ↦ λ depth. refl | Some range ↦ λ depth. refl ]
untold state Lock plain = λ depth. refl
untold state (Unlock revision) plain =
    elim (has_lock state.locks owner.Editor revision) as (λ owned. IsUntold (unlock state revision owned)) [ true ↦ λ depth. refl | false ↦ λ depth. refl ]
untold state (Land revision span expand empty) plain =
    elim (can_land_from state revision) as (λ may. IsUntold (land state revision span expand empty may)) [ true ↦ λ depth. refl | false ↦ λ depth. refl ]
untold state (Fold span) plain =
    elim (fold_refusal state span) as (λ cause. IsUntold (fold state span cause)) [ None ↦ λ depth. refl | Some cause ↦ λ depth. refl ]
untold state (Unfold id) plain =
    elim (only_fold (get state.ranges id)) as (λ found. IsUntold (drop_fold state id found)) [ None ↦ λ depth. refl | Some range ↦ λ depth. refl ]
untold state (Find from query) plain = untold-found state _
untold state (FindBack before query) plain = untold-found state _
untold state (All query) plain = untold-found state _
untold state Sync plain = untold-outside state (still_open state.editing.edits.depth)
untold state Save plain = untold-outside state (still_open state.editing.edits.depth)
untold state _ plain = absurd plain

-- .. and takes no job, since no room is kept after it
untaken : (answer : Reply) → kept_after 1 answer ≡ 1 → is_took answer ≡ false
untaken (reply.Took job revision) kept = absurd (omega arith)
untaken _ kept = refl

tells-plain : (state : State) (command : Command) → depth_by state.editing.edits.depth command ≡ state.editing.edits.depth → IsPlain command
    → Tells state command (react_command state command)
tells-plain state command keeps plain =
    let stays = still state command plain in
    record {
      depth = ap (λ (editing : Editing). editing.edits.depth) stays.editing ∙ sym keeps;
      told = untold state command plain state.editing.edits.depth ∙ sym keeps;
      closed = stays.closed;
      untaken = untaken (react_command state command).reply (stays.kept 1);
    }

pub tells : (state : State) (command : Command) → Tells state command (react_command state command)
tells state (Edit change) =
    let ps : List Primitive = steps_of change (text_of state.editing) in
    tells-judged (change_refusal state.editing change) state (Edit change) (changed reply.Edited state.editing ps) refl
    (depth-noted (steps_along ps (text_of state.editing)) state.editing.edits) (depth-noted (steps_along ps (text_of state.editing)) state.editing.edits) refl
tells state Begin = record { depth = refl; told = refl; closed = refl; untaken = refl }
tells state End = tells-end state
tells state Undo =
    tells-judged (group_refusal state.editing state.editing.edits.undo (undo_steps state.editing)) state Undo
    (undone reply.Edited state.editing (undo_steps state.editing)) refl refl refl refl
tells state Redo =
    tells-judged (group_refusal state.editing state.editing.edits.redo (redo_steps state.editing)) state Redo
    (redone reply.Edited state.editing (redo_steps state.editing)) refl refl refl refl
tells state (Check rule) = record { depth = refl; told = refl; closed = refl; untaken = refl }
tells state command = tells-plain state command refl tt

-- what comes of a command or of the close in a session that is open, and of an outcome, that was not cut
pub came-command : (state : State) (command : Command) (answer : Reply) → state.closed ≡ false → cut_at answer ≡ None
    → came_of state (own (Cmd command) answer) ≡ react_command state command
came-command state command answer still_open whole =
    ap (λ (at : Option ℕ). react_by state 0 (Cmd command) at) whole
    ∙ ap (λ (b : Bool). if b then refused state Closed else react_command state command) still_open

pub came-close : (state : State) (answer : Reply) → state.closed ≡ false → cut_at answer ≡ None → came_of state (own Close answer) ≡ close state
came-close state answer still_open whole =
    ap (λ (at : Option ℕ). react_by state 0 Close at) whole
    ∙ ap (λ (b : Bool). if b then refused state Closed else close state) still_open

pub came-outcome : (state : State) (call : OutsideCall) (ok : Bool) (answer : Reply) → cut_at answer ≡ None
    → came_of state (own (Outcome call ok) answer) ≡ replied state reply.Noted
came-outcome state call ok answer whole = ap (λ (at : Option ℕ). react_by state 0 (Outcome call ok) at) whole

-- a command, after which the depth is the one that its reply tells
pub record Knows (state : State) (command : Command) (answer : Reply) : Type 0 where
  pub told : depth_told answer state.editing.edits.depth ≡ depth_by state.editing.edits.depth command
  pub depth : (after_event state (own (Cmd command) answer)).editing.edits.depth ≡ depth_by state.editing.edits.depth command
  pub closed : (after_event state (own (Cmd command) answer)).closed ≡ state.closed

pub knows : (state : State) (command : Command) (answer : Reply) → state.closed ≡ false → cut_at answer ≡ None
    → IsAnswered state (own (Cmd command) answer) → Knows state command answer
knows state command answer still_open whole answered =
    let came = came-command state command answer still_open whole in
    let tell = tells state command in
    record {
      told = ap (λ (r : Reply). depth_told r state.editing.edits.depth) (answered.reply ∙ ap (λ (c : Reaction). c.reply) came) ∙ tell.told;
      depth = ap (λ (c : Reaction). c.after.editing.edits.depth) came ∙ tell.depth;
      closed = ap (λ (c : Reaction). c.after.closed) came ∙ tell.closed;
    }

-- a reply that is no Cut was not cut
pub uncut : (answer : Reply) → ((steps revision depth : ℕ) → answer ≡ reply.Cut steps revision depth → ⊥) → cut_at answer ≡ None
uncut (reply.Cut steps revision depth) never = absurd (never steps revision depth refl)
uncut _ never = refl

-- an end comes next while a transaction is open and no command is left
first-end : (part : Part) → part.closed ≡ false → part.failed ≡ false → part.commands ≡ [] → 0 < part.depth
    → first_of (left part) ≡ Some (Cmd End)
first-end part still_open sound none some =
    rw (still_open, sound, none) (end-first part.depth some) where
      end-first : (depth : ℕ) → 0 < depth → first_of (asked_from depth []) ≡ Some (Cmd End)
      end-first zero some = absurd (omega arith)
      end-first (suc depth) some = refl

pub end-next : (part : Part) → part.owed ≡ None → part.closed ≡ false → part.failed ≡ false → part.commands ≡ [] → 0 < part.depth
    → Some (Cmd End) ≡ next_of part
end-next part settled still_open sound none some = rw settled (sym (first-end part still_open sound none some))
