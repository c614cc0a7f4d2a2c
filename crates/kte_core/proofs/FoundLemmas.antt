-- What is found is replied to a search alone.
use Rattle.std.proofs.Common.{◌≡◌, ℕ, Bool, true, false, List, Option, None, Some, refl, ap, sym, ◌∙◌}
use Rattle.std.specs.FinMap.{get}
use Rattle.std.proofs.lemmas.Bool.{true≢false}
use Rattle.kte_place.specs.Ends.{Ends}
use Rattle.kte_history.specs.declared.lock.Owner.TheVariants.{Editor}
use Rattle.kte_history.specs.Locks.{has_lock}
use Rattle.kte_edit.specs.Steps.{steps_of}
use Rattle.kte_jobs.specs.Jobs.{least_waiting}
use Rattle.kte_command.specs.declared.command.Command.{Command}
use Rattle.kte_command.specs.declared.command.Command.TheVariants as command
use Rattle.kte_core.specs.Editing.{EditReaction, Editing, text_of, judged, not_open, still_open, change_refusal, group_refusal, changed, undone, redone, undo_steps, redo_steps, closing, cut_reaction}
use Rattle.kte_core.specs.State.{State, Reaction, edited}
use Rattle.kte_core.specs.Folds.{only_fold, no_fold, fold_refusal}
use Rattle.kte_core.specs.Jobs.{take_job, deliver, give_back, taken_at}
use Rattle.kte_core.specs.React.{react_by, react_command, set_range, drop_range, show_range, unlock, land, can_land_from, fold, drop_fold, ask_outside, close}
use Rattle.kte_core.specs.Shown.{IsSearch}
use Rattle.kte_core.specs.declared.reply.Reply.{Reply}
use Rattle.kte_core.specs.declared.reply.Reply.TheVariants as reply
use Rattle.kte_core.specs.declared.reply.Refusal.{Refusal}
use Rattle.kte_core.specs.declared.request.Request.{Request}
use Rattle.kte_core.specs.declared.request.Request.TheVariants.{Cmd, Close, Take, Deliver, GiveBack, Outcome}
use Rattle.kte_core.proofs.TransactionLemmas.{unless}

-- the reply has what a search found
abbrev is_found : Reply → Bool
is_found (reply.Found spans) = true
is_found _ = false

-- the request is a search
abbrev pub Seeks : Request → Type 0
Seeks (Cmd command) = IsSearch command
Seeks _ = ⊥

-- what is found is the reply to this command alone
record FindsBy (command : Command) (came : Reaction) : Type 0 where
  searched : is_found came.reply ≡ true → IsSearch command

other : (command : Command) (came : Reaction) → is_found came.reply ≡ false → FindsBy command came
other command came none = record { searched = λ found. absurd (true≢false (sym found ∙ none)) }

none_judged : (judgement : Option Refusal) (editing : Editing) (made : EditReaction) → is_found made.reply ≡ false
    → is_found (judged judgement editing made).reply ≡ false
none_judged None editing made none = none
none_judged (Some cause) editing made none = refl

finds-command : (state : State) (command : Command) → FindsBy command (react_command state command)
finds-command state (command.Edit change) =
    other _ _ (none_judged (change_refusal state.editing change) state.editing
    (changed reply.Edited state.editing (steps_of change (text_of state.editing))) refl)
finds-command state command.Begin = other _ _ refl
finds-command state command.End = other _ _ (none_judged (not_open state.editing.edits.depth) state.editing (closing state.editing) refl)
finds-command state command.Undo =
    other _ _ (none_judged (group_refusal state.editing state.editing.edits.undo (undo_steps state.editing)) state.editing
    (undone reply.Edited state.editing (undo_steps state.editing)) refl)
finds-command state command.Redo =
    other _ _ (none_judged (group_refusal state.editing state.editing.edits.redo (redo_steps state.editing)) state.editing
    (redone reply.Edited state.editing (redo_steps state.editing)) refl)
finds-command state (command.MakeRange span expand empty) = other _ _ refl
finds-command state (command.SetRange id span) =
    other _ _ (elim (no_fold (get state.ranges id)) as (λ o. is_found (set_range state id span o).reply ≡ false) [ None ↦ refl | Some range ↦ refl ])
finds-command state (command.DropRange id) =
    other _ _ (elim (no_fold (get state.ranges id)) as (λ o. is_found (drop_range state id o).reply ≡ false) [ None ↦ refl | Some range ↦ refl ])
finds-command state (command.ShowRange id) =
    other _ _ (elim (no_fold (get state.ranges id)) as (λ o. is_found (show_range state id o).reply ≡ false) [ None ↦ refl | Some range ↦ refl ])
finds-command state command.Lock = other _ _ refl
finds-command state (command.Unlock revision) =
    other _ _ (elim (has_lock state.locks Editor revision) as (λ b. is_found (unlock state revision b).reply ≡ false) [ true ↦ refl | false ↦ refl ])
finds-command state (command.Land revision span expand empty) =
    other _ _ (elim (can_land_from state revision) as (λ b. is_found (land state revision span expand empty b).reply ≡ false) [ true ↦ refl | false ↦ refl ])
finds-command state (command.Fold span) =
    other _ _ (elim (fold_refusal state span) as (λ o. is_found (fold state span o).reply ≡ false) [ None ↦ refl | Some cause ↦ refl ])
finds-command state (command.Unfold id) =
    other _ _ (elim (only_fold (get state.ranges id)) as (λ o. is_found (drop_fold state id o).reply ≡ false) [ None ↦ refl | Some range ↦ refl ])
finds-command state (command.Find from query) = record { searched = λ found. tt }
finds-command state (command.FindBack before query) = record { searched = λ found. tt }
finds-command state (command.All query) = record { searched = λ found. tt }
finds-command state (command.Check rule) = other _ _ refl
finds-command state _ =
    other _ _ (elim (still_open state.editing.edits.depth) as (λ o. is_found (ask_outside state o).reply ≡ false) [ None ↦ refl | Some cause ↦ refl ])

no_cut : (state : State) (command : Command) (n : ℕ) → is_found (edited state (cut_reaction state.editing command n)).reply ≡ false
no_cut state (command.Edit change) n = refl
no_cut state command.Undo n = refl
no_cut state command.Redo n = refl
no_cut state _ n = refl

found_by : (state : State) (seat : ℕ) (request : Request) (o : Option ℕ) → is_found (react_by state seat request o).reply ≡ true → Seeks request
found_by state seat (Cmd command) None found =
    unless (λ (came : Reaction). is_found came.reply ≡ true → IsSearch command) state (react_command state command)
    (λ is. absurd (true≢false (sym is))) (λ is. (finds-command state command).searched is) found
found_by state seat Close None found =
    unless (λ (came : Reaction). is_found came.reply ≡ true → ⊥) state (close state) (λ is. true≢false (sym is)) (λ is. true≢false (sym is)) found
found_by state seat Take None found =
    true≢false (sym found ∙ (elim (least_waiting state.jobs) as (λ o. is_found (take_job state seat o).reply ≡ false) [ None ↦ refl | Some job ↦ refl ]))
found_by state seat (Deliver job findings) None found =
    true≢false (sym found ∙ (elim (taken_at state.jobs seat job) as (λ o. is_found (deliver state job findings o).reply ≡ false) [ None ↦ refl | Some revision ↦ refl ]))
found_by state seat (GiveBack job) None found =
    true≢false (sym found ∙ (elim (taken_at state.jobs seat job) as (λ o. is_found (give_back state job o).reply ≡ false) [ None ↦ refl | Some revision ↦ refl ]))
found_by state seat (Outcome call ok) None found = true≢false (sym found)
found_by state seat (Cmd command) (Some n) found = absurd (true≢false (sym found ∙ no_cut state command n))
found_by state seat request (Some n) found = true≢false (sym found)

-- a request with this reply is a search
pub found_seeks : (state : State) (seat : ℕ) (request : Request) (o : Option ℕ) (told : Reply) (spans : List Ends)
    → told ≡ (react_by state seat request o).reply → told ≡ reply.Found spans → Seeks request
found_seeks state seat request o told spans replied is =
    found_by state seat request o (sym (ap is_found replied) ∙ ap is_found is)

-- .. and leaves all as it was, if searches do
pub found_same : {X : Type 0} (old new : X) (request : Request) → Seeks request
    → ((command : Command) → request ≡ Cmd command → IsSearch command → new ≡ old) → new ≡ old
found_same old new (Cmd command) seeks searched = searched command refl seeks
found_same old new Close seeks searched = absurd seeks
found_same old new Take seeks searched = absurd seeks
found_same old new (Deliver job findings) seeks searched = absurd seeks
found_same old new (GiveBack job) seeks searched = absurd seeks
found_same old new (Outcome call ok) seeks searched = absurd seeks
