-- What an event finishes, and what it leaves in the open transaction.
use Rattle.std.proofs.Common.{◌≡◌, ◌∙◌, ℕ, ◌==◌, Bool, true, false, List, [], ◌∷◌, ◌++◌, Option, Some, None, if◌then◌else◌, inl, inr, refl, ap, sym, subst, append_assoc, append-nil}
use Rattle.std.specs.Option.{option_to_list}
use Rattle.std.proofs.lemmas.Bool.{cases_Bool, eqb-true}
use Rattle.std.proofs.lemmas.List.{append_cancel_right}
use Rattle.kte_text.specs.Primitives.{FitInTurn}
use Rattle.kte_text.specs.declared.primitive.Primitive.{Primitive}
use Rattle.kte_record.specs.Transactions.{joined}
use Rattle.kte_undo.specs.Steps.{redo_of}
use Rattle.kte_command.specs.declared.command.Command.TheVariants.{Sync, Save}
use Rattle.kte_core.specs.Editing.{finished_at, if_made, still_open}
use Rattle.kte_core.specs.State.{State, Reaction, refused}
use Rattle.kte_core.specs.React.{ask_outside, cut_at, react, react_by}
use Rattle.kte_core.specs.Replay.{IsAnswered, after_event, came_of}
use Rattle.kte_core.specs.declared.event.Event.{Event}
use Rattle.kte_core.specs.declared.reply.Reply.{Reply}
use Rattle.kte_core.specs.declared.reply.Reply.TheVariants as reply
use Rattle.kte_core.specs.declared.reply.Refusal.TheVariants.{Closed}
use Rattle.kte_core.specs.declared.request.OutsideCall.{OutsideCall}
use Rattle.kte_core.specs.declared.request.OutsideCall.TheVariants as Call
use Rattle.kte_core.specs.declared.request.Request.{Request}
use Rattle.kte_core.specs.declared.request.Request.TheVariants.{Cmd}
use Rattle.kte_core.proofs.CaseLemmas.{event_grows}
use Rattle.kte_core.proofs.TransactionLemmas.{IsShut, Moves, moves-by, opened, finished_and_open}
use Rattle.kte_run.specs.declared.editor.Told.{Told}
use Rattle.kte_desk.specs.Schedule.{Due, append, append_of, delivery, due_of, lost_by, nothing, outcome, outcome_of}
use Rattle.kte_desk.specs.Serving.{own}
use Rattle.kte_run.specs.Editor.{IsOwed, Part, current_after, finished_by, IsAt, Follows, call_after, current_before, depth_told, finished_after}
use Rattle.kte_run.specs.Calls.{is_save, is_saved, listed}
use Rattle.kte_run.proofs.AskLemmas.{KeepsPart}

-- ---- a transaction that is finished has primitives

abbrev IsFilled : Option (List Primitive) → Type 0
IsFilled None = Unit {0}
IsFilled (Some []) = ⊥
IsFilled (Some (primitive ∷ primitives)) = Unit {0}

filled-made : (ps : List Primitive) → IsFilled (if_made ps)
filled-made [] = tt
filled-made (p ∷ ps) = tt

filled-at : (depth : ℕ) (ps : List Primitive) → IsFilled (finished_at depth ps)
filled-at depth ps =
    elim (cases_Bool (depth == 0)) [
      | inl t ↦ rw t (filled-made ps)
      | inr f ↦ rw f tt
    ]

filled : (state : State) (came : Reaction) → Moves state came → IsFilled came.finished
filled state came moves = subst IsFilled (sym moves.finished) (filled-at came.after.editing.edits.depth (opened state came))

-- ---- the primitives of the open transaction, and of the one that is finished

listed-is : (finished : Option (List Primitive)) → IsFilled finished → listed (joined (option_to_list finished)) ≡ option_to_list finished
listed-is None is = refl
listed-is (Some []) is = absurd is
listed-is (Some (p ∷ ps)) is = ap (λ (qs : List Primitive). (p ∷ qs) ∷ []) (append-nil ps)

pub joined-listed : (ps : List Primitive) → joined (listed ps) ≡ ps
joined-listed [] = refl
joined-listed (p ∷ ps) = ap (λ (qs : List Primitive). p ∷ qs) (append-nil ps)

-- what is finished and what stays open are all
parted : (call : OutsideCall) (depth : ℕ) (ps : List Primitive) → finished_by call depth ps ++ current_after call depth ps ≡ ps
parted Call.Append depth ps =
    elim (cases_Bool (depth == 0)) [
      | inl t ↦ rw t (append-nil ps)
      | inr f ↦ rw f refl
    ]
parted Call.Sync depth ps = refl
parted Call.Save depth ps = refl

-- What an event makes of the open transaction: what was open and what was made are what is finished
-- and what is open then. What is finished is what comes of the event
pub record Moved (state : State) (event : Event) (done finished current : List Primitive) : Type 0 where
  pub trail : (after_event state event).editing.trail ≡ done ++ finished ++ current
  pub loaded : (after_event state event).editing.loaded ≡ state.editing.loaded
  pub listed_is : listed finished ≡ option_to_list (came_of state event).finished

pub moved : (state : State) (part later : Part) (lost : Bool) (due : Due) (request : Request) (answer : Reply) (made done finished : List Primitive)
    → IsAt state lost due part → Follows state lost due (own request answer) part later → IsAnswered state (own request answer)
    → cut_at answer ≡ None → made ≡ (came_of state (own request answer)).made
    → FitInTurn (after_event state (own request answer)).editing.trail state.editing.loaded.text
    → finished ++ later.current ≡ part.current ++ made → state.editing.trail ≡ done ++ part.current
    → Moved state (own request answer) done finished later.current
moved state part later lost due request answer made done finished at follows answered whole made_is fit parts trail =
    let event : Event = own request answer in
    let came : Reaction = came_of state event in
    let grown = event_grows state event in
    let shut : IsShut state = λ none. at.current ∙ at.shut (sym at.depth ∙ none) in
    let moves = moves-by state 0 request (cut_at answer) shut answered.cut fit in
    let all : part.current ++ made ≡ joined (option_to_list came.finished) ++ later.current =
    ap (λ (ps : List Primitive). ps ++ made) (sym at.current)
    ∙ ap (λ (ps : List Primitive). redo_of state.editing.edits.current ++ ps) made_is
    ∙ finished_and_open state came moves
    ∙ ap (λ (ps : List Primitive). joined (option_to_list came.finished) ++ ps) follows.at.current in
    let same : finished ≡ joined (option_to_list came.finished) =
    append_cancel_right finished (joined (option_to_list came.finished)) later.current (parts ∙ all) in
    record {
      trail = grown.trail
          ∙ ap (λ (ps : List Primitive). ps ++ came.made) trail
          ∙ append_assoc done part.current came.made
          ∙ ap (λ (ps : List Primitive). done ++ (part.current ++ ps)) (sym made_is)
          ∙ ap (λ (ps : List Primitive). done ++ ps) (sym parts)
          ∙ sym (append_assoc done finished later.current);
      loaded = grown.loaded;
      listed_is = ap listed same ∙ listed-is came.finished (filled state came moves);
    }

-- what the editor finishes and what it keeps open, where this changed of its part
pub heard-parts : (answer : Reply) (made : List Primitive) (part mid later : Part) → KeepsPart part mid
    → later ≡ record mid {
      depth = depth_told answer mid.depth;
      current = current_after (call_after answer mid.asking) (depth_told answer mid.depth) (current_before made mid);
      owed = later.owed;
      swap = later.swap;
      replace_failed = later.replace_failed;
    } → finished_after answer made mid ++ later.current ≡ part.current ++ made
heard-parts answer made part mid later kept rest =
    ap (λ (ps : List Primitive). finished_after answer made mid ++ ps) (ap (λ (p : Part). p.current) rest)
    ∙ parted (call_after answer mid.asking) (depth_told answer mid.depth) (current_before made mid)
    ∙ ap (λ (ps : List Primitive). ps ++ made) kept.current

-- ---- a save is asked for where no transaction is open

-- an outcome that is told is what the last event calls for
saves-owed : (due : Due) (lost : Bool) (owed : Option Told) → IsOwed due lost owed → is_saved owed ≡ true → due ≡ outcome Call.Save
saves-owed nothing lost owed owes saved = absurd (let none : false ≡ true = sym (ap is_saved owes) ∙ saved in cc)
saves-owed append lost None owes saved = absurd (cc)
saves-owed append lost (Some told) owes saved =
    absurd (let none : false ≡ true = sym (ap (λ (t : Told). is_save t.call t.ok) owes.1) ∙ saved in cc)
saves-owed (outcome call) lost None owes saved = absurd owes
saves-owed (outcome call) lost (Some told) owes saved =
    ap outcome (is_of call told.ok (ap (λ (c : OutsideCall). is_save c told.ok) (sym owes.0) ∙ saved)) where
      is_of : (c : OutsideCall) (ok : Bool) → is_save c ok ≡ true → c ≡ Call.Save
      is_of Call.Append ok is = absurd (cc)
      is_of Call.Sync ok is = absurd (cc)
      is_of Call.Save ok is = refl
saves-owed (delivery job) lost owed owes saved = absurd owes

never-append : (finished : Option (List Primitive)) → append_of finished ≡ outcome Call.Save → ⊥
never-append None is = cc
never-append (Some transaction) is = cc

-- only a save that is asked for calls for its outcome
saves-request : (request : Request) (finished : Option (List Primitive)) → outcome_of request (append_of finished) ≡ outcome Call.Save
    → request ≡ Cmd Save
saves-request (Cmd Save) finished is = refl
saves-request (Cmd Sync) finished is = absurd (cc)
saves-request _ finished is = absurd (never-append finished is)

record Saves (request : Request) (answer : Reply) : Type 0 where
  request_is : request ≡ Cmd Save
  answer_is : answer ≡ reply.Asked

saves-due : (request : Request) (finished : Option (List Primitive)) (answer : Reply) → due_of request finished answer ≡ outcome Call.Save
    → Saves request answer
saves-due request finished (reply.Took job revision) is = absurd (cc)
saves-due request finished reply.Asked is = record { request_is = saves-request request finished is; answer_is = refl }
saves-due request finished _ is = absurd (never-append finished is)

-- a call outside is asked for only where no transaction is open
asked-shut : (state : State) (closed : Bool)
    → (if closed then refused state Closed else ask_outside state (still_open state.editing.edits.depth)).reply ≡ reply.Asked
    → (if closed then refused state Closed else ask_outside state (still_open state.editing.edits.depth)).after.editing.edits.depth ≡ 0
asked-shut state true is = absurd (cc)
asked-shut state false is =
    elim (cases_Bool (state.editing.edits.depth == 0)) [
      | inl t ↦ rw t (eqb-true state.editing.edits.depth 0 t)
      | inr f ↦ let refuses = rw f at is in absurd (cc)
    ]

save-shut : (state : State) (answer : Reply) → cut_at answer ≡ None → IsAnswered state (own (Cmd Save) answer) → answer ≡ reply.Asked
    → (after_event state (own (Cmd Save) answer)).editing.edits.depth ≡ 0
save-shut state answer whole answered asked =
    let came : came_of state (own (Cmd Save) answer) ≡ react state 0 (Cmd Save) = ap (λ (at : Option ℕ). react_by state 0 (Cmd Save) at) whole in
    ap (λ (c : Reaction). c.after.editing.edits.depth) came
    ∙ asked-shut state state.closed (sym (ap (λ (c : Reaction). c.reply) came) ∙ sym answered.reply ∙ asked)

-- where a save is owed that went well, no primitive is in an open transaction
pub saved-shut : (state : State) (part later : Part) (lost : Bool) (due : Due) (request : Request) (answer : Reply)
    → Follows state lost due (own request answer) part later → IsAnswered state (own request answer) → cut_at answer ≡ None
    → is_saved later.owed ≡ true → later.current ≡ []
saved-shut state part later lost due request answer follows answered whole saved =
    let saves = saves-due request (came_of state (own request answer)).finished answer
    (saves-owed _ (lost_by lost request) later.owed follows.at.owed saved) in
    let shut : (after_event state (own request answer)).editing.edits.depth ≡ 0 =
    subst (λ (r : Request). IsAnswered state (own r answer) → (after_event state (own r answer)).editing.edits.depth ≡ 0) (sym saves.request_is)
    (λ (a : IsAnswered state (own (Cmd Save) answer)). save-shut state answer whole a saves.answer_is) answered in
    follows.at.shut (sym follows.at.depth ∙ shut)
