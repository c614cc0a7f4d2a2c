-- After a reply the part knows the state after it, and the other requests are left.
use Rattle.std.proofs.Common.{◌≡◌, ◌≢◌, ◌⊎◌, ℕ, zero, suc, ◌==◌, Bool, true, false, List, [], ◌∷◌, ◌++◌, Option, None, Some, refl, ap, sym, subst, ◌∙◌, inl, inr, arith, append-nil}
use Rattle.std.proofs.lemmas.Bool.{cases_Bool, eq-eqb}
use Rattle.kte_text.specs.Primitives.{FitInTurn}
use Rattle.kte_text.specs.declared.primitive.Primitive.{Primitive}
use Rattle.kte_undo.specs.Steps.{redo_of}
use Rattle.kte_causes.specs.Moments.{Moment}
use Rattle.kte_swap.specs.Swap.{SwapView}
use Rattle.kte_command.specs.declared.command.Command.{Command}
use Rattle.kte_command.specs.declared.command.Command.TheVariants as command
use Rattle.kte_core.specs.Editing.{if_made, finished_at}
use Rattle.kte_core.specs.State.{State, Reaction}
use Rattle.kte_core.specs.React.{cut_at}
use Rattle.kte_core.specs.Replay.{IsAnswered, came_of, after_event}
use Rattle.kte_core.specs.declared.reply.Reply.{Reply}
use Rattle.kte_core.specs.declared.reply.Reply.TheVariants as reply
use Rattle.kte_core.specs.declared.request.OutsideCall.{OutsideCall}
use Rattle.kte_core.specs.declared.request.OutsideCall.TheVariants as Call
use Rattle.kte_core.specs.declared.request.Request.{Request}
use Rattle.kte_core.specs.declared.request.Request.TheVariants.{Cmd, Close, Outcome}
use Rattle.kte_core.proofs.TransactionLemmas.{Moves, IsShut, opened, moves-by}
use Rattle.kte_run.specs.declared.editor.Told.{Told}
use Rattle.kte_desk.specs.Schedule.{Due, nothing, append, outcome, delivery, IsDue, IsFree, append_of, asked_from, depth_by, due_of, lost_by}
use Rattle.kte_desk.specs.Serving.{own}
use Rattle.kte_run.specs.Editor.{Part, IsAt, IsOwed, IsTold, Follows, asked, call_after, call_of, current_after, current_before, depth_told, finished_after, finished_by, is_lost, left, lost_with, next_of, telling}
use Rattle.kte_run.specs.Calls.{Leaves}
use Rattle.kte_run.proofs.EditorLemmas.{is_took, knows, tells, came-command, came-close, came-outcome}

-- ---- which call follows

-- what follows a reply: the append, or what was asked for
call-cases : (answer : Reply) (asking : Option OutsideCall)
    → (call_after answer asking ≡ Call.Append)
    ⊎ ((answer ≡ reply.Asked) × (asking ≡ Some (call_after answer asking)) × (call_after answer asking ≢ Call.Append))
call-cases reply.Asked (Some Call.Sync) = inr (refl, refl, λ e. absurd (cc))
call-cases reply.Asked (Some Call.Save) = inr (refl, refl, λ e. absurd (cc))
call-cases reply.Asked (Some Call.Append) = inl refl
call-cases reply.Asked None = inl refl
call-cases _ asking = inl refl

-- ---- what is due

-- the outcome after an append is the one that its transaction calls for
owed-made : (ps : List Primitive) (lost : Bool) (owed : Option Told) → IsTold Call.Append lost ps owed
    → IsOwed (append_of (if_made ps)) lost owed
owed-made [] lost None told = refl
owed-made [] lost (Some is) told = absurd (told.0 refl)
owed-made (p ∷ ps) lost None told = tt
owed-made (p ∷ ps) lost (Some is) told = (told.1, told.2)

owed-append : (depth : ℕ) (ps : List Primitive) (lost : Bool) (owed : Option Told)
    → IsTold Call.Append lost (finished_by Call.Append depth ps) owed → IsOwed (append_of (finished_at depth ps)) lost owed
owed-append depth ps lost owed told =
    elim (cases_Bool (depth == 0)) [
      | inl t ↦ let now : IsTold Call.Append lost ps owed = rw t at told in rw t (owed-made ps lost owed now)
      | inr f ↦ let now : IsTold Call.Append lost [] owed = rw f at told in rw f (owed-made [] lost owed now)
    ]

-- a call that was asked for is followed by its outcome
owed-outcome : (call : OutsideCall) (lost : Bool) (ps : List Primitive) (owed : Option Told) → call ≢ Call.Append
    → IsTold call lost ps owed → IsOwed (outcome call) lost owed
owed-outcome Call.Append lost ps owed other told = absurd (other refl)
owed-outcome Call.Sync lost ps None other told = told
owed-outcome Call.Sync lost ps (Some is) other told = (told.0, λ same was. told.1 was)
owed-outcome Call.Save lost ps None other told = told
owed-outcome Call.Save lost ps (Some is) other told = (told, λ same. absurd (cc))

-- after a command nothing, an append, or the outcome of what it asks for
due-append : (command : Command) (finished : Option (List Primitive)) (answer : Reply) → is_took answer ≡ false
    → call_after answer (call_of command) ≡ Call.Append → due_of (Cmd command) finished answer ≡ append_of finished
due-append command finished (reply.Took job revision) untaken is = absurd (cc)
due-append command.Sync finished reply.Asked untaken is = absurd (cc)
due-append command.Save finished reply.Asked untaken is = absurd (cc)
due-append _ finished reply.Asked untaken is = refl
due-append command finished _ untaken is = refl

some_call : (call other : OutsideCall) → Some call ≡ Some other → call ≡ other
some_call call other is = cc

due-outcome : (command : Command) (finished : Option (List Primitive)) (call : OutsideCall) → call_of command ≡ Some call
    → due_of (Cmd command) finished reply.Asked ≡ outcome call
due-outcome command.Sync finished call is = ap outcome (some_call Call.Sync call is)
due-outcome command.Save finished call is = ap outcome (some_call Call.Save call is)
due-outcome _ finished call is = absurd (cc)

-- a request of the editor where nothing is owed, and the telling of what is
due-free : (due : Due) (lost : Bool) (request : Request) → IsFree request → IsOwed due lost None → IsDue due lost request
due-free nothing lost request free owed = free
due-free append lost request free owed = inl free
due-free (outcome call) lost request free owed = absurd owed
due-free (delivery job) lost request free owed = absurd owed

due-told : (due : Due) (lost : Bool) (told : Told) → IsOwed due lost (Some told) → IsDue due lost (telling told)
due-told nothing lost told owed = absurd (cc)
due-told append lost told owed = inr (record { told = ap telling owed.1; kept = owed.0 })
due-told (outcome call) lost told owed = record {
  ok = told.ok;
  told = ap (λ (c : OutsideCall). Outcome c told.ok) owed.0;
  failed = owed.1;
}
due-told (delivery job) lost told owed = absurd owed

-- ---- the part after a reply

-- What a part hears: what changes, what is told, and whether the swap is lost
pub record Heard (was : Part) (answer : Reply) (made : List Primitive) (after : Part) : Type 0 where
  pub rest : after ≡ record was {
    depth = depth_told answer was.depth;
    current = current_after (call_after answer was.asking) (depth_told answer was.depth) (current_before made was);
    owed = after.owed;
    swap = after.swap;
    replace_failed = after.replace_failed;
  }
  pub told : IsTold (call_after answer was.asking) (is_lost was.swap.state) (finished_after answer made was) after.owed
  pub lost : is_lost after.swap.state ≡ lost_with (is_lost was.swap.state) after.owed

-- A part that knew the state, in the midst of a request by which this came: what is told beside what
-- came, and what is due after it
record Midst (state : State) (was_lost : Bool) (answer : Reply) (by : List Primitive) (due : Due) (was : Part) (came : Reaction) : Type 0 where
  told : depth_told answer was.depth ≡ came.after.editing.edits.depth
  closed : came.after.closed ≡ was.closed
  moves : Moves state came
  answered : answer ≡ came.reply
  made : by ≡ came.made
  current : redo_of state.editing.edits.current ≡ was.current
  shut : was.depth ≡ 0 → was.current ≡ []
  lost : is_lost was.swap.state ≡ was_lost
  due_append : call_after answer was.asking ≡ Call.Append → due ≡ append_of came.finished
  due_outcome : (call : OutsideCall) → answer ≡ reply.Asked → was.asking ≡ Some call → due ≡ outcome call

-- the primitives, as the part has them and as the reaction
opened-same : (state : State) (lost : Bool) (answer : Reply) (made : List Primitive) (due : Due) (was : Part) (came : Reaction)
    → Midst state lost answer made due was came → current_before made was ≡ opened state came
opened-same state lost answer made due was came midst =
    ap (λ (ps : List Primitive). ps ++ made) (sym midst.current)
    ∙ ap (λ (ps : List Primitive). redo_of state.editing.edits.current ++ ps) midst.made

-- the open transaction after it
current-same : (state : State) (lost : Bool) (answer : Reply) (made : List Primitive) (due : Due) (was : Part) (came : Reaction)
    → Midst state lost answer made due was came
    → redo_of came.after.editing.edits.current
    ≡ current_after (call_after answer was.asking) (depth_told answer was.depth) (current_before made was)
current-same state lost answer made due was came midst =
    let same = opened-same state lost answer made due was came midst in
    elim (call-cases answer was.asking) [
      | inl is ↦ rw (is, midst.told, same) midst.moves.current
      | inr other ↦
          let kept = midst.moves.asked (sym midst.answered ∙ other.0) in
          let stays : redo_of came.after.editing.edits.current ≡ current_before made was =
          ap (λ e. redo_of e.edits.current) kept.0 ∙ sym (append-nil _) ∙ ap (λ (ps : List Primitive). redo_of state.editing.edits.current ++ ps) (sym kept.1) ∙ sym same in
          stays ∙ outside (call_after answer was.asking) other.2
    ] where
      outside : (call : OutsideCall) → call ≢ Call.Append
          → current_before made was ≡ current_after call (depth_told answer was.depth) (current_before made was)
      outside Call.Append other = absurd (other refl)
      outside Call.Sync other = refl
      outside Call.Save other = refl

-- no primitive is in it while none is open
shut-after : (call : OutsideCall) (depth : ℕ) (ps : List Primitive) → (call ≢ Call.Append → depth ≡ 0 → ps ≡ []) → depth ≡ 0
    → current_after call depth ps ≡ []
shut-after Call.Append depth ps shut none = rw (eq-eqb depth 0 none) refl
shut-after Call.Sync depth ps shut none = shut (λ e. absurd (cc)) none
shut-after Call.Save depth ps shut none = shut (λ e. absurd (cc)) none

shut-same : (state : State) (lost : Bool) (answer : Reply) (made : List Primitive) (due : Due) (was : Part) (came : Reaction)
    → Midst state lost answer made due was came → call_after answer was.asking ≢ Call.Append → depth_told answer was.depth ≡ 0
    → current_before made was ≡ []
shut-same state lost answer made due was came midst other none =
    elim (call-cases answer was.asking) [
      | inl is ↦ absurd (other is)
      | inr is ↦
          let kept = midst.moves.asked (sym midst.answered ∙ is.0) in
          let depth : was.depth ≡ 0 = ap (λ (r : Reply). depth_told r was.depth) (sym is.0) ∙ none in
          ap (λ (ps : List Primitive). ps ++ made) (midst.shut depth) ∙ midst.made ∙ kept.1
    ]

owed-same : (state : State) (lost : Bool) (answer : Reply) (made : List Primitive) (due : Due) (was after : Part) (came : Reaction)
    → Midst state lost answer made due was came → Heard was answer made after → IsOwed due lost after.owed
owed-same state lost answer made due was after came midst heard =
    let same = opened-same state lost answer made due was came midst in
    let told : IsTold (call_after answer was.asking) lost (finished_after answer made was) after.owed =
    subst (λ (l : Bool). IsTold (call_after answer was.asking) l (finished_after answer made was) after.owed) midst.lost heard.told in
    elim (call-cases answer was.asking) [
      | inl is ↦
          let finished : append_of (finished_at (depth_told answer was.depth) (current_before made was)) ≡ due =
          ap (λ (d : ℕ). append_of (finished_at d (current_before made was))) midst.told
          ∙ ap (λ (ps : List Primitive). append_of (finished_at came.after.editing.edits.depth ps)) same
          ∙ ap append_of (sym midst.moves.finished) ∙ sym (midst.due_append is) in
          subst (λ (d : Due). IsOwed d lost after.owed) finished
          (owed-append (depth_told answer was.depth) (current_before made was) lost after.owed
          (subst (λ (c : OutsideCall). IsTold c lost (finished_by c (depth_told answer was.depth) (current_before made was)) after.owed) is told))
      | inr is ↦
          subst (λ (d : Due). IsOwed d lost after.owed) (sym (midst.due_outcome (call_after answer was.asking) is.0 is.1))
          (owed-outcome (call_after answer was.asking) lost (finished_after answer made was) after.owed is.2 told)
    ]

at-after : (state : State) (lost : Bool) (answer : Reply) (made : List Primitive) (due : Due) (was after : Part) (came : Reaction)
    → Midst state lost answer made due was came → Heard was answer made after → IsAt came.after lost due after
at-after state lost answer made due was after came midst heard =
    let rest = heard.rest in
    let depth : after.depth ≡ depth_told answer was.depth = ap (λ (p : Part). p.depth) rest in
    let current : after.current ≡ current_after (call_after answer was.asking) (depth_told answer was.depth) (current_before made was) =
    ap (λ (p : Part). p.current) rest in
    record {
      depth = sym midst.told ∙ sym depth;
      closed = midst.closed ∙ sym (ap (λ (p : Part). p.closed) rest);
      current = current-same state lost answer made due was came midst ∙ sym current;
      shut = λ none. current ∙ shut-after (call_after answer was.asking) (depth_told answer was.depth) (current_before made was)
          (shut-same state lost answer made due was came midst) (sym depth ∙ none);
      owed = owed-same state lost answer made due was after came midst heard;
      lost = heard.lost ∙ ap (λ (l : Bool). lost_with l after.owed) midst.lost;
    }

-- ---- each request

-- What came of a request of the editor that was not cut, where the primitives so far fit
pub record Came (state : State) (request : Request) (answer : Reply) (by : List Primitive) : Type 0 where
  pub whole : cut_at answer ≡ None
  pub answered : IsAnswered state (own request answer)
  pub made : by ≡ (came_of state (own request answer)).made
  pub fit : FitInTurn (after_event state (own request answer)).editing.trail state.editing.loaded.text

-- A part that is asked knows this of the state
record Knowing (state : State) (was_lost : Bool) (was : Part) : Type 0 where
  depth : state.editing.edits.depth ≡ was.depth
  current : redo_of state.editing.edits.current ≡ was.current
  shut : was.depth ≡ 0 → was.current ≡ []
  lost : is_lost was.swap.state ≡ was_lost

is_shut : (state : State) (lost : Bool) (was : Part) → Knowing state lost was → IsShut state
is_shut state lost was knowing none = knowing.current ∙ knowing.shut (sym knowing.depth ∙ none)

midst-by : (state : State) (lost : Bool) (request : Request) (answer : Reply) (made : List Primitive) (was : Part)
    → Came state request answer made → Knowing state lost was
    → depth_told answer was.depth ≡ (came_of state (own request answer)).after.editing.edits.depth
    → (came_of state (own request answer)).after.closed ≡ was.closed
    → (call_after answer was.asking ≡ Call.Append
    → due_of request (came_of state (own request answer)).finished answer ≡ append_of (came_of state (own request answer)).finished)
    → ((call : OutsideCall) → answer ≡ reply.Asked → was.asking ≡ Some call
    → due_of request (came_of state (own request answer)).finished answer ≡ outcome call)
    → Midst state lost answer made (due_of request (came_of state (own request answer)).finished answer) was (came_of state (own request answer))
midst-by state lost request answer made was by knowing told closed due_append due_outcome = record {
  told = told;
  closed = closed;
  moves = moves-by state 0 request (cut_at answer) (is_shut state lost was knowing) by.answered.cut by.fit;
  answered = by.answered.reply;
  made = by.made;
  current = knowing.current;
  shut = knowing.shut;
  lost = knowing.lost;
  due_append = due_append;
  due_outcome = due_outcome;
}

midst-command : (state : State) (lost : Bool) (command : Command) (answer : Reply) (made : List Primitive) (was : Part)
    → Came state (Cmd command) answer made → Knowing state lost was → state.closed ≡ false → was.closed ≡ false → was.asking ≡ call_of command
    → Midst state lost answer made (due_of (Cmd command) (came_of state (own (Cmd command) answer)).finished answer) was
    (came_of state (own (Cmd command) answer))
midst-command state lost command answer made was by knowing still_open open_part asks =
    let came = came-command state command answer still_open by.whole in
    let known = knows state command answer still_open by.whole by.answered in
    let untaken : is_took answer ≡ false =
    ap is_took (by.answered.reply ∙ ap (λ (c : Reaction). c.reply) came) ∙ (tells state command).untaken in
    let finished = (came_of state (own (Cmd command) answer)).finished in
    midst-by state lost (Cmd command) answer made was by knowing
    (ap (depth_told answer) (sym knowing.depth) ∙ known.told ∙ sym known.depth)
    (known.closed ∙ still_open ∙ sym open_part)
    (λ is. due-append command finished answer untaken (ap (call_after answer) (sym asks) ∙ is))
    (λ call is asking. ap (due_of (Cmd command) finished) is ∙ due-outcome command finished call (sym asks ∙ asking))

midst-close : (state : State) (lost : Bool) (answer : Reply) (made : List Primitive) (was : Part)
    → Came state Close answer made → Knowing state lost was → state.closed ≡ false → was.closed ≡ true → was.asking ≡ None
    → Midst state lost answer made (due_of Close (came_of state (own Close answer)).finished answer) was (came_of state (own Close answer))
midst-close state lost answer made was by knowing still_open shut_part asks =
    let came = came-close state answer still_open by.whole in
    let is_closed : answer ≡ reply.Closed = by.answered.reply ∙ ap (λ (c : Reaction). c.reply) came in
    midst-by state lost Close answer made was by knowing
    (ap (λ (r : Reply). depth_told r was.depth) is_closed ∙ sym knowing.depth ∙ sym (ap (λ (c : Reaction). c.after.editing.edits.depth) came))
    (ap (λ (c : Reaction). c.after.closed) came ∙ sym shut_part)
    (λ is. ap (due_of Close (came_of state (own Close answer)).finished) is_closed)
    (λ call is asking. absurd (cc))

midst-outcome : (state : State) (lost : Bool) (call : OutsideCall) (ok : Bool) (answer : Reply) (made : List Primitive) (was : Part)
    → Came state (Outcome call ok) answer made → Knowing state lost was → state.closed ≡ was.closed → was.asking ≡ None
    → Midst state lost answer made (due_of (Outcome call ok) (came_of state (own (Outcome call ok) answer)).finished answer) was
    (came_of state (own (Outcome call ok) answer))
midst-outcome state lost call ok answer made was by knowing same asks =
    let came = came-outcome state call ok answer by.whole in
    let noted : answer ≡ reply.Noted = by.answered.reply ∙ ap (λ (c : Reaction). c.reply) came in
    midst-by state lost (Outcome call ok) answer made was by knowing
    (ap (λ (r : Reply). depth_told r was.depth) noted ∙ sym knowing.depth ∙ sym (ap (λ (c : Reaction). c.after.editing.edits.depth) came))
    (ap (λ (c : Reaction). c.after.closed) came ∙ same)
    (λ is. ap (due_of (Outcome call ok) (came_of state (own (Outcome call ok) answer)).finished) noted)
    (λ call is asking. absurd (cc))

-- ---- what follows

-- a part of these
abbrev part : List Command → ℕ → Bool → Bool → Option OutsideCall → Option Told → List Primitive → SwapView → Bool → Part
part commands depth closed failed asking owed current swap replace_failed = record {
  commands = commands;
  depth = depth;
  closed = closed;
  failed = failed;
  asking = asking;
  owed = owed;
  current = current;
  swap = swap;
  replace_failed = replace_failed;
}

follows-command : (commands : List Command) (depth : ℕ) (asking : Option OutsideCall) (current : List Primitive) (swap : SwapView) (replace_failed : Bool)
    (state : State) (lost : Bool) (due : Due) (command : Command) (answer : Reply) (made : List Primitive) (after : Part)
    → IsAt state lost due (part (command ∷ commands) depth false false asking None current swap replace_failed)
    → Heard (part commands depth false false (call_of command) None current swap replace_failed) answer made after
    → Came state (Cmd command) answer made
    → Follows state lost due (own (Cmd command) answer) (part (command ∷ commands) depth false false asking None current swap replace_failed) after
follows-command commands depth asking current swap replace_failed state lost due command answer made after at heard by =
    let was : Part = part commands depth false false (call_of command) None current swap replace_failed in
    let knowing : Knowing state lost was = record { depth = at.depth; current = at.current; shut = at.shut; lost = at.lost } in
    let midst = midst-command state lost command answer made was by knowing at.closed refl refl in
    let known = knows state command answer at.closed by.whole by.answered in
    let now : depth_told answer depth ≡ depth_by depth command =
    ap (depth_told answer) (sym at.depth) ∙ known.told ∙ ap (λ d. depth_by d command) at.depth in
    let left_after : left after ≡ asked_from (depth_told answer depth) commands = ap left heard.rest in
    record {
      left = ap (λ d. Cmd command ∷ asked_from d commands) (sym now) ∙ ap (λ (rs : List Request). Cmd command ∷ rs) (sym left_after);
      due = due-free due lost (Cmd command) tt at.owed;
      at = at-after state lost answer made _ was after (came_of state (own (Cmd command) answer)) midst heard;
    }

follows-end : (depth : ℕ) (asking : Option OutsideCall) (current : List Primitive) (swap : SwapView) (replace_failed : Bool)
    (state : State) (lost : Bool) (due : Due) (answer : Reply) (made : List Primitive) (after : Part)
    → IsAt state lost due (part [] (suc depth) false false asking None current swap replace_failed)
    → Heard (part [] (suc depth) false false None None current swap replace_failed) answer made after
    → Came state (Cmd command.End) answer made
    → Follows state lost due (own (Cmd command.End) answer) (part [] (suc depth) false false asking None current swap replace_failed) after
follows-end depth asking current swap replace_failed state lost due answer made after at heard by =
    let was : Part = part [] (suc depth) false false None None current swap replace_failed in
    let knowing : Knowing state lost was = record { depth = at.depth; current = at.current; shut = at.shut; lost = at.lost } in
    let midst = midst-command state lost command.End answer made was by knowing at.closed refl refl in
    let known = knows state command.End answer at.closed by.whole by.answered in
    let less : depth_by (suc depth) command.End ≡ depth = omega arith in
    let now : depth_told answer (suc depth) ≡ depth =
    ap (depth_told answer) (sym at.depth) ∙ known.told ∙ ap (λ d. depth_by d command.End) at.depth ∙ less in
    let left_after : left after ≡ asked_from (depth_told answer (suc depth)) [] = ap left heard.rest in
    record {
      left = ap (λ d. Cmd command.End ∷ asked_from d []) (sym now) ∙ ap (λ (rs : List Request). Cmd command.End ∷ rs) (sym left_after);
      due = due-free due lost (Cmd command.End) tt at.owed;
      at = at-after state lost answer made _ was after (came_of state (own (Cmd command.End) answer)) midst heard;
    }

follows-close : (commands : List Command) (depth : ℕ) (failed : Bool) (asking : Option OutsideCall) (current : List Primitive) (swap : SwapView) (replace_failed : Bool)
    (state : State) (lost : Bool) (due : Due) (answer : Reply) (made : List Primitive) (after : Part)
    → left (part commands depth false failed asking None current swap replace_failed) ≡ Close ∷ []
    → IsAt state lost due (part commands depth false failed asking None current swap replace_failed)
    → Heard (part commands depth true failed None None current swap replace_failed) answer made after
    → Came state Close answer made
    → Follows state lost due (own Close answer) (part commands depth false failed asking None current swap replace_failed) after
follows-close commands depth failed asking current swap replace_failed state lost due answer made after last at heard by =
    let was : Part = part commands depth true failed None None current swap replace_failed in
    let knowing : Knowing state lost was = record { depth = at.depth; current = at.current; shut = at.shut; lost = at.lost } in
    let midst = midst-close state lost answer made was by knowing at.closed refl refl in
    let left_after : left after ≡ [] = ap left heard.rest in
    record {
      left = last ∙ ap (λ (rs : List Request). Close ∷ rs) (sym left_after);
      due = due-free due lost Close tt at.owed;
      at = at-after state lost answer made _ was after (came_of state (own Close answer)) midst heard;
    }

follows-outcome : (commands : List Command) (depth : ℕ) (closed failed : Bool) (asking : Option OutsideCall) (told : Told) (current : List Primitive) (swap : SwapView) (replace_failed : Bool)
    (state : State) (lost : Bool) (due : Due) (answer : Reply) (made : List Primitive) (after : Part)
    → IsAt state lost due (part commands depth closed failed asking (Some told) current swap replace_failed)
    → Heard (part commands depth closed failed None None current swap replace_failed) answer made after
    → Came state (telling told) answer made
    → Follows state lost due (own (telling told) answer) (part commands depth closed failed asking (Some told) current swap replace_failed) after
follows-outcome commands depth closed failed asking told current swap replace_failed state lost due answer made after at heard by =
    let was : Part = part commands depth closed failed None None current swap replace_failed in
    let knowing : Knowing state (lost_by lost (telling told)) was = record { depth = at.depth; current = at.current; shut = at.shut; lost = at.lost } in
    let midst = midst-outcome state (lost_by lost (telling told)) told.call told.ok answer made was by knowing at.closed refl in
    let came = came-outcome state told.call told.ok answer by.whole in
    let noted : answer ≡ reply.Noted = by.answered.reply ∙ ap (λ (c : Reaction). c.reply) came in
    let same : depth_told answer depth ≡ depth = ap (λ (r : Reply). depth_told r depth) noted in
    let left_after : left after ≡ left (part commands depth closed failed None None current swap replace_failed) =
    ap left heard.rest ∙ ap (λ (d : ℕ). left (part commands d closed failed None None current swap replace_failed)) same in
    record {
      left = sym left_after;
      due = due-told due lost told at.owed;
      at = at-after state (lost_by lost (telling told)) answer made _ was after (came_of state (own (telling told) answer)) midst heard;
    }

-- the first request that is left is this one
along : (state : State) (lost : Bool) (due : Due) (first request : Request) (answer : Reply) (made : List Primitive) (before after : Part) → first ≡ request
    → (Came state first answer made → Follows state lost due (own first answer) before after)
    → Came state request answer made → Follows state lost due (own request answer) before after
along state lost due first request answer made before after is by =
    subst (λ (r : Request). Came state r answer made → Follows state lost due (own r answer) before after) is by

first-is : (first request : Request) → Some first ≡ Some request → first ≡ request
first-is first request is = cc

follows-by : (owed : Option Told) (closed failed : Bool) (commands : List Command) (depth : ℕ) (asking : Option OutsideCall) (current : List Primitive) (swap : SwapView) (replace_failed : Bool)
    (state : State) (lost : Bool) (due : Due) (request : Request) (answer : Reply) (made : List Primitive) (after : Part)
    → next_of (part commands depth closed failed asking owed current swap replace_failed) ≡ Some request
    → IsAt state lost due (part commands depth closed failed asking owed current swap replace_failed)
    → Heard (asked (part commands depth closed failed asking owed current swap replace_failed)) answer made after
    → Came state request answer made
    → Follows state lost due (own request answer) (part commands depth closed failed asking owed current swap replace_failed) after
follows-by (Some told) closed failed commands depth asking current swap replace_failed state lost due request answer made after is at heard =
    along state lost due (telling told) request answer made _ after (first-is (telling told) request is)
    (follows-outcome commands depth closed failed asking told current swap replace_failed state lost due answer made after at heard)
follows-by None true failed commands depth asking current swap replace_failed state lost due request answer made after is at heard = absurd (cc)
follows-by None false true commands depth asking current swap replace_failed state lost due request answer made after is at heard =
    along state lost due Close request answer made _ after (first-is Close request is)
    (follows-close commands depth true asking current swap replace_failed state lost due answer made after refl at heard)
follows-by None false false (command ∷ commands) depth asking current swap replace_failed state lost due request answer made after is at heard =
    along state lost due (Cmd command) request answer made _ after (first-is (Cmd command) request is)
    (follows-command commands depth asking current swap replace_failed state lost due command answer made after at heard)
follows-by None false false [] zero asking current swap replace_failed state lost due request answer made after is at heard =
    along state lost due Close request answer made _ after (first-is Close request is)
    (follows-close [] zero false asking current swap replace_failed state lost due answer made after refl at heard)
follows-by None false false [] (suc depth) asking current swap replace_failed state lost due request answer made after is at heard =
    along state lost due (Cmd command.End) request answer made _ after (first-is (Cmd command.End) request is)
    (follows-end depth asking current swap replace_failed state lost due answer made after at heard)

pub follows : (before was after : Part) (state : State) (lost : Bool) (due : Due) (request : Request) (answer : Reply) (made : List Primitive)
    → was ≡ asked before → next_of before ≡ Some request → IsAt state lost due before → Came state request answer made → Heard was answer made after
    → Follows state lost due (own request answer) before after
follows before was after state lost due request answer made is first at by heard =
    follows-by before.owed before.closed before.failed before.commands before.depth before.asking before.current before.swap before.replace_failed
    state lost due request answer made after first at (subst (λ (p : Part). Heard p answer made after) is heard) by

-- what a part hears, from what its call of the disk leaves
heard-mid : (was mid : Part) (owed : Option Told) (answer : Reply) (made : List Primitive) (form : List ℕ) (before after : Option (List Moment))
    → mid ≡ record was { depth = mid.depth; current = mid.current; swap = mid.swap; replace_failed = mid.replace_failed }
    → mid.depth ≡ depth_told answer was.depth
    → mid.current ≡ current_after (call_after answer was.asking) (depth_told answer was.depth) (current_before made was)
    → Leaves (call_after answer was.asking) (finished_after answer made was) form was.swap mid.swap before after owed
    → Heard was answer made (record mid { owed = owed })
heard-mid was mid owed answer made form before after kept depth current leaves =
    let of : ℕ → List Primitive → Part = λ d ps. record was {
      depth = d;
      current = ps;
      owed = owed;
      swap = mid.swap;
      replace_failed = mid.replace_failed;
    } in
    record {
      rest = ap (λ (p : Part). record p { owed = owed }) kept ∙ ap (λ (d : ℕ). of d mid.current) depth
          ∙ ap (of (depth_told answer was.depth)) current;
      told = leaves.told;
      lost = leaves.lost;
    }

pub heard : (was mid after : Part) (owed : Option Told) (answer : Reply) (made : List Primitive) (form : List ℕ) (old new : Option (List Moment))
    → record mid { owed = owed } ≡ after
    → mid ≡ record was { depth = mid.depth; current = mid.current; swap = mid.swap; replace_failed = mid.replace_failed }
    → mid.depth ≡ depth_told answer was.depth
    → mid.current ≡ current_after (call_after answer was.asking) (depth_told answer was.depth) (current_before made was)
    → Leaves (call_after answer was.asking) (finished_after answer made was) form was.swap mid.swap old new owed
    → Heard was answer made after
heard was mid after owed answer made form old new is kept depth current leaves =
    subst (λ (p : Part). Heard was answer made p) is (heard-mid was mid owed answer made form old new kept depth current leaves)
