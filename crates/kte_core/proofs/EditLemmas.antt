-- What comes of a change, a transaction, an undo and a redo.
use Rattle.std.proofs.Common.{◌≡◌, ℕ, ◌+◌, ◌<◌, ◌≤◌, ◌==◌, Bool, true, false, List, [], ◌∷◌, ◌++◌, length, take, Option, None, Some, refl, ap, sym, subst, ◌∙◌, inl, inr, arith}
use Rattle.std.specs.Prelude.{◌↔◌, Result, Ok, Err, IfOk, IsOk, IsErr, IsOkAnd, nat_lt, nat_le, if◌then◌else◌}
use Rattle.std.specs.declared.alloc.AllocError.{AllocError}
use Rattle.std.proofs.lemmas.Result.{IfOk-from_err}
use Rattle.std.proofs.lemmas.Bool.{cases_Bool, eq-eqb, eqb-true, eqb-false, ne_eqb, lt-ltb, le-ltb, ltb-true, ltb-false, leb-true, leb-false}
use Rattle.std.proofs.lemmas.List.{take_all, length-take-le}
use Rattle.kte_text.specs.declared.primitive.Primitive.{Primitive}
use Rattle.kte_text.specs.declared.primitive.Misfit.{Misfit}
use Rattle.kte_doc.specs.Documents.{Document}
use Rattle.kte_history.specs.declared.fault.RevisionsFull as fault
use Rattle.kte_edit.specs.Steps.{steps_of, change_misfit}
use Rattle.kte_edit.specs.declared.change.Change.{Change}
use Rattle.kte_edit.specs.declared.change.StepsFault.{StepsFault}
use Rattle.kte_undo.specs.Steps.{steps_along}
use Rattle.kte_undo.specs.Groups.{Edits}
use Rattle.kte_undo.specs.declared.step.Step.{Step as UndoStep}
use Rattle.kte_undo.specs.declared.groups.UndoFault.{UndoFault}
use Rattle.kte_command.specs.declared.command.Command.{Command}
use Rattle.kte_command.specs.declared.command.Command.TheVariants as command
use Rattle.kte_core.specs.Editing.{Editing, EditReaction, text_of, revision_of, judged, full, carried, noted_change, change_refusal, group_refusal, changed}
use Rattle.kte_core.specs.Groups.{command_of, groups_to, group_steps, gone}
use Rattle.kte_core.specs.State.{State, Reaction, edited}
use Rattle.kte_core.specs.React.{react_command, cut_at, CutsBetween}
use Rattle.kte_core.specs.Shown.{IsAfter, IsOf, IsRefused, Meets, Carries, react_open}
use Rattle.kte_core.specs.declared.edits.Direction.{Direction}
use Rattle.kte_core.specs.declared.edits.Direction.TheVariants.{Back, Forth}
use Rattle.kte_core.specs.declared.event.Step.{Step}
use Rattle.kte_core.specs.declared.reply.Reply.{Reply}
use Rattle.kte_core.specs.declared.reply.Reply.TheVariants as reply
use Rattle.kte_core.specs.declared.reply.Refusal.{Refusal}
use Rattle.kte_core.specs.declared.reply.Refusal.TheVariants as refusal

-- a step of a reply that does not say that memory ran out
pub Carries-whole : (before : State) (command : Command) (step : Step) (after : State) → cut_at step.reply ≡ None
    → step.reply ≡ (react_command before command).reply → step.made ≡ (react_command before command).made
    → after ≡ (react_command before command).after → Carries before command step after
Carries-whole before command step after whole reply made leads = record {
  reply = subst (λ (o : Option ℕ). step.reply ≡ (react_open before command o).reply) (sym whole) reply;
  made = subst (λ (o : Option ℕ). step.made ≡ (react_open before command o).made) (sym whole) made;
  leads = subst (λ (o : Option ℕ). after ≡ (react_open before command o).after) (sym whole) leads;
  cut = subst (λ (o : Option ℕ). CutsBetween (react_command before command).made o) (sym whole) tt;
}

-- .. and of one that does
pub Carries-part : (before : State) (command : Command) (step : Step) (after : State) (n : ℕ) → cut_at step.reply ≡ Some n
    → step.reply ≡ (react_open before command (Some n)).reply → step.made ≡ (react_open before command (Some n)).made
    → after ≡ (react_open before command (Some n)).after → 0 < n → n < length (react_command before command).made
    → Carries before command step after
Carries-part before command step after n part reply made leads some within = record {
  reply = subst (λ (o : Option ℕ). step.reply ≡ (react_open before command o).reply) (sym part) reply;
  made = subst (λ (o : Option ℕ). step.made ≡ (react_open before command o).made) (sym part) made;
  leads = subst (λ (o : Option ℕ). after ≡ (react_open before command o).after) (sym part) leads;
  cut = subst (λ (o : Option ℕ). CutsBetween (react_command before command).made o) (sym part) (some, within);
}

-- a step that refuses a request that is to be refused
pub Meets-refused : (state : State) (command : Command) (document : Document) (edits : Edits) (cause : Refusal) (step : Step)
    (judgement : Option Refusal) (reaction : EditReaction) → IsOf state document → edits ≡ state.editing.edits
    → IsRefused cause step → judgement ≡ Some cause
    → react_command state command ≡ edited state (judged judgement state.editing reaction)
    → Meets state command step document edits state.jobs
Meets-refused state command document edits cause step judgement reaction is_of same refuses because is =
    let it : react_command state command ≡ edited state (judged (Some cause) state.editing reaction) =
    is ∙ ap (λ (j : Option Refusal). edited state (judged j state.editing reaction)) because in
    record {
      after = state;
      carries = Carries-whole state command step state (ap cut_at refuses.reply)
          (refuses.reply ∙ sym (ap (λ (r : Reaction). r.reply) it)) (refuses.made ∙ sym (ap (λ (r : Reaction). r.made) it))
          (sym (ap (λ (r : Reaction). r.after) it));
      document = is_of;
      edits = same;
      jobs_now = refl;
      closed = refl;
    }

-- the state after these primitives
abbrev made_in : State → List Primitive → Edits → State
made_in state primitives edits = record state { editing = record state.editing { trail = state.editing.trail ++ primitives; edits = edits } }

IsOf-made : (state : State) (primitives : List Primitive) (edits : Edits) (document later : Document) → IsOf state document
    → IsAfter primitives document later → IsOf (made_in state primitives edits) later
IsOf-made state primitives edits document later is_of after = record {
  came = after.came state.editing.loaded.text state.editing.trail is_of.came;
  limit = after.limit ∙ is_of.limit;
  ranges = λ id. after.ranges id ∙ is_of.ranges id;
  next_id = after.next_id ∙ is_of.next_id;
  locks = after.locks ∙ is_of.locks;
}

-- What a command calls for in a state where it is not refused: it makes these primitives, or the first
-- ones, and leads to the groups that follow from them
pub record Calls (state : State) (command : Command) (all : List Primitive) (groups : List Primitive → Edits) : Type 0 where
  pub whole : react_command state command ≡ edited state (carried reply.Edited state.editing all (groups all))
  pub part : (n : ℕ) → react_open state command (Some n)
      ≡ edited state (carried reply.Cut state.editing (take n all) (groups (take n all)))

-- a step whose first primitives were made, as it tells
pub record Tells (all : List Primitive) (n : ℕ) (later : Document) (edits : Edits) (step : Step) : Type 0 where
  pub count : n ≤ length all
  pub made : step.made ≡ take n all
  pub whole : n ≡ length all → step.reply ≡ reply.Edited n later.revision edits.depth
  pub part : 0 < n → n < length all → step.reply ≡ reply.Cut n later.revision edits.depth
  pub some : n < length all → 0 < n

Meets-whole : (state : State) (command : Command) (all : List Primitive) (groups : List Primitive → Edits) (n : ℕ)
    (document later : Document) (edits : Edits) (step : Step) → IsOf state document → IsAfter all document later
    → edits ≡ groups all → n ≡ length all → step.made ≡ all → step.reply ≡ reply.Edited n later.revision edits.depth
    → react_command state command ≡ edited state (carried reply.Edited state.editing all (groups all))
    → Meets state command step later edits state.jobs
Meets-whole state command all groups n document later edits step is_of after same long made told is =
    let shown = IsOf-made state all (groups all) document later is_of after in
    let revision = shown.came.revision in
    let replied : step.reply ≡ reply.Edited (length all) (length (state.editing.trail ++ all)) (groups all).depth =
    told ∙ ap (λ (k : ℕ). reply.Edited k later.revision edits.depth) long
    ∙ ap (λ (k : ℕ). reply.Edited (length all) k edits.depth) revision
    ∙ ap (λ (e : Edits). reply.Edited (length all) (length (state.editing.trail ++ all)) e.depth) same in
    record {
      after = made_in state all (groups all);
      carries = Carries-whole state command step (made_in state all (groups all)) (ap cut_at replied)
          (replied ∙ sym (ap (λ (r : Reaction). r.reply) is)) (made ∙ sym (ap (λ (r : Reaction). r.made) is))
          (sym (ap (λ (r : Reaction). r.after) is));
      document = shown;
      edits = same;
      jobs_now = refl;
      closed = refl;
    }

Meets-part : (state : State) (command : Command) (all : List Primitive) (groups : List Primitive → Edits) (n : ℕ)
    (document later : Document) (edits : Edits) (step : Step) → IsOf state document → IsAfter (take n all) document later
    → edits ≡ groups (take n all) → 0 < n → n < length all → step.made ≡ take n all
    → step.reply ≡ reply.Cut n later.revision edits.depth → Calls state command all groups
    → Meets state command step later edits state.jobs
Meets-part state command all groups n document later edits step is_of after same some within made told calls =
    let ps = take n all in
    let shown = IsOf-made state ps (groups ps) document later is_of after in
    let revision = shown.came.revision in
    let long : n ≡ length ps = sym (length-take-le n all (omega arith)) in
    let is = calls.part n in
    let replied : step.reply ≡ reply.Cut (length ps) (length (state.editing.trail ++ ps)) (groups ps).depth =
    told ∙ ap (λ (k : ℕ). reply.Cut k later.revision edits.depth) long
    ∙ ap (λ (k : ℕ). reply.Cut (length ps) k edits.depth) revision
    ∙ ap (λ (e : Edits). reply.Cut (length ps) (length (state.editing.trail ++ ps)) e.depth) same in
    let number : cut_at step.reply ≡ Some n = ap cut_at told in
    let many : n < length (react_command state command).made = rw calls.whole within in
    record {
      after = made_in state ps (groups ps);
      carries = Carries-part state command step (made_in state ps (groups ps)) n number
          (replied ∙ sym (ap (λ (r : Reaction). r.reply) is)) (made ∙ sym (ap (λ (r : Reaction). r.made) is))
          (sym (ap (λ (r : Reaction). r.after) is)) some many;
      document = shown;
      edits = same;
      jobs_now = refl;
      closed = refl;
    }

-- a step that tells what was made meets the reaction, or its cut form
pub Meets-told : (state : State) (command : Command) (all : List Primitive) (groups : List Primitive → Edits) (n : ℕ)
    (document later : Document) (edits : Edits) (step : Step) → IsOf state document → IsAfter (take n all) document later
    → edits ≡ groups (take n all) → Tells all n later edits step → Calls state command all groups
    → Meets state command step later edits state.jobs
Meets-told state command all groups n document later edits step is_of after same tells calls =
    elim (cases_Bool (nat_lt n (length all))) [
      | inl t ↦ let within = ltb-true n (length all) t in
          Meets-part state command all groups n document later edits step is_of after same (tells.some within) within tells.made
          (tells.part (tells.some within) within) calls
      | inr f ↦ let long : n ≡ length all = omega (arith, ltb-false n (length all) f, tells.count) in
          let e : take n all ≡ all = take_all n all (omega arith) in
          Meets-whole state command all groups n document later edits step is_of
          (subst (λ (ps : List Primitive). IsAfter ps document later) e after) (same ∙ ap groups e) long (tells.made ∙ e)
          (tells.whole long) calls.whole
    ]

-- what is told where memory did not run out before the first primitive
pub told_of_all : (result : Result Step AllocError) (all : List Primitive) (n : ℕ) (later : Document) (edits : Edits) → n ≤ length all
    → IfOk result (λ step. step.made ≡ take n all)
    → (n ≡ length all → IsOkAnd result (λ step. step.reply ≡ reply.Edited n later.revision edits.depth))
    → (0 < n → n < length all → IsOkAnd result (λ step. step.reply ≡ reply.Cut n later.revision edits.depth))
    → IfOk result (λ step. n < length all → 0 < n)
    → IfOk result (Tells all n later edits)
told_of_all (Ok step) all n later edits count made whole part some =
    record { count = count; made = made; whole = whole; part = part; some = some }
told_of_all (Err e) all n later edits count made whole part some = tt

pub if_ok : (result : Result Step AllocError) (P Q : Step → Type 0) → ((step : Step) → P step → Q step) → IfOk result P → IfOk result Q
if_ok (Ok step) P Q f h = f step h
if_ok (Err e) P Q f h = tt

-- a test for room that says that there is some, and one that says that there is not
room_is : (enough : Bool) (result : Result (Unit {0}) fault.RevisionsFull) (given : Unit {0}) (error : fault.RevisionsFull)
    → result ≡ (if enough then Ok tt else Err error) → result ≡ Ok given → enough ≡ true
room_is true result given error told is = refl
room_is false result given error told is = absurd (cc)

room_failed : (enough : Bool) (result : Result (Unit {0}) fault.RevisionsFull) (given error : fault.RevisionsFull)
    → result ≡ (if enough then Ok tt else Err error) → result ≡ Err given → (enough ≡ false) × (given ≡ error)
room_failed true result given error told is = absurd (cc)
room_failed false result given error told is = (refl, cc)

-- a document that has no room for these primitives says at which revision it is
pub room_refuses : (document : Document) (ps : List Primitive) (n : ℕ) (result : Result (Unit {0}) fault.RevisionsFull)
    (given : fault.RevisionsFull) → n ≡ length ps
    → result ≡ (if nat_le (document.revision + n) document.limit then Ok tt else Err (record { revision = document.revision }))
    → result ≡ Err given
    → (nat_le (document.revision + length ps) document.limit ≡ false) × (given.revision ≡ document.revision)
room_refuses document ps n result given long told is =
    let both = room_failed (nat_le (document.revision + n) document.limit) result given (record { revision = document.revision }) told is in
    (ap (λ (k : ℕ). nat_le (document.revision + k) document.limit) (sym long) ∙ both.0, ap (λ (f : fault.RevisionsFull). f.revision) both.1)

pub room_allows : (document : Document) (ps : List Primitive) (n : ℕ) (result : Result (Unit {0}) fault.RevisionsFull)
    (given : Unit {0}) → n ≡ length ps
    → result ≡ (if nat_le (document.revision + n) document.limit then Ok tt else Err (record { revision = document.revision }))
    → result ≡ Ok given → nat_le (document.revision + length ps) document.limit ≡ true
room_allows document ps n result given long told is =
    ap (λ (k : ℕ). nat_le (document.revision + k) document.limit) (sym long)
    ∙ room_is (nat_le (document.revision + n) document.limit) result given (record { revision = document.revision }) told is

-- the state is full exactly where its document has no room
full_is : (state : State) (document : Document) (ps : List Primitive) → IsOf state document
    → nat_le (document.revision + length ps) document.limit ≡ false
    → full state.editing ps ≡ Some (refusal.RevisionsFull document.revision)
full_is state document ps is_of less =
    let past : nat_lt state.editing.limit (revision_of state.editing + length ps) ≡ true =
    lt-ltb state.editing.limit (revision_of state.editing + length ps)
    (omega (arith, leb-false (document.revision + length ps) document.limit less, is_of.came.revision, is_of.limit)) in
    rw past (ap (λ (r : ℕ). Some (refusal.RevisionsFull r)) (sym is_of.came.revision))

full_not : (state : State) (document : Document) (ps : List Primitive) → IsOf state document
    → nat_le (document.revision + length ps) document.limit ≡ true → full state.editing ps ≡ None
full_not state document ps is_of enough =
    let within : nat_lt state.editing.limit (revision_of state.editing + length ps) ≡ false =
    le-ltb state.editing.limit (revision_of state.editing + length ps)
    (omega (arith, leb-true (document.revision + length ps) document.limit enough, is_of.came.revision, is_of.limit)) in
    rw within refl

-- why a change is refused, judged in the document
pub change_misfits : (state : State) (document : Document) (change : Change) (misfit : Misfit) → IsOf state document
    → change_misfit change document.text ≡ Some misfit → change_refusal state.editing change ≡ Some (refusal.Misfit misfit)
change_misfits state document change misfit is_of misfits =
    let e : change_misfit change (text_of state.editing) ≡ Some misfit = ap (change_misfit change) (sym is_of.came.text) ∙ misfits in
    rw e refl

pub change_is_full : (state : State) (document : Document) (change : Change) (ps : List Primitive) → IsOf state document
    → change_misfit change document.text ≡ None → ps ≡ steps_of change document.text
    → nat_le (document.revision + length ps) document.limit ≡ false
    → change_refusal state.editing change ≡ Some (refusal.RevisionsFull document.revision)
change_is_full state document change ps is_of fits steps less =
    let e : change_misfit change (text_of state.editing) ≡ None = ap (change_misfit change) (sym is_of.came.text) ∙ fits in
    let all : steps_of change (text_of state.editing) ≡ ps = ap (steps_of change) (sym is_of.came.text) ∙ sym steps in
    rw (e, all) (full_is state document ps is_of less)

change_fits : (state : State) (document : Document) (change : Change) → IsOf state document
    → change_misfit change document.text ≡ None
    → nat_le (document.revision + length (steps_of change document.text)) document.limit ≡ true
    → change_refusal state.editing change ≡ None
change_fits state document change is_of fits enough =
    let e : change_misfit change (text_of state.editing) ≡ None = ap (change_misfit change) (sym is_of.came.text) ∙ fits in
    let all : steps_of change (text_of state.editing) ≡ steps_of change document.text = ap (steps_of change) (sym is_of.came.text) in
    rw (e, all) (full_not state document (steps_of change document.text) is_of enough)

-- a change that fits is made
pub calls_change : (state : State) (document : Document) (edits : Edits) (change : Change) → IsOf state document
    → edits ≡ state.editing.edits → change_misfit change document.text ≡ None
    → nat_le (document.revision + length (steps_of change document.text)) document.limit ≡ true
    → Calls state (command.Edit change) (steps_of change document.text) (λ ps. noted_change (steps_along ps document.text) edits)
calls_change state document edits change is_of same fits enough =
    let editing = state.editing in
    let text = sym is_of.came.text in
    let none = change_fits state document change is_of fits enough in
    record {
      whole = ap (λ (j : Option Refusal). edited state (judged j editing (changed reply.Edited editing (steps_of change (text_of editing))))) none
          ∙ ap (λ (t : List (List ℕ)). edited state (carried reply.Edited editing (steps_of change t) (noted_change (steps_along (steps_of change t) t) editing.edits))) text
          ∙ ap (λ (e : Edits). edited state (carried reply.Edited editing (steps_of change document.text) (noted_change (steps_along (steps_of change document.text) document.text) e))) (sym same);
      part = λ n. ap (λ (t : List (List ℕ)). edited state (carried reply.Cut editing (take n (steps_of change t)) (noted_change (steps_along (take n (steps_of change t)) t) editing.edits))) text
          ∙ ap (λ (e : Edits). edited state (carried reply.Cut editing (take n (steps_of change document.text)) (noted_change (steps_along (take n (steps_of change document.text)) document.text) e))) (sym same);
    }

-- why an undo or a redo is refused
pub group_is_open : (editing : Editing) (groups : List (List UndoStep)) (ps : List Primitive) (depth : ℕ)
    → depth ≡ editing.edits.depth → 0 < depth → group_refusal editing groups ps ≡ Some (refusal.StillOpen depth)
group_is_open editing groups ps depth is some =
    let f : (editing.edits.depth == 0) ≡ false = ne_eqb editing.edits.depth 0 (λ zero. omega arith) in
    rw f (ap (λ (d : ℕ). Some (refusal.StillOpen d)) (sym is))

pub group_is_none : (editing : Editing) (groups : List (List UndoStep)) (ps : List Primitive) → editing.edits.depth ≡ 0
    → groups ≡ [] → group_refusal editing groups ps ≡ Some refusal.Nothing
group_is_none editing groups ps shut none =
    let t : (editing.edits.depth == 0) ≡ true = eq-eqb editing.edits.depth 0 shut in
    rw (t, none) refl

group_is : (editing : Editing) (groups : List (List UndoStep)) (ps : List Primitive) → editing.edits.depth ≡ 0
    → 0 < length groups → group_refusal editing groups ps ≡ full editing ps
group_is editing [] ps shut some = absurd (omega arith)
group_is editing (group ∷ groups) ps shut some =
    let t : (editing.edits.depth == 0) ≡ true = eq-eqb editing.edits.depth 0 shut in
    rw t refl

pub group_is_full : (state : State) (document : Document) (edits : Edits) (groups : List (List UndoStep)) (ps : List Primitive)
    → IsOf state document → edits ≡ state.editing.edits → edits.depth ≡ 0 → 0 < length groups
    → nat_le (document.revision + length ps) document.limit ≡ false
    → group_refusal state.editing groups ps ≡ Some (refusal.RevisionsFull document.revision)
group_is_full state document edits groups ps is_of same shut some less =
    group_is state.editing groups ps (sym (ap (λ (e : Edits). e.depth) same) ∙ shut) some ∙ full_is state document ps is_of less

group_fits : (state : State) (document : Document) (edits : Edits) (groups : List (List UndoStep)) (ps : List Primitive)
    → IsOf state document → edits ≡ state.editing.edits → edits.depth ≡ 0 → 0 < length groups
    → nat_le (document.revision + length ps) document.limit ≡ true → group_refusal state.editing groups ps ≡ None
group_fits state document edits groups ps is_of same shut some enough =
    group_is state.editing groups ps (sym (ap (λ (e : Edits). e.depth) same) ∙ shut) some ∙ full_not state document ps is_of enough

-- what comes of an undo or a redo of these primitives
abbrev pub moved : Direction → (ℕ → ℕ → ℕ → Reply) → Editing → List Primitive → EditReaction
moved direction told editing ps = carried told editing ps (gone direction (length ps) editing.edits)

pub group_reacts : (direction : Direction) (state : State) → react_command state (command_of direction)
    ≡ edited state (judged (group_refusal state.editing (groups_to direction state.editing.edits) (group_steps direction state.editing.edits))
    state.editing (moved direction reply.Edited state.editing (group_steps direction state.editing.edits)))
group_reacts Back state = refl
group_reacts Forth state = refl

pub group_cut : (direction : Direction) (state : State) (n : ℕ) → react_open state (command_of direction) (Some n)
    ≡ edited state (moved direction reply.Cut state.editing (take n (group_steps direction state.editing.edits)))
group_cut Back state n = refl
group_cut Forth state n = refl

-- a group is undone or redone
pub calls_group : (direction : Direction) (state : State) (document : Document) (edits : Edits) → IsOf state document
    → edits ≡ state.editing.edits → edits.depth ≡ 0 → 0 < length (groups_to direction edits)
    → nat_le (document.revision + length (group_steps direction edits)) document.limit ≡ true
    → Calls state (command_of direction) (group_steps direction edits) (λ ps. gone direction (length ps) edits)
calls_group direction state document edits is_of same shut some enough =
    let editing = state.editing in
    let ps = group_steps direction edits in
    let going : Edits → Option Refusal → EditReaction = λ e j. judged j editing (carried reply.Edited editing (group_steps direction e) (gone direction (length (group_steps direction e)) e)) in
    let none : group_refusal editing (groups_to direction edits) ps ≡ None =
    group_fits state document edits (groups_to direction edits) ps is_of same shut some enough in
    record {
      whole = group_reacts direction state
          ∙ ap (λ (e : Edits). edited state (going e (group_refusal editing (groups_to direction e) (group_steps direction e)))) (sym same)
          ∙ ap (λ (j : Option Refusal). edited state (going edits j)) none;
      part = λ n. group_cut direction state n
          ∙ ap (λ (e : Edits). edited state (carried reply.Cut editing (take n (group_steps direction e)) (gone direction (length (take n (group_steps direction e))) e))) (sym same);
    }

-- a change whose primitives are listed fits
pub listed_fits : (misfit : Option Misfit) (result : Result (List Primitive) StepsFault) (made : List Primitive)
    → ((m : Misfit) → (result ≡ Err (StepsFault.Misfit m)) ↔ (misfit ≡ Some m)) → result ≡ Ok made → misfit ≡ None
listed_fits None result made told is = refl
listed_fits (Some m) result made told is = let misfits = (told m).1 refl in absurd (cc)

some_group : (groups : List (List UndoStep)) → (groups ≡ [] → ⊥) → 0 < length groups
some_group [] none = absurd (none refl)
some_group (group ∷ groups) none = omega arith

-- there is a group, and no transaction is open, where neither is a cause
pub may_go : (depth : ℕ) (groups : List (List UndoStep)) → (0 < depth → ⊥) → (depth ≡ 0 → groups ≡ [] → ⊥)
    → (depth ≡ 0) × (0 < length groups)
may_go depth groups inside none =
    let shut : depth ≡ 0 = elim (cases_Bool (depth == 0)) [
      | inl t ↦ eqb-true depth 0 t
      | inr f ↦ let some : 0 < depth = omega (arith, eqb-false depth 0 f) in absurd (inside some)
    ] in
    (shut, some_group groups (none shut))

-- a success of which something holds is one
pub is_ok_from : (result : Result Step AllocError) (P : Step → Type 0) → IsOkAnd result P → IsOk result
is_ok_from (Ok step) P h = refl
is_ok_from (Err e) P h = absurd h

if_ok_from : (result : Result Step AllocError) (P : Step → Type 0) → IsOkAnd result P → IfOk result P
if_ok_from (Ok step) P h = h
if_ok_from (Err e) P h = absurd h

-- an undo or a redo that is refused for want of a group
pub Meets-no_group : (direction : Direction) (result : Result Step AllocError) (given : UndoFault) (document : Document) (edits now : Edits) → now ≡ edits
    → ((depth : ℕ) → given ≡ UndoFault.StillOpen depth → (depth ≡ edits.depth) × (0 < depth))
    → (given ≡ UndoFault.Nothing → (edits.depth ≡ 0) × (groups_to direction edits ≡ []))
    → ((depth : ℕ) → given ≡ UndoFault.StillOpen depth → IsOkAnd result (IsRefused (refusal.StillOpen depth)))
    → (given ≡ UndoFault.Nothing → IsOkAnd result (IsRefused refusal.Nothing))
    → (given ≡ UndoFault.NoMemory → IsErr result)
    → IfOk result (λ step. (state : State) → IsOf state document → edits ≡ state.editing.edits
    → Meets state (command_of direction) step document now state.jobs)
Meets-no_group direction result (UndoFault.StillOpen depth) document edits now kept opened none tells_open tells_none memory =
    if_ok result (IsRefused (refusal.StillOpen depth)) _
    (λ step refuses state is_of same.
    let at = opened depth refl in
    Meets-refused state (command_of direction) document now (refusal.StillOpen depth) step _
    (moved direction reply.Edited state.editing (group_steps direction state.editing.edits)) is_of (kept ∙ same) refuses
    (group_is_open state.editing (groups_to direction state.editing.edits) (group_steps direction state.editing.edits) depth
    (at.0 ∙ ap (λ (e : Edits). e.depth) same) at.1) (group_reacts direction state))
    (if_ok_from result _ (tells_open depth refl))
Meets-no_group direction result UndoFault.Nothing document edits now kept opened none tells_open tells_none memory =
    if_ok result (IsRefused refusal.Nothing) _
    (λ step refuses state is_of same.
    let at = none refl in
    Meets-refused state (command_of direction) document now refusal.Nothing step _
    (moved direction reply.Edited state.editing (group_steps direction state.editing.edits)) is_of (kept ∙ same) refuses
    (group_is_none state.editing (groups_to direction state.editing.edits) (group_steps direction state.editing.edits)
    (sym (ap (λ (e : Edits). e.depth) same) ∙ at.0) (sym (ap (groups_to direction) same) ∙ at.1)) (group_reacts direction state))
    (if_ok_from result _ (tells_none refl))
Meets-no_group direction result UndoFault.NoMemory document edits now kept opened none tells_open tells_none memory =
    IfOk-from_err result _ (memory refl)

-- a cause is none or some
pub none_some : (o : Option Misfit) (misfit : Misfit) → o ≡ None → o ≡ Some misfit → ⊥
none_some o misfit none some = cc
