-- In every session the groups fit the text, and the primitives are those of its transactions.
use Rattle.std.proofs.Common.{◌≡◌, ℕ, zero, suc, ◌+◌, ◌-◌, ◌<◌, ◌≤◌, ◌==◌, not, List, [], ◌∷◌, ◌++◌, length, take, All, Option, None, Some, refl, ap, sym, subst, ◌∙◌, inl, inr, arith, append-nil, append_assoc}
use Rattle.std.specs.Option.{option_map, option_or, option_to_list}
use Rattle.std.proofs.lemmas.Bool.{cases_Bool}
use Rattle.std.proofs.lemmas.List.{take_all, length-take-le}
use Rattle.std.proofs.lemmas.List.Concat.{flat_map-append}
use Rattle.std.proofs.lemmas.List.Elements.{All-nil, All-cons, All-head, All-tail, All-append, All-filter, All-take}
use Rattle.kte_text.specs.Units.{IsLine}
use Rattle.kte_text.specs.Texts.{IsText, line_at}
use Rattle.kte_text.specs.Primitives.{HasLine, FitInTurn, after_all, is_empty}
use Rattle.kte_text.specs.declared.loading.Loaded.{Loaded}
use Rattle.kte_text.specs.declared.primitive.Primitive.{Primitive}
use Rattle.kte_text.specs.declared.primitive.Primitive.TheVariants.{Wrap, Unwrap, Insert, Remove}
use Rattle.kte_text.specs.declared.primitive.Misfit.{Misfit}
use Rattle.kte_text.proofs.PrimitiveLemmas.{FitInTurn-append, after_all-append}
use Rattle.kte_place.specs.Ends.{Ends}
use Rattle.kte_place.specs.declared.place.Place.{Place}
use Rattle.kte_edit.specs.Steps.{IsChange, change_misfit, steps_of, further, insertion, removed_lines, removal, without_empty}
use Rattle.kte_edit.specs.declared.change.Change.{Change}
use Rattle.kte_edit.proofs.ChangeLemmas.{sound_change}
use Rattle.kte_undo.specs.Steps.{steps_along, redo_of}
use Rattle.kte_undo.specs.Groups.{Edits, last_of}
use Rattle.kte_undo.specs.declared.step.Step.{Step}
use Rattle.kte_command.specs.declared.command.Command.{Command}
use Rattle.kte_command.specs.declared.command.Command.TheVariants.{Edit, Begin, End, Undo, Redo, Check}
use Rattle.kte_core.specs.Editing.{Editing, EditReaction, text_of, judged, full, carried, not_open, change_refusal, group_refusal, changed, closing, noted_change, cut_reaction}
use Rattle.kte_core.specs.Groups.{Leads, GroupsFit, IsFilled, command_of, groups_to, group_steps, gone}
use Rattle.kte_core.specs.State.{State, Reaction, edited}
use Rattle.kte_core.specs.React.{react, react_by, react_command, cut_at, CutsBetween}
use Rattle.kte_core.specs.Replay.{beginning, replay, came_of, after_event, transactions, primitives_in, Answered}
use Rattle.kte_core.specs.Requests.{HoldsChange, IsWhole}
use Rattle.kte_core.specs.Shown.{react_open}
use Rattle.kte_core.specs.declared.edits.Direction.{Direction}
use Rattle.kte_core.specs.declared.edits.Direction.TheVariants.{Back, Forth}
use Rattle.kte_core.specs.declared.event.Event.{Event}
use Rattle.kte_core.specs.declared.reply.Reply.{Reply}
use Rattle.kte_core.specs.declared.reply.Reply.TheVariants as reply
use Rattle.kte_core.specs.declared.reply.Refusal.{Refusal}
use Rattle.kte_core.specs.declared.reply.Refusal.TheVariants as refusal
use Rattle.kte_core.specs.declared.request.Request.{Request}
use Rattle.kte_core.specs.declared.request.Request.TheVariants.{Cmd, Close, Take, Deliver, GiveBack, Outcome}
use Rattle.kte_core.proofs.GroupLemmas.{FitInTurn-take, Leads-text, Leads-back, Leads-forth, Leads-none, fit-begun, fit-ended, fits_change}
use Rattle.kte_core.proofs.EditLemmas.{moved, group_reacts, group_cut}
use Rattle.kte_core.proofs.UndoLemmas.{Going, group_fits_text, fits_gone, has_steps}
use Rattle.kte_core.proofs.CaseLemmas.{event_grows, parted-on}
use Rattle.kte_core.proofs.TransactionLemmas.{moves-by, IsCommand, quiet_unless, unless, within_open, no_cut, not_refused, no_end, open_unless, shut_unless, still, uncut}

-- the insertions of a change are lines
lines-further : (line column : ℕ) (lines : List (List ℕ)) → All IsLine lines → All HasLine (further line column lines)
lines-further line column [] whole = All-nil HasLine
lines-further line column (units ∷ lines) whole =
    let rest = lines-further (line + 1) (length units) lines (All-tail IsLine units lines whole) in
    let inserted = All-cons HasLine (Insert (line + 1) 0 units) (further (line + 1) (length units) lines) (All-head IsLine units lines whole) rest in
    All-cons HasLine (Wrap line column) (Insert (line + 1) 0 units ∷ further (line + 1) (length units) lines) tt inserted

lines-insertion : (place : Place) (lines : List (List ℕ)) → All IsLine lines → All HasLine (insertion place lines)
lines-insertion place [] whole = All-nil HasLine
lines-insertion place (units ∷ lines) whole =
    All-cons HasLine (Insert place.line place.column units) (further place.line (place.column + length units) lines) (All-head IsLine units lines whole)
    (lines-further place.line (place.column + length units) lines (All-tail IsLine units lines whole))

-- a removal and an unwrap insert none
and_remove : (line column count : ℕ) (ps : List Primitive) → All HasLine ps → All HasLine (Remove line column count ∷ ps)
and_remove line column count ps lines = All-cons HasLine (Remove line column count) ps tt lines

and_unwrap : (line : ℕ) (ps : List Primitive) → All HasLine ps → All HasLine (Unwrap line ∷ ps)
and_unwrap line ps lines = All-cons HasLine (Unwrap line) ps tt lines

lines-removed : (text : List (List ℕ)) (line count : ℕ) → All HasLine (removed_lines text line count)
lines-removed text line zero = All-nil HasLine
lines-removed text line (suc count) =
    and_remove (line + suc count) 0 (length (line_at text (line + suc count))) (Unwrap (line + suc count + 1) ∷ removed_lines text line count)
    (and_unwrap (line + suc count + 1) (removed_lines text line count) (lines-removed text line count))

lines-removal : (span : Ends) (text : List (List ℕ)) → All HasLine (removal span text)
lines-removal span text =
    let first = span.start.line in
    let between = removed_lines text first (span.end.line - first - 1) in
    let rest = length (line_at text first) - span.start.column in
    let last = Remove first span.start.column rest ∷ Unwrap (first + 1) ∷ [] in
    let end : All HasLine last =
    and_remove first span.start.column rest (Unwrap (first + 1) ∷ []) (and_unwrap (first + 1) [] (All-nil HasLine)) in
    elim (cases_Bool (first == span.end.line)) [
      | inl t ↦ rw t (and_remove first span.start.column (span.end.column - span.start.column) [] (All-nil HasLine))
      | inr f ↦ rw f (and_remove span.end.line 0 span.end.column (between ++ last)
          (All-append HasLine between last (lines-removed text first (span.end.line - first - 1)) end))
    ]

filled : (ps : List Primitive) → All HasLine ps → All HasLine (without_empty ps)
filled ps lines = All-filter (λ p. not (is_empty p)) HasLine ps lines

lines-steps : (change : Change) (text : List (List ℕ)) → IsChange change → All HasLine (steps_of change text)
lines-steps (Change.Wrap place) text whole = All-cons HasLine (Wrap place.line place.column) [] tt (All-nil HasLine)
lines-steps (Change.Unwrap line) text whole = and_unwrap line [] (All-nil HasLine)
lines-steps (Change.Insert place lines) text whole = filled (insertion place lines) (lines-insertion place lines whole.whole)
lines-steps (Change.Remove span) text whole = filled (removal span text) (lines-removal span text)
lines-steps (Change.Replace span lines) text whole =
    filled (removal span text ++ insertion span.start lines)
    (All-append HasLine (removal span text) (insertion span.start lines) (lines-removal span text) (lines-insertion span.start lines whole.1.whole))

-- What holds of what is edited: the primitives fit the loaded text in turn, and the groups fit the present one
pub record IsSteady (editing : Editing) : Type 0 where
  pub whole : IsText editing.loaded.text
  pub turn : FitInTurn editing.trail editing.loaded.text
  pub fit : GroupsFit editing.edits (text_of editing)

steady-made : (editing : Editing) (ps : List Primitive) (edits : Edits) → IsSteady editing → FitInTurn ps (text_of editing)
    → GroupsFit edits (after_all ps (text_of editing)) → IsSteady (record editing { trail = editing.trail ++ ps; edits = edits })
steady-made editing ps edits steady turn fit = record {
  whole = steady.whole;
  turn = FitInTurn-append editing.trail ps editing.loaded.text steady.turn turn;
  fit = subst (λ (t : List (List ℕ)). GroupsFit edits t) (sym (after_all-append editing.trail ps editing.loaded.text)) fit;
}

steady-judged : (judgement : Option Refusal) (editing : Editing) (made : EditReaction) → IsSteady editing
    → (judgement ≡ None → IsSteady made.after) → IsSteady (judged judgement editing made).after
steady-judged None editing made steady h = h refl
steady-judged (Some cause) editing made steady h = steady

-- a change that is not refused fits
fits_unless : (misfit : Option Misfit) (past : Option Refusal) → option_or (option_map refusal.Misfit misfit) past ≡ None → misfit ≡ None
fits_unless None past none = refl
fits_unless (Some misfit) past none = absurd (cc)

steady-first : (told : ℕ → ℕ → ℕ → Reply) (editing : Editing) (change : Change) (n : ℕ) → IsSteady editing → IsChange change
    → change_misfit change (text_of editing) ≡ None → IsSteady (changed told editing (take n (steps_of change (text_of editing)))).after
steady-first told editing change n steady whole none =
    let text = text_of editing in
    let all = steps_of change text in
    let ps = take n all in
    let is_text = Leads-text editing.edits.current steady.fit.opened text steady.fit.current in
    let turn = (sound_change change text is_text whole none).fit in
    let lines = All-take HasLine n all (lines-steps change text whole) in
    steady-made editing ps (noted_change (steps_along ps text) editing.edits) steady (FitInTurn-take n all text turn)
    (fits_change editing.edits (noted_change (steps_along ps text) editing.edits) text (after_all ps text) all n steady.fit turn lines refl refl)

steady-changed : (told : ℕ → ℕ → ℕ → Reply) (editing : Editing) (change : Change) → IsSteady editing → IsChange change
    → change_misfit change (text_of editing) ≡ None → IsSteady (changed told editing (steps_of change (text_of editing))).after
steady-changed told editing change steady whole none =
    let all = steps_of change (text_of editing) in
    subst (λ (ps : List Primitive). IsSteady (changed told editing ps).after) (take_all (length all) all (omega arith))
    (steady-first told editing change (length all) steady whole none)

-- there is a group where an undo or a redo is not refused
group_unless : (editing : Editing) (groups : List (List Step)) (ps : List Primitive) → group_refusal editing groups ps ≡ None → 0 < length groups
group_unless editing [] ps none =
    elim (cases_Bool (editing.edits.depth == 0)) [
      | inl t ↦ let is_none = rw t at none in absurd (cc)
      | inr f ↦ let is_open = rw f at none in absurd (cc)
    ]
group_unless editing (group ∷ groups) ps none = omega arith

going_of : (direction : Direction) (editing : Editing) → IsSteady editing
    → group_refusal editing (groups_to direction editing.edits) (group_steps direction editing.edits) ≡ None
    → Going direction editing.edits (text_of editing) (group_steps direction editing.edits)
going_of direction editing steady none = record {
  fit = steady.fit;
  shut = shut_unless editing (groups_to direction editing.edits) (group_steps direction editing.edits) none;
  some = group_unless editing (groups_to direction editing.edits) (group_steps direction editing.edits) none;
  all = refl;
}

steady-moved : (direction : Direction) (told : ℕ → ℕ → ℕ → Reply) (editing : Editing) (n : ℕ) → IsSteady editing
    → group_refusal editing (groups_to direction editing.edits) (group_steps direction editing.edits) ≡ None
    → 0 < n → n ≤ length (group_steps direction editing.edits)
    → IsSteady (moved direction told editing (take n (group_steps direction editing.edits))).after
steady-moved direction told editing n steady none some within =
    let all = group_steps direction editing.edits in
    let ps = take n all in
    let going = going_of direction editing steady none in
    let long : length ps ≡ n = length-take-le n all within in
    steady-made editing ps (gone direction (length ps) editing.edits) steady
    (FitInTurn-take n all (text_of editing) (group_fits_text direction editing.edits (text_of editing) all going))
    (fits_gone direction editing.edits (gone direction (length ps) editing.edits) (text_of editing) (after_all ps (text_of editing)) all n going some within
    (ap (λ (k : ℕ). gone direction k editing.edits) long) refl)

-- what comes of an undo or a redo
steady-go : (direction : Direction) (state : State) → IsSteady state.editing → IsSteady (react_command state (command_of direction)).after.editing
steady-go direction state steady =
    let editing = state.editing in
    let all = group_steps direction editing.edits in
    subst (λ (r : Reaction). IsSteady r.after.editing) (sym (group_reacts direction state))
    (steady-judged (group_refusal editing (groups_to direction editing.edits) all) editing (moved direction reply.Edited editing all) steady
    (λ none.
    let some = (has_steps direction editing.edits (text_of editing) all (going_of direction editing steady none)).some in
    subst (λ (ps : List Primitive). IsSteady (moved direction reply.Edited editing ps).after) (take_all (length all) all (omega arith))
    (steady-moved direction reply.Edited editing (length all) steady none some (omega arith))))

-- .. also where memory runs out
steady-go_cut : (direction : Direction) (state : State) (n : ℕ) → IsSteady state.editing → 0 < n
    → n < length (react_command state (command_of direction)).made
    → IsSteady (react_open state (command_of direction) (Some n)).after.editing
steady-go_cut direction state n steady some within =
    let editing = state.editing in
    let all = group_steps direction editing.edits in
    let made = moved direction reply.Edited editing all in
    let judgement = group_refusal editing (groups_to direction editing.edits) all in
    let few : n < length (judged judgement editing made).made = subst (λ (r : Reaction). n < length r.made) (group_reacts direction state) within in
    let none = not_refused judgement editing made n few in
    let inside : n < length all = subst (λ (j : Option Refusal). n < length (judged j editing made).made) none few in
    subst (λ (r : Reaction). IsSteady r.after.editing) (sym (group_cut direction state n))
    (steady-moved direction reply.Cut editing n steady none some (omega arith))

-- each reaction keeps that
steady-react : (state : State) (command : Command) → HoldsChange command → IsSteady state.editing → IsSteady (react_command state command).after.editing
steady-react state (Edit change) whole steady =
    let text = text_of state.editing in
    steady-judged (change_refusal state.editing change) state.editing (changed reply.Edited state.editing (steps_of change text)) steady
    (λ none. steady-changed reply.Edited state.editing change steady whole
    (fits_unless (change_misfit change text) (full state.editing (steps_of change text)) none))
steady-react state Begin whole steady =
    record { whole = steady.whole; turn = steady.turn; fit = fit-begun state.editing.edits (text_of state.editing) steady.fit }
steady-react state End whole steady =
    steady-judged (not_open state.editing.edits.depth) state.editing (closing state.editing) steady
    (λ none. record {
      whole = steady.whole;
      turn = steady.turn;
      fit = fit-ended state.editing.edits (text_of state.editing) (open_unless state.editing.edits.depth none) steady.fit;
    })
steady-react state Undo whole steady = steady-go Back state steady
steady-react state Redo whole steady = steady-go Forth state steady
steady-react state (Check rule) whole steady = steady
steady-react state command whole steady = subst (λ (e : Editing). IsSteady e) (sym (still state command tt).editing) steady

-- .. also where memory runs out
steady-cut : (state : State) (command : Command) (n : ℕ) → HoldsChange command → IsSteady state.editing → 0 < n
    → n < length (react_command state command).made → IsSteady (edited state (cut_reaction state.editing command n)).after.editing
steady-cut state (Edit change) n whole steady some within =
    let text = text_of state.editing in
    let none = not_refused (change_refusal state.editing change) state.editing (changed reply.Edited state.editing (steps_of change text)) n within in
    steady-first reply.Cut state.editing change n steady whole (fits_unless (change_misfit change text) (full state.editing (steps_of change text)) none)
steady-cut state Begin n whole steady some within = absurd (omega arith)
steady-cut state End n whole steady some within = absurd (no_end state.editing n within)
steady-cut state Undo n whole steady some within = steady-go_cut Back state n steady some within
steady-cut state Redo n whole steady some within = steady-go_cut Forth state n steady some within
steady-cut state (Check rule) n whole steady some within = absurd (omega arith)
steady-cut state command n whole steady some within = absurd (uncut state (react_command state command) n (still state command tt).made within)

steady-quiet : (state : State) (seat : ℕ) (request : Request) → (IsCommand request → ⊥) → IsSteady state.editing
    → IsSteady (react state seat request).after.editing
steady-quiet state seat request none steady = subst (λ (e : Editing). IsSteady e) (sym (quiet_unless state seat request none).editing) steady

steady-by : (state : State) (seat : ℕ) (request : Request) (o : Option ℕ) → IsWhole request → IsSteady state.editing
    → CutsBetween (react state seat request).made o → IsSteady (react_by state seat request o).after.editing
steady-by state seat (Cmd command) None whole steady cut =
    unless (λ (r : Reaction). IsSteady r.after.editing) state (react_command state command) steady (steady-react state command whole steady)
steady-by state seat (Cmd command) (Some n) whole steady cut =
    steady-cut state command n whole steady cut.0 (within_open state (react_command state command) n cut.1)
steady-by state seat Close None whole steady cut = steady-quiet state seat Close (λ is. is) steady
steady-by state seat Take None whole steady cut = steady-quiet state seat Take (λ is. is) steady
steady-by state seat (Deliver job findings) None whole steady cut = steady-quiet state seat (Deliver job findings) (λ is. is) steady
steady-by state seat (GiveBack job) None whole steady cut = steady-quiet state seat (GiveBack job) (λ is. is) steady
steady-by state seat (Outcome call ok) None whole steady cut = steady
steady-by state seat Close (Some n) whole steady cut = absurd (no_cut state seat Close n (λ is. is) cut.1)
steady-by state seat Take (Some n) whole steady cut = absurd (no_cut state seat Take n (λ is. is) cut.1)
steady-by state seat (Deliver job findings) (Some n) whole steady cut = absurd (no_cut state seat (Deliver job findings) n (λ is. is) cut.1)
steady-by state seat (GiveBack job) (Some n) whole steady cut = absurd (no_cut state seat (GiveBack job) n (λ is. is) cut.1)
steady-by state seat (Outcome call ok) (Some n) whole steady cut = absurd (no_cut state seat (Outcome call ok) n (λ is. is) cut.1)

pub steady-replay : (state : State) (events : List Event) → All (λ event. IsWhole event.request) events → IsSteady state.editing
    → Answered state events → IsSteady (replay state events).editing
steady-replay state [] whole steady answered = steady
steady-replay state (event ∷ events) whole steady answered =
    let P : Event → Type 0 = λ event. IsWhole event.request in
    steady-replay (after_event state event) events (All-tail P event events whole)
    (steady-by state event.seat event.request (cut_at event.reply) (All-head P event events whole) steady answered.0.cut) answered.1

-- at first nothing is made
pub steady-beginning : (loaded : Loaded) (limit : ℕ) → IsText loaded.text → IsSteady (beginning loaded limit).editing
steady-beginning loaded limit whole = record {
  whole = whole;
  turn = tt;
  fit = record {
    oldest = loaded.text;
    opened = loaded.text;
    newest = loaded.text;
    undo = Leads-none loaded.text whole;
    current = Leads-none loaded.text whole;
    redo = Leads-none loaded.text whole;
    undo_filled = All-nil IsFilled;
    redo_filled = All-nil IsFilled;
    shut = λ zero. refl;
  };
}

-- the primitives made before some events, and those that come of them
pub parted-replay : (state : State) (events : List Event) (done : List Primitive) → All (λ event. IsWhole event.request) events
    → IsSteady state.editing → Answered state events → state.editing.trail ≡ done ++ redo_of state.editing.edits.current
    → (replay state events).editing.trail
    ≡ (done ++ primitives_in (transactions state events)) ++ redo_of (replay state events).editing.edits.current
parted-replay state [] done whole steady answered is =
    is ∙ ap (λ (t : List Primitive). t ++ redo_of state.editing.edits.current) (sym (append-nil done))
parted-replay state (event ∷ events) done whole steady answered is =
    let P : Event → Type 0 = λ event. IsWhole event.request in
    let came = came_of state event in
    let first = option_to_list came.finished in
    let next = steady-by state event.seat event.request (cut_at event.reply) (All-head P event events whole) steady answered.0.cut in
    let same = (event_grows state event).loaded in
    let turn : FitInTurn came.after.editing.trail state.editing.loaded.text =
    subst (λ (l : Loaded). FitInTurn came.after.editing.trail l.text) same next.turn in
    let moves = moves-by state event.seat event.request (cut_at event.reply) (λ none. ap redo_of (steady.fit.shut none)) answered.0.cut turn in
    let rest = parted-replay (after_event state event) events (done ++ primitives_in first) (All-tail P event events whole) next answered.1
    (parted-on state event done moves is) in
    let later = transactions (after_event state event) events in
    let joined : (done ++ primitives_in first) ++ primitives_in later ≡ done ++ primitives_in (first ++ later) =
    append_assoc done (primitives_in first) (primitives_in later)
    ∙ ap (λ (t : List Primitive). done ++ t) (sym (flat_map-append (λ (t : List Primitive). t) first later)) in
    rest ∙ ap (λ (t : List Primitive). t ++ redo_of (replay (after_event state event) events).editing.edits.current) joined

-- a command that is not refused leads to the text after its primitives
text_made : (judgement : Option Refusal) (editing : Editing) (ps : List Primitive) (edits : Edits) (steps revision depth : ℕ)
    → (judged judgement editing (carried reply.Edited editing ps edits)).reply ≡ reply.Edited steps revision depth
    → text_of (judged judgement editing (carried reply.Edited editing ps edits)).after ≡ after_all ps (text_of editing)
text_made None editing ps edits steps revision depth is = after_all-append editing.trail ps editing.loaded.text
text_made (Some cause) editing ps edits steps revision depth is = absurd (cc)

-- .. and so an undo and a redo
gone_text : (direction : Direction) (state : State) (seat steps revision depth : ℕ)
    → (react state seat (Cmd (command_of direction))).reply ≡ reply.Edited steps revision depth
    → text_of (react state seat (Cmd (command_of direction))).after.editing
    ≡ after_all (group_steps direction state.editing.edits) (text_of state.editing)
gone_text direction state seat steps revision depth =
    let editing = state.editing in
    let ps = group_steps direction editing.edits in
    let P : Reaction → Type 0 = λ r. r.reply ≡ reply.Edited steps revision depth → text_of r.after.editing ≡ after_all ps (text_of editing) in
    unless P state (react_command state (command_of direction)) (λ is. absurd (cc))
    (subst P (sym (group_reacts direction state))
    (λ is. text_made (group_refusal editing (groups_to direction editing.edits) ps) editing ps (gone direction (length ps) editing.edits) steps revision depth is))

pub undone_text : (state : State) (seat : ℕ) (from : List (List ℕ)) (steps revision depth : ℕ)
    → Leads (last_of state.editing.edits.undo) from (text_of state.editing)
    → (react state seat (Cmd Undo)).reply ≡ reply.Edited steps revision depth
    → text_of (react state seat (Cmd Undo)).after.editing ≡ from
undone_text state seat from steps revision depth leads is =
    gone_text Back state seat steps revision depth is ∙ (Leads-back (last_of state.editing.edits.undo) from (text_of state.editing) leads).text

pub redone_text : (state : State) (seat : ℕ) (to : List (List ℕ)) (steps revision depth : ℕ)
    → Leads (last_of state.editing.edits.redo) (text_of state.editing) to
    → (react state seat (Cmd Redo)).reply ≡ reply.Edited steps revision depth
    → text_of (react state seat (Cmd Redo)).after.editing ≡ to
redone_text state seat to steps revision depth leads is =
    gone_text Forth state seat steps revision depth is ∙ (Leads-forth (last_of state.editing.edits.redo) (text_of state.editing) to leads).text
