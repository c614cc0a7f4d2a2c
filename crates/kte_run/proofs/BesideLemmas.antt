-- The editor at a desk: between two of its requests come events of others, which leave all that it keeps.
use Rattle.std.proofs.Common.{◌≡◌, ◌∙◌, ℕ, ◌+◌, ◌<◌, ◌≤◌, Bool, true, false, All, List, [], ◌∷◌, ◌++◌, length, Option, Some, None, IfSome, IsSome, Result, Ok, Err, IfOk, refl, ap, sym, subst, append_assoc, append-nil, arith, length-append}
use Rattle.std.proofs.lemmas.List.Elements.{All-nil, All-push}
use Rattle.std.specs.Prelude.{IsOk, OnErr, OnOk}
use Rattle.std.specs.List.{AllByRecursion}
use Rattle.std.proofs.lemmas.Grind.{merely}
use mathlib.Core.Logic.{∥∥₁_elim}
use denote.Struct.Props as logic
use Rattle.kte_text.specs.Primitives.{FitInTurn, HasLine}
use Rattle.kte_text.specs.declared.primitive.Primitive.{Primitive}
use Rattle.kte_turn.specs.Known.{events_of, news}
use Rattle.kte_turn.proofs.StoryLemmas.{events_of-append, news-append, nil_from_length}
use Rattle.kte_swap.specs.Swap.{HasRecord, SwapView}
use Rattle.kte_swap.specs.Guards.{FitAfter, IsFileOf, Stands}
use Rattle.kte_swap.specs.declared.causes.SwapState.TheVariants.{Guarded}
use Rattle.kte_command.specs.declared.command.Command.{Command}
use Rattle.kte_script.specs.declared.TheConstants.{MAX_COMMANDS}
use Rattle.kte_core.specs.Editing.{Editing, saved_form}
use Rattle.kte_core.specs.State.{State}
use Rattle.kte_core.specs.React.{cut_at}
use Rattle.kte_core.specs.Replay.{IsAnswered, IsLegal, Legal, after_event, came_of, replay}
use Rattle.kte_core.specs.declared.event.Event.{Event}
use Rattle.kte_core.specs.declared.reply.Reply.{Reply}
use Rattle.kte_core.specs.declared.request.OutsideCall.TheVariants as call
use Rattle.kte_core.specs.declared.request.Request.{Request}
use Rattle.kte_core.proofs.JournalLemmas.{EachIn-back, EachIn-front, EachIn-last, replay-append}
use Rattle.kte_desk.specs.Calls.{Adds, AddsNone, AreMade, MadeIn, Turns}
use Rattle.kte_desk.specs.Schedule.{Due, IsSettled, asked_in, lost_after, nothing}
use Rattle.kte_desk.specs.Seen.{FromOrigin, Sees, SeesState, first_state, seat_of, seen_state}
use Rattle.kte_desk.specs.Serving.{own}
use Rattle.kte_desk.specs.declared.beginning.Beginning.{Beginning}
use Rattle.kte_run.specs.declared.editor.Told.{Told}
use Rattle.kte_run.specs.declared.status.Status.{Status}
use Rattle.kte_run.specs.Editor.{Follows, IsAt, IsOwn, IsTold, Part, asked, call_after, current_after, current_before, depth_told, finished_after, is_lost, lost_with, next_of, part_of, work}
use Rattle.kte_run.specs.Alone.{Asking, GoesOn, due_left}
use Rattle.kte_run.specs.Beside.{HasEdited, HasRequests, IsLater, IsNew, Knows}
use Rattle.kte_run.specs.Calls.{CountsTold, SavedWith, file_told, is_saved, told_of, transactions_told}
use Rattle.kte_run.specs.Checked.{IsEditorEvent}
use Rattle.kte_run.specs.Outcomes.{Begins}
use Rattle.kte_run.specs.Run.{Outer}
use Rattle.kte_run.proofs.ApartLemmas.{Same-apart}
use Rattle.kte_run.proofs.AskLemmas.{Asking-asked, Asking-more, Asking-none, Asking-ordered, keeps-asked, length-asked, next-by, none-closed, none-owed, work-less}
use Rattle.kte_run.proofs.CountLemmas.{Counting, Counting-counted, Counting-ended, Counting-ending, Counting-more, Counting-none, Counting-same, Ends, reads-more}
use Rattle.kte_run.proofs.FailLemmas.{work-fails}
use Rattle.kte_run.proofs.FinishLemmas.{heard-parts}
use Rattle.kte_run.proofs.KeepLemmas.{Keeping, Keeping-keeps, Keeping-more, Keeping-none, Keeping-same, Leaving}
use Rattle.kte_run.proofs.OthersLemmas.{Asking-others, apart-others, asked_in-editor, keeps-others}
use Rattle.kte_run.proofs.OwnLemmas.{NoneOf, events_of-others, none_of}
use Rattle.kte_run.proofs.SmallLemmas.{grown-records, told-self, told-then}

-- ---- what the editor keeps

-- The editor has made its requests so far, in order, with these events of its own, and what it has
-- seen tells what the disk counts and holds
pub record AskingBeside (commands : List Command) (swap : SwapView) (first : State) (seen own : List Event) (part : Part) (before now : Outer)
    : Type 0 where
  pub legal : Legal first seen
  pub mine : events_of seat_of 0 seen ≡ own
  pub calls : All IsEditorEvent own
  pub asks : Asking commands first (replay first seen) seen part
  pub counting : Counting seen part before.faults now.faults
  pub keeping : (file : List ℕ) → Begins file first.editing.loaded swap before.moments
      → Keeping file first (replay first seen) seen part now.moments

-- .. by what its pass knows
abbrev pub IsAsking : List Command → SwapView → Sees → Part → Outer → Outer → Type 0
IsAsking commands swap sees part before now =
    FromOrigin sees (λ origin. AskingBeside commands swap (first_state origin) sees.seen sees.own part before now)

-- nothing was asked for yet
beside-none : (commands : List Command) (swap : SwapView) (origin : Beginning) (part : Part) (disk : Outer) → part ≡ part_of commands swap
    → swap.state ≡ Guarded → AskingBeside commands swap (first_state origin) [] [] part disk disk
beside-none commands swap origin part disk is guarded =
    let first : State = first_state origin in
    record {
      legal = tt;
      mine = refl;
      calls = All-nil IsEditorEvent;
      asks = Asking-none commands first swap part refl refl refl is guarded;
      counting = Counting-none [] commands swap part disk.faults refl is guarded;
      keeping = λ file begins. Keeping-none file first [] commands swap part disk.moments refl is refl begins;
    }

pub IsAsking-none : (commands : List Command) (swap : SwapView) (sees : Sees) (part : Part) (disk : Outer) → part ≡ part_of commands swap
    → swap.state ≡ Guarded → IsNew sees → IsAsking commands swap sees part disk disk
IsAsking-none commands swap sees part disk is guarded new origin from =
    subst (λ (events : List Event). AskingBeside commands swap (first_state origin) events sees.own part disk disk) (sym new.seen)
    (subst (λ (events : List Event). AskingBeside commands swap (first_state origin) [] events part disk disk) (sym new.own)
    (beside-none commands swap origin part disk is guarded))

-- ---- events of others

beside-others : (commands : List Command) (swap : SwapView) (first : State) (seen more own : List Event) (part : Part) (before now : Outer)
    → Legal first (seen ++ more) → NoneOf 0 more → AskingBeside commands swap first seen own part before now
    → AskingBeside commands swap first (seen ++ more) own part before now
beside-others commands swap first seen more own part before now legal others asking =
    let later = EachIn-back IsLegal first seen more legal in
    let keeps = keeps-others (replay first seen) more later others in
    let same = Same-apart first seen more (apart-others (replay first seen) more later others) in
    let editing : (replay first (seen ++ more)).editing ≡ (replay first seen).editing =
    ap (λ (s : State). s.editing) (replay-append first seen more) ∙ keeps.editing in
    record {
      legal = legal;
      mine = events_of-append seat_of 0 seen more
          ∙ ap (λ (es : List Event). events_of seat_of 0 seen ++ es) (events_of-others 0 more others)
          ∙ append-nil (events_of seat_of 0 seen)
          ∙ asking.mine;
      calls = asking.calls;
      asks = Asking-others commands first part seen more legal others asking.asks;
      counting = Counting-same first seen (seen ++ more) part before.faults now.faults same asking.counting;
      keeping = λ file begins. Keeping-same file first (replay first seen) (replay first (seen ++ more)) seen (seen ++ more) part now.moments same editing
          (asking.keeping file begins);
    }

-- ---- a request of its own

-- The editor has heard all of a reply
pub record Heard (answer : Reply) (made : List Primitive) (mid later : Part) : Type 0 where
  pub whole : cut_at answer ≡ None
  pub follows : (before : Part) (state : State) (lost : Bool) (due : Due) (request : Request) → mid ≡ asked before
      → next_of before ≡ Some request → IsAt state lost due before → IsAnswered state (own request answer)
      → made ≡ (came_of state (own request answer)).made
      → FitInTurn (after_event state (own request answer)).editing.trail state.editing.loaded.text
      → Follows state lost due (own request answer) before later

-- .. and has made the call of the disk that it calls for
pub record Hears (answer : Reply) (made : List Primitive) (form : List ℕ) (mid later : Part) (now next : Outer) : Type 0 where
  pub heard : Heard answer made mid later
  pub rest : later ≡ record mid {
    depth = depth_told answer mid.depth;
    current = current_after (call_after answer mid.asking) (depth_told answer mid.depth) (current_before made mid);
    owed = later.owed;
    swap = later.swap;
    replace_failed = later.replace_failed;
  }
  pub lost : is_lost later.swap.state ≡ lost_with (is_lost mid.swap.state) later.owed
  pub faults : CountsTold later.owed (is_lost mid.swap.state) mid.replace_failed later.replace_failed now.faults next.faults
  pub leaves : Leaving mid.swap later (call_after answer mid.asking) form (finished_after answer made mid) now.moments next.moments

-- what the part makes of a reply that it has heard: fewer requests are left
record Stepped (commands : List Command) (first : State) (seen : List Event) (part later : Part) (event : Event) : Type 0 where
  answered : IsAnswered (replay first seen) event
  follows : Follows (replay first seen) (lost_after false seen) (due_left first nothing seen) event part later
  asks : Asking commands first (replay first (seen ++ event ∷ [])) (seen ++ event ∷ []) later
  less : work later + 1 ≤ work part

stepped : (commands : List Command) (first : State) (seen : List Event) (part mid later : Part) (request : Request) (answer : Reply)
    (made : List Primitive) → Asking commands first (replay first seen) seen part → Legal first (seen ++ own request answer ∷ [])
    → next_of part ≡ Some request → mid ≡ asked part → IsOwn request → MadeIn (replay first seen) (own request answer) made
    → Heard answer made mid later → Stepped commands first seen part later (own request answer)
stepped commands first seen part mid later request answer made asks legal next_is mid_is own_is was heard =
    let event : Event = own request answer in
    let state : State = replay first seen in
    let lost : Bool = lost_after false seen in
    let due : Due = due_left first nothing seen in
    let answered = (EachIn-last IsLegal first seen event legal).answered in
    let follows = heard.follows part state lost due request mid_is next_is asks.at answered was.same was.fit in
    record {
      answered = answered;
      follows = follows;
      asks = subst (λ (s : State). Asking commands first s (seen ++ event ∷ []) later) (sym (replay-append first seen (event ∷ [])))
          (Asking-more commands first state seen part later request answer asks
          (record { next_is = next_is; own_is = own_is; answered = answered; whole = heard.whole }) follows);
      less = work-less state lost due request answer part later next_is heard.whole answered follows;
    }

beside-own : (commands : List Command) (swap : SwapView) (first : State) (seen mine : List Event) (part mid later : Part) (request : Request)
    (answer : Reply) (made : List Primitive) (form : List ℕ) (before now next : Outer)
    → AskingBeside commands swap first seen mine part before now → Legal first (seen ++ own request answer ∷ [])
    → next_of part ≡ Some request → mid ≡ asked part → IsOwn request → MadeIn (replay first seen) (own request answer) made
    → (call_after answer mid.asking ≡ call.Save → form ≡ saved_form (after_event (replay first seen) (own request answer)).editing)
    → Hears answer made form mid later now next
    → AskingBeside commands swap first (seen ++ own request answer ∷ []) (mine ++ own request answer ∷ []) later before next
beside-own commands swap first seen mine part mid later request answer made form before now next asking legal next_is mid_is own_is was form_is hears =
    let event : Event = own request answer in
    let state : State = replay first seen in
    let asks = asking.asks in
    let step = stepped commands first seen part mid later request answer made asks legal next_is mid_is own_is was hears.heard in
    let kept = keeps-asked part mid mid_is in
    let by = next-by part request next_is in
    record {
      legal = legal;
      mine = events_of-append seat_of 0 seen (event ∷ []) ∙ ap (λ (es : List Event). es ++ event ∷ []) asking.mine;
      calls = All-push IsEditorEvent mine event asking.calls (own_is, hears.heard.whole);
      asks = step.asks;
      counting = Counting-more seen part mid later request answer before.faults now.faults next.faults asking.counting by asks.at.lost kept hears.lost
          hears.faults;
      keeping = λ file begins. subst (λ (s : State). Keeping file first s (seen ++ event ∷ []) later next.moments)
          (sym (replay-append first seen (event ∷ [])))
          (Keeping-more file first seen state part later (lost_after false seen) (due_left first nothing seen) request answer made
          (finished_after answer made mid) (call_after answer mid.asking) form mid.swap now.moments next.moments (asking.keeping file begins) refl by
          asks.at step.follows step.answered hears.heard.whole was.same was.fit was.to (heard-parts answer made part mid later kept hears.rest) form_is
          kept.swap hears.leaves);
    }

-- ---- what is new in a turn

-- of the events that are new before an own one, all are of others
others-before : (seen more now : List Event) (event : Event) → event.seat ≡ 0 → now ≡ (seen ++ more) ++ event ∷ []
    → events_of seat_of 0 (news seen now) ≡ event ∷ [] → NoneOf 0 more
others-before seen more now event mine last only =
    let new : news seen now ≡ more ++ event ∷ [] =
    ap (news seen) (last ∙ append_assoc seen more (event ∷ [])) ∙ news-append seen (more ++ event ∷ []) in
    let one : events_of seat_of 0 (event ∷ []) ≡ event ∷ [] = rw mine refl in
    let all : events_of seat_of 0 more ++ event ∷ [] ≡ event ∷ [] =
    ap (λ (es : List Event). events_of seat_of 0 more ++ es) (sym one)
    ∙ sym (events_of-append seat_of 0 more (event ∷ [])) ∙ ap (events_of seat_of 0) (sym new) ∙ only in
    none_of 0 more (nil_from_length (events_of seat_of 0 more)
    (omega (arith, ap length all, length-append (events_of seat_of 0 more) (event ∷ []))))

-- .. and of those after which there is none, all are
others-all : (seen more now : List Event) → seen ++ more ≡ now → events_of seat_of 0 (news seen now) ≡ [] → NoneOf 0 more
others-all seen more now is none =
    none_of 0 more (ap (events_of seat_of 0) (sym (ap (news seen) (sym is) ∙ news-append seen more)) ∙ none)

same-origin : (before after : Sees) → Turns before after → after.origin ≡ before.origin
same-origin before after turns = ap (λ (s : Sees). s.origin) turns.same

-- A turn that made no event of the editor: those of others came
record Passed (first : State) (seen now : List Event) : Type 0 where
  more : List Event
  last : seen ++ more ≡ now
  others : NoneOf 0 more
  legal : Legal first (seen ++ more)

passed : (origin : Beginning) (sees later : Sees) → sees.seat ≡ 0 → Turns sees later → AddsNone sees later → later.origin ≡ Some origin
    → Passed (first_state origin) sees.seen later.seen
passed origin sees later seat turns adds from = record {
  more = turns.seen.0;
  last = turns.seen.1;
  others = others-all sees.seen turns.seen.0 later.seen turns.seen.1
      (subst (λ (n : ℕ). events_of seat_of n (news sees.seen later.seen) ≡ []) seat adds.none);
  legal = subst (Legal (first_state origin)) (sym turns.seen.1) (turns.legal origin from);
}

-- .. and one that made this event, after those of others
record Turned (first : State) (seen now : List Event) (event : Event) : Type 0 where
  more : List Event
  last : now ≡ (seen ++ more) ++ event ∷ []
  others : NoneOf 0 more
  legal : Legal first ((seen ++ more) ++ event ∷ [])

turned : (origin : Beginning) (sees later : Sees) (request : Request) (answer : Reply) → Turns sees later → Adds sees later (own request answer)
    → later.origin ≡ Some origin → Turned (first_state origin) sees.seen later.seen (own request answer)
turned origin sees later request answer turns adds from =
    let event : Event = own request answer in
    let more : List Event = adds.seen.0 in
    let last : later.seen ≡ (sees.seen ++ more) ++ event ∷ [] = adds.last ∙ ap (λ (es : List Event). es ++ event ∷ []) (sym adds.seen.1) in
    record {
      more = more;
      last = last;
      others = others-before sees.seen more later.seen event refl last
          (subst (λ (n : ℕ). events_of seat_of n (news sees.seen later.seen) ≡ event ∷ []) (sym adds.seat) adds.only);
      legal = subst (Legal (first_state origin)) last (turns.legal origin from);
    }

-- The editor's next request was made in a turn, and these primitives for it
pub record Requests (sees later : Sees) (part mid : Part) (request : Request) (answer : Reply) (made : List Primitive) : Type 0 where
  pub turns : Turns sees later
  pub adds : Adds sees later (own request answer)
  pub are_made : AreMade later (own request answer) made
  pub next_is : next_of part ≡ Some request
  pub mid_is : mid ≡ asked part
  pub own_is : IsOwn request

-- the seat is the editor's
pub seat-of : (sees later : Sees) (part mid : Part) (request : Request) (answer : Reply) (made : List Primitive)
    → Requests sees later part mid request answer made → later.seat ≡ 0
seat-of sees later part mid request answer made requests = ap (λ (s : Sees). s.seat) requests.turns.same ∙ sym requests.adds.seat

-- what was made is what records can have
pub made-records-of : (sees later : Sees) (part mid : Part) (request : Request) (answer : Reply) (made : List Primitive)
    → Requests sees later part mid request answer made → IsSome later.origin → All HasLine made → AllByRecursion HasRecord made
made-records-of sees later part mid request answer made requests some has = by later.origin refl some where
  by : (o : Option Beginning) → later.origin ≡ o → IsSome o → AllByRecursion HasRecord made
  by None is none = absurd (cc)
  by (Some origin) is there =
      let state : State = replay (first_state origin) requests.adds.earlier in
      let was = requests.are_made origin is requests.adds.earlier requests.adds.last in
      grown-records state (own request answer) made was.same was.fit was.from has

-- ---- a turn: what the editor keeps

-- a turn that made no event of the editor
pub IsAsking-others : (commands : List Command) (swap : SwapView) (sees later : Sees) (part : Part) (before now : Outer) → sees.seat ≡ 0
    → Turns sees later → AddsNone sees later → IsAsking commands swap sees part before now → IsAsking commands swap later part before now
IsAsking-others commands swap sees later part before now seat turns adds asking origin from =
    let first : State = first_state origin in
    let new = passed origin sees later seat turns adds from in
    subst (λ (es : List Event). AskingBeside commands swap first later.seen es part before now) (sym adds.own)
    (subst (λ (es : List Event). AskingBeside commands swap first es sees.own part before now) new.last
    (beside-others commands swap first sees.seen new.more sees.own part before now new.legal new.others
    (asking origin (sym (same-origin sees later turns) ∙ from))))

-- what is saved after it is what would have been before
pub saved-before : (sees later : Sees) (bytes : List ℕ) → sees.seat ≡ 0 → Turns sees later → AddsNone sees later
    → SeesState later (λ state. bytes ≡ saved_form state.editing) → SeesState sees (λ state. bytes ≡ saved_form state.editing)
saved-before sees later bytes seat turns adds saved origin from =
    let first : State = first_state origin in
    let from_later = same-origin sees later turns ∙ from in
    let new = passed origin sees later seat turns adds from_later in
    let keeps = keeps-others (replay first sees.seen) new.more (EachIn-back IsLegal first sees.seen new.more new.legal) new.others in
    saved origin from_later
    ∙ ap (λ (es : List Event). saved_form (replay first es).editing) (sym new.last)
    ∙ ap (λ (s : State). saved_form s.editing) (replay-append first sees.seen new.more)
    ∙ ap (λ (e : Editing). saved_form e) keeps.editing

-- a turn that made an event of the editor, of whose reply it has heard all
pub IsAsking-own : (commands : List Command) (swap : SwapView) (sees later_sees : Sees) (part mid later : Part) (request : Request) (answer : Reply)
    (made : List Primitive) (form : List ℕ) (before now next : Outer) → Requests sees later_sees part mid request answer made
    → (call_after answer mid.asking ≡ call.Save → SeesState later_sees (λ state. form ≡ saved_form state.editing))
    → Hears answer made form mid later now next → IsAsking commands swap sees part before now → IsAsking commands swap later_sees later before next
IsAsking-own commands swap sees later_sees part mid later request answer made form before now next requests saves hears asking origin from =
    let first : State = first_state origin in
    let event : Event = own request answer in
    let new = turned origin sees later_sees request answer requests.turns requests.adds from in
    let was = requests.are_made origin from (sees.seen ++ new.more) new.last in
    let form_is = λ (is : call_after answer mid.asking ≡ call.Save).
    saves is origin from
    ∙ ap (λ (es : List Event). saved_form (replay first es).editing) new.last
    ∙ ap (λ (s : State). saved_form s.editing) (replay-append first (sees.seen ++ new.more) (event ∷ [])) in
    subst (λ (es : List Event). AskingBeside commands swap first later_sees.seen es later before next) (sym requests.adds.own)
    (subst (λ (es : List Event). AskingBeside commands swap first es (sees.own ++ event ∷ []) later before next) (sym new.last)
    (beside-own commands swap first (sees.seen ++ new.more) sees.own part mid later request answer made form before now next
    (beside-others commands swap first sees.seen new.more sees.own part before now
    (EachIn-front IsLegal first (sees.seen ++ new.more) (event ∷ []) new.legal) new.others
    (asking origin (sym (same-origin sees later_sees requests.turns) ∙ from)))
    new.legal requests.next_is requests.mid_is requests.own_is was form_is hears))

-- ---- a turn: what the part knows of the state

Knows-none : (commands : List Command) (swap : SwapView) (sees : Sees) (part : Part) → part ≡ part_of commands swap → swap.state ≡ Guarded
    → sees.seen ≡ [] → Knows sees part
Knows-none commands swap sees part is guarded new whole origin from =
    let first : State = first_state origin in (
      commands,
      subst (λ (es : List Event). Asking commands first (replay first es) es part) (sym new)
          (Asking-none commands first swap part refl refl refl is guarded),
    )

-- what the editor has at first: few requests, and it knows the state
pub begins-few : (commands : List Command) (swap : SwapView) (sees : Sees) (part : Part) → part ≡ part_of commands swap
    → length commands ≤ MAX_COMMANDS → IsNew sees → HasRequests (length sees.own) part
begins-few commands swap sees part is few new =
    subst (HasRequests (length sees.own)) (sym is) (omega (arith, ap length new.own, length-asked commands))

pub begins-knowing : (commands : List Command) (swap : SwapView) (sees : Sees) (part : Part) → part ≡ part_of commands swap → swap.state ≡ Guarded
    → IsNew sees → ∥ Knows sees part ∥₁
begins-knowing commands swap sees part is guarded new = merely (Knows-none commands swap sees part is guarded new.seen)

pub Knows-failed : (sees : Sees) (part : Part) → part.failed ≡ true → Knows sees part
Knows-failed sees part failed whole = let never : true ≡ false = sym failed ∙ whole in absurd (cc)

pub Knows-asked : (sees : Sees) (part mid : Part) → mid ≡ record part { asking = None } → Knows sees part → Knows sees mid
Knows-asked sees part mid is knows = subst (Knows sees) (sym is) (λ whole origin from.
    let known = knows whole origin from in
    (known.0, Asking-asked known.0 (first_state origin) (seen_state origin sees) sees.seen part known.1))

pub Knows-others : (sees later : Sees) (part : Part) → sees.seat ≡ 0 → Turns sees later → AddsNone sees later → Knows sees part → Knows later part
Knows-others sees later part seat turns adds knows whole origin from =
    let first : State = first_state origin in
    let known = knows whole origin (sym (same-origin sees later turns) ∙ from) in
    let new = passed origin sees later seat turns adds from in (
      known.0,
      subst (λ (es : List Event). Asking known.0 first (replay first es) es part) new.last
          (Asking-others known.0 first part sees.seen new.more new.legal new.others known.1),
    )

-- the request and its reply, from what was known
step-of : (commands : List Command) (sees later_sees : Sees) (part mid later : Part) (request : Request) (answer : Reply) (made : List Primitive)
    (origin : Beginning) (from : later_sees.origin ≡ Some origin) (requests : Requests sees later_sees part mid request answer made)
    → Heard answer made mid later → Asking commands (first_state origin) (seen_state origin sees) sees.seen part
    → Stepped commands (first_state origin)
    (sees.seen ++ (turned origin sees later_sees request answer requests.turns requests.adds from).more) part later (own request answer)
step-of commands sees later_sees part mid later request answer made origin from requests heard asks =
    let first : State = first_state origin in
    let new = turned origin sees later_sees request answer requests.turns requests.adds from in
    stepped commands first (sees.seen ++ new.more) part mid later request answer made
    (Asking-others commands first part sees.seen new.more (EachIn-front IsLegal first (sees.seen ++ new.more) (own request answer ∷ []) new.legal)
    new.others asks)
    new.legal requests.next_is requests.mid_is requests.own_is (requests.are_made origin from (sees.seen ++ new.more) new.last) heard

pub Knows-own : (sees later_sees : Sees) (part mid later : Part) (request : Request) (answer : Reply) (made : List Primitive)
    → Requests sees later_sees part mid request answer made → Heard answer made mid later → part.failed ≡ false → Knows sees part
    → Knows later_sees later
Knows-own sees later_sees part mid later request answer made requests heard part_whole knows whole origin from =
    let first : State = first_state origin in
    let new = turned origin sees later_sees request answer requests.turns requests.adds from in
    let known = knows part_whole origin (sym (same-origin sees later_sees requests.turns) ∙ from) in (
      known.0,
      subst (λ (es : List Event). Asking known.0 first (replay first es) es later) (sym new.last)
          (step-of known.0 sees later_sees part mid later request answer made origin from requests heard known.1).asks,
    )

at-most-prop : (a b : ℕ) → IsProp (a ≤ b)
at-most-prop a b = hlevel (logic.props)

-- less is left
pub Knows-less : (sees later_sees : Sees) (part mid later : Part) (request : Request) (answer : Reply) (made : List Primitive)
    → Requests sees later_sees part mid request answer made → Heard answer made mid later → part.failed ≡ false → IsSome later_sees.origin
    → ∥ Knows sees part ∥₁ → work later + 1 ≤ work part
Knows-less sees later_sees part mid later request answer made requests heard whole some knows = by later_sees.origin refl some where
  by : (o : Option Beginning) → later_sees.origin ≡ o → IsSome o → work later + 1 ≤ work part
  by None is none = absurd (cc)
  by (Some origin) is there = ∥∥₁_elim knows (at-most-prop (work later + 1) (work part)) (λ (known_by : Knows sees part).
      let known = known_by whole origin (sym (same-origin sees later_sees requests.turns) ∙ is) in
      (step-of known.0 sees later_sees part mid later request answer made origin is requests heard known.1).less)

-- ---- what is replied to the editor

-- memory ran out once the editor heard a reply
pub record Fails (mid later : Part) : Type 0 where
  pub failed : later.failed ≡ true
  pub owed : later.owed ≡ mid.owed
  pub closed : later.closed ≡ mid.closed

pub fails-by : {T E : Type 0} (result : Result T E) (mid later : Part)
    → OnErr result ((later.failed ≡ true) × (later.owed ≡ mid.owed) × (later.closed ≡ mid.closed)) → OnErr result (Fails mid later)
fails-by (Ok value) mid later fails = tt
fails-by (Err error) mid later fails = record { failed = fails.0; owed = fails.1; closed = fails.2 }

-- less is left, however that ended
pub heard-less : {T E : Type 0} (result : Result T E) (sees later_sees : Sees) (part mid later : Part) (request : Request) (answer : Reply)
    (made : List Primitive) → Requests sees later_sees part mid request answer made → part.failed ≡ false → IsSome later_sees.origin
    → ∥ Knows sees part ∥₁ → OnOk result (Heard answer made mid later) → OnErr result (Fails mid later) → work later + 1 ≤ work part
heard-less (Ok value) sees later_sees part mid later request answer made requests whole some knows heard fails =
    Knows-less sees later_sees part mid later request answer made requests heard whole some knows
heard-less (Err error) sees later_sees part mid later request answer made requests whole some knows heard fails =
    work-fails part mid later request requests.next_is requests.mid_is fails.failed fails.owed fails.closed

-- .. and the part knows the state
pub heard-knows : {T E : Type 0} (result : Result T E) (sees later_sees : Sees) (part mid later : Part) (request : Request) (answer : Reply)
    (made : List Primitive) → Requests sees later_sees part mid request answer made → part.failed ≡ false
    → OnOk result (Heard answer made mid later) → OnErr result (Fails mid later) → Knows sees part → Knows later_sees later
heard-knows (Ok value) sees later_sees part mid later request answer made requests whole heard fails knows =
    Knows-own sees later_sees part mid later request answer made requests heard whole knows
heard-knows (Err error) sees later_sees part mid later request answer made requests whole heard fails knows =
    Knows-failed later_sees later fails.failed

-- where memory did not run out, it has heard all
pub hears-whole : {T E : Type 0} (result : Result T E) (P : Type 0) (mid later : Part) → OnOk result P → OnErr result (Fails mid later)
    → later.failed ≡ false → P
hears-whole (Ok value) P mid later heard fails whole = heard
hears-whole (Err error) P mid later heard fails whole = let never : true ≡ false = sym fails.failed ∙ whole in absurd (cc)

-- what `Editor::answered` gives, in one
pub heard-by : {T E : Type 0} (result : Result T E) (answer : Reply) (made : List Primitive) (mid later : Part) → (IsOk result → cut_at answer ≡ None)
    → ((before : Part) (state : State) (lost : Bool) (due : Due) (request : Request) → mid ≡ asked before
    → next_of before ≡ Some request → IsAt state lost due before → IsAnswered state (own request answer)
    → made ≡ (came_of state (own request answer)).made
    → FitInTurn (after_event state (own request answer)).editing.trail state.editing.loaded.text
    → OnOk result (Follows state lost due (own request answer) before later)) → OnOk result (Heard answer made mid later)
heard-by (Ok value) answer made mid later whole follows = record { whole = whole refl; follows = follows }
heard-by (Err error) answer made mid later whole follows = tt

pub hears-by : {T E : Type 0} (result : Result T E) (answer : Reply) (made : List Primitive) (form : List ℕ) (mid later : Part) (now next : Outer)
    → OnOk result (Heard answer made mid later)
    → OnOk result (later ≡ record mid {
      depth = depth_told answer mid.depth;
      current = current_after (call_after answer mid.asking) (depth_told answer mid.depth) (current_before made mid);
      owed = later.owed;
      swap = later.swap;
      replace_failed = later.replace_failed;
    })
    → OnOk result (is_lost later.swap.state ≡ lost_with (is_lost mid.swap.state) later.owed)
    → CountsTold (told_of result later.owed) (is_lost mid.swap.state) mid.replace_failed later.replace_failed now.faults next.faults
    → OnOk result (IsTold (call_after answer mid.asking) (is_lost mid.swap.state) (finished_after answer made mid) later.owed)
    → ((text present : List (List ℕ)) (ts : List (List Primitive)) → Stands mid.swap text ts now.moments
    → FitAfter mid.swap.state (finished_after answer made mid) ts text
    → (call_after answer mid.asking ≡ call.Save → IsFileOf form present)
    → OnOk result (Stands later.swap (file_told later.owed text present) (transactions_told later.owed (finished_after answer made mid) ts) next.moments))
    → OnOk result (SavedWith (is_saved later.owed) (is_lost later.swap.state) form now.moments next.moments)
    → OnOk result (Hears answer made form mid later now next)
hears-by (Ok value) answer made form mid later now next heard rest lost faults told stands saves = record {
  heard = heard;
  rest = rest;
  lost = lost;
  faults = faults;
  leaves = record { told = told; lost = lost; stands = stands; saves = saves };
}
hears-by (Err error) answer made form mid later now next heard rest lost faults told stands saves = tt

-- ---- the disk, the pass, and how many requests

pub goes-self : (disk : Outer) → GoesOn disk disk
goes-self disk = record { reads = record { saved_len = refl; saved_at = refl; swap_len = refl; swap_at = refl }; told = told-self disk.moments }

pub goes-then : (before now next : Outer) (owed : Option Told) (lost remembered later : Bool) → GoesOn before now
    → CountsTold owed lost remembered later now.faults next.faults → IfSome now.moments (λ told. IsSome next.moments) → GoesOn before next
goes-then before now next owed lost remembered later goes counts tells = record {
  reads = reads-more before.faults now.faults next.faults owed lost remembered later goes.reads counts;
  told = told-then before.moments now.moments next.moments goes.told tells;
}

pub later-turn : (first sees later : Sees) → IsLater first sees → Turns sees later → IsLater first later
later-turn first sees later was turns =
    turns.same
    ∙ ap (λ (n : ℕ). record sees { seen = later.seen; own = later.own; turns = n }) (sym (ap (λ (s : Sees). s.turns) turns.same))
    ∙ ap (λ (s : Sees). record s { seen = later.seen; own = later.own; turns = later.turns }) was

pub origin-later : (first later : Sees) → IsLater first later → IsSome first.origin → IsSome later.origin
origin-later first later is some = subst IsSome (sym (ap (λ (s : Sees). s.origin) is)) some

pub few-more : (own_before own_later : List Event) (event : Event) (part later : Part) (n : ℕ) → own_later ≡ own_before ++ event ∷ []
    → work later + 1 ≤ work part → length own_before + work part < n → length own_later + work later < n
few-more own_before own_later event part later n is less few = omega (arith, ap length is, length-append own_before (event ∷ []))

pub few-same : (own_before own_later : List Event) (part later : Part) (n : ℕ) → own_later ≡ own_before → work later + 1 ≤ work part
    → length own_before + work part < n → length own_later + work later < n
few-same own_before own_later part later n is less few = omega (arith, ap length is)

-- the turn of a save's form, if there is one
pub form-turn : (P : Sees → Type 0) (is_saving : Bool) (sees later : Sees) → (is_saving ≡ true → Turns sees later)
    → (is_saving ≡ true → AddsNone sees later) → (is_saving ≡ false → later ≡ sees)
    → (Turns sees later → AddsNone sees later → P sees → P later) → P sees → P later
form-turn P true sees later turns none same step was = step (turns refl) (none refl) was
form-turn P false sees later turns none same step was = subst P (sym (same refl)) was

-- what holds of a value that came
pub told-of : {T E : Type 0} (P : T → Type 0) (result : Result T E) (value : T) → result ≡ Ok value → IfOk result P → P value
told-of {T} {E} P result value is = subst (λ (r : Result T E). IfOk r P) is

-- ---- in the end

-- where nothing comes next, all was asked for and told
pub IsAsking-edited : (commands : List Command) (swap : SwapView) (sees : Sees) (part : Part) (ending : Status) (before now : Outer)
    → IsAsking commands swap sees part before now → next_of part ≡ None → Ends ending part → HasEdited commands swap ending sees before now
IsAsking-edited commands swap sees part ending before now asking none ends =
    let owed = none-owed part none in
    record {
      did = λ origin from.
          let first : State = first_state origin in
          let asked = asking origin from in
          let settled : due_left first nothing sees.seen ≡ nothing = asked.asks.shut (none-closed part none) in
          record {
            mine = asked.mine;
            calls = asked.calls;
            ordered = ap asked_in (sym asked.mine) ∙ sym (asked_in-editor first sees.seen asked.legal)
                ∙ Asking-ordered commands first (replay first sees.seen) sees.seen part asked.asks none;
            each_due = asked.asks.each_due;
            settled = subst IsSettled (sym settled) tt;
          };
      tells = λ origin from.
          let asked = asking origin from in
          record {
            counted = Counting-counted sees.seen part before.faults now.faults asked.counting owed;
            ends = Counting-ending sees.seen part ending before.faults now.faults asked.counting owed asked.asks.at.lost ends;
            ended = Counting-ended sees.seen part ending before.faults now.faults asked.counting ends;
            keeps = λ file begins. Keeping-keeps file (first_state origin) (replay (first_state origin) sees.seen) sees.seen part now.moments
                (asked.keeping file begins) owed asked.asks.at.lost;
          };
    }
