-- What the disk holds, beside the events so far.
use Rattle.std.proofs.Common.{◌≡◌, ◌∙◌, ℕ, Bool, true, false, List, [], ◌∷◌, ◌++◌, Option, Some, None, IfSome, if◌then◌else◌, refl, ap, sym, subst, append_assoc, append-nil}
use Rattle.std.specs.Option.{option_to_list}
use Rattle.std.proofs.lemmas.List.Concat.{flat_map-append}
use Rattle.kte_text.specs.Digests.{digest_of}
use Rattle.kte_text.specs.Files.{Loads}
use Rattle.kte_text.specs.Saving.{loaded_eol, writes_mark}
use Rattle.kte_text.specs.Texts.{IsText}
use Rattle.kte_text.specs.Primitives.{FitInTurn, after, after_all}
use Rattle.kte_text.specs.declared.primitive.Primitive.{Primitive}
use Rattle.kte_text.specs.declared.loading.Loaded.{Loaded}
use Rattle.kte_text.proofs.FileLemmas.{Refuses-none}
use Rattle.kte_text.proofs.LoadsLemmas.{Loads-bytes_of}
use Rattle.kte_text.proofs.PrimitiveLemmas.{after_all-append}
use Rattle.kte_text.proofs.SavingLemmas.{length-bytes_of-le}
use Rattle.kte_record.specs.Transactions.{FitOneByOne, joined, written}
use Rattle.kte_causes.specs.Moments.{Moment, latest}
use Rattle.kte_swap.specs.Swap.{SwapView}
use Rattle.kte_swap.specs.Guards.{FitAfter, Guards, IsFileOf, Stands, StandsIn}
use Rattle.kte_swap.specs.declared.causes.SwapState.{SwapState}
use Rattle.kte_swap.specs.declared.causes.SwapState.TheVariants.{Guarded, Lost}
use Rattle.kte_command.specs.declared.command.Command.{Command}
use Rattle.kte_core.specs.Editing.{Editing, saved_form, text_of}
use Rattle.kte_core.specs.State.{State, Reaction}
use Rattle.kte_core.specs.React.{cut_at}
use Rattle.kte_core.specs.Replay.{IsAnswered, after_event, came_of, replay}
use Rattle.kte_core.specs.declared.event.Event.{Event}
use Rattle.kte_core.specs.declared.reply.Reply.{Reply}
use Rattle.kte_core.specs.declared.request.OutsideCall.{OutsideCall}
use Rattle.kte_core.specs.declared.request.OutsideCall.TheVariants as Call
use Rattle.kte_core.specs.declared.request.Request.{Request}
use Rattle.kte_core.specs.declared.request.Request.TheVariants.{Cmd, Close, Take, Deliver, GiveBack, Outcome}
use Rattle.kte_core.proofs.TransactionLemmas.{FitInTurn-later}
use Rattle.kte_run.specs.declared.editor.Told.{Told}
use Rattle.kte_desk.specs.Schedule.{Due, lost_after, lost_by}
use Rattle.kte_desk.specs.Serving.{own}
use Rattle.kte_run.specs.Editor.{IsTold, Part, is_lost, lost_with, IsAt, Follows}
use Rattle.kte_run.specs.Calls.{SavedWith, file_told, is_save, is_saved, listed, transactions_told}
use Rattle.kte_run.specs.Outcomes.{Begins, Holds, Keeps, file_after, file_by, unsaved_after, unsaved_by}
use Rattle.kte_run.proofs.FinishLemmas.{joined-listed, moved, saved-shut}
use Rattle.kte_run.proofs.ApartLemmas.{Same}
use Rattle.kte_run.proofs.AskLemmas.{NextBy}
use Rattle.kte_run.specs.Editor.{part_of}
use Rattle.kte_run.proofs.EditorLemmas.{came-outcome}

-- ---- one event more

pub unsaved-last : (state : State) (events : List Event) (event : Event) (ts : List (List Primitive))
    → unsaved_after state (events ++ event ∷ []) ts ≡ unsaved_by (replay state events) event event.request (unsaved_after state events ts)
unsaved-last state [] event ts = refl
unsaved-last state (first ∷ events) event ts = unsaved-last (after_event state first) events event (unsaved_by state first first.request ts)

pub file-last : (state : State) (events : List Event) (event : Event) (file : List ℕ)
    → file_after state (events ++ event ∷ []) file ≡ file_by (replay state events) event.request (file_after state events file)
file-last state [] event file = refl
file-last state (first ∷ events) event file = file-last (after_event state first) events event (file_by state first.request file)

-- the transactions and the saved file, where the outcome that is owed is counted as told
abbrev ts_owed : Option Told → List (List Primitive) → List (List Primitive)
ts_owed owed ts = if is_saved owed then [] else ts

abbrev file_owed : Option Told → State → List ℕ → List ℕ
file_owed owed state file = if is_saved owed then saved_form state.editing else file

unsaved-outcome : (state : State) (call : OutsideCall) (ok : Bool) (answer : Reply) (ts : List (List Primitive)) → cut_at answer ≡ None
    → unsaved_by state (own (Outcome call ok) answer) (Outcome call ok) ts
    ≡ (if is_save call ok then [] else ts) ++ option_to_list (came_of state (own (Outcome call ok) answer)).finished
unsaved-outcome state Call.Save true answer ts whole =
    sym (ap (λ (c : Reaction). option_to_list c.finished) (came-outcome state Call.Save true answer whole))
unsaved-outcome state Call.Save false answer ts whole = refl
unsaved-outcome state Call.Append true answer ts whole = refl
unsaved-outcome state Call.Append false answer ts whole = refl
unsaved-outcome state Call.Sync true answer ts whole = refl
unsaved-outcome state Call.Sync false answer ts whole = refl

unsaved-next : (state : State) (owed : Option Told) (request : Request) (answer : Reply) (ts : List (List Primitive)) → cut_at answer ≡ None
    → NextBy owed request → unsaved_by state (own request answer) request ts
    ≡ ts_owed owed ts ++ option_to_list (came_of state (own request answer)).finished
unsaved-next state None (Cmd command) answer ts whole next = refl
unsaved-next state None Close answer ts whole next = refl
unsaved-next state None Take answer ts whole next = absurd (cc)
unsaved-next state None (Deliver job findings) answer ts whole next = absurd (cc)
unsaved-next state None (GiveBack job) answer ts whole next = absurd (cc)
unsaved-next state None (Outcome call ok) answer ts whole next = absurd (cc)
unsaved-next state (Some told) request answer ts whole next =
    subst (λ (r : Request). unsaved_by state (own r answer) r ts
    ≡ ts_owed (Some told) ts ++ option_to_list (came_of state (own r answer)).finished) next
    (unsaved-outcome state told.call told.ok answer ts whole)

file-outcome : (state : State) (call : OutsideCall) (ok : Bool) (file : List ℕ)
    → file_by state (Outcome call ok) file ≡ (if is_save call ok then saved_form state.editing else file)
file-outcome state Call.Save true file = refl
file-outcome state Call.Save false file = refl
file-outcome state Call.Append true file = refl
file-outcome state Call.Append false file = refl
file-outcome state Call.Sync true file = refl
file-outcome state Call.Sync false file = refl

file-next : (state : State) (owed : Option Told) (request : Request) (file : List ℕ) → NextBy owed request
    → file_by state request file ≡ file_owed owed state file
file-next state None (Cmd command) file next = refl
file-next state None Close file next = refl
file-next state None Take file next = absurd (cc)
file-next state None (Deliver job findings) file next = absurd (cc)
file-next state None (GiveBack job) file next = absurd (cc)
file-next state None (Outcome call ok) file next = absurd (cc)
file-next state (Some told) request file next =
    subst (λ (r : Request). file_by state r file ≡ file_owed (Some told) state file) next (file-outcome state told.call told.ok file)

-- ---- what the disk holds so far

-- The disk holds what the last save wrote, and the transactions since, the outcome that is owed
-- being counted as told
pub record Keeping (file : List ℕ) (first now : State) (events : List Event) (part : Part) (moments : Option (List Moment)) : Type 0 where
  pub done : List Primitive
  pub text : List (List ℕ)
  pub trail : now.editing.trail ≡ done ++ part.current
  pub loaded : now.editing.loaded ≡ first.editing.loaded
  pub same : after_all (joined (ts_owed part.owed (unsaved_after first events []))) text ≡ after_all done first.editing.loaded.text
  pub stands : Stands part.swap text (ts_owed part.owed (unsaved_after first events [])) moments
  pub saved : is_lost part.swap.state ≡ false
      → IfSome moments (λ told. (latest told).saved ≡ file_owed part.owed now (file_after first events file))

-- .. after others that tell the same, and edit nothing
pub Keeping-same : (file : List ℕ) (first now later_now : State) (events later : List Event) (part : Part) (moments : Option (List Moment))
    → Same first events later → later_now.editing ≡ now.editing → Keeping file first now events part moments
    → Keeping file first later_now later part moments
Keeping-same file first now later_now events later part moments same is keeping =
    let files : file_owed part.owed later_now (file_after first later file) ≡ file_owed part.owed now (file_after first events file) =
    ap (file_owed part.owed later_now) (same.file file)
    ∙ ap (λ (e : Editing). if is_saved part.owed then saved_form e else file_after first events file) is in
    record {
      done = keeping.done;
      text = keeping.text;
      trail = ap (λ (e : Editing). e.trail) is ∙ keeping.trail;
      loaded = ap (λ (e : Editing). e.loaded) is ∙ keeping.loaded;
      same = ap (λ (ts : List (List Primitive)). after_all (joined (ts_owed part.owed ts)) keeping.text) same.unsaved ∙ keeping.same;
      stands = subst (λ (ts : List (List Primitive)). Stands part.swap keeping.text (ts_owed part.owed ts) moments) (sym same.unsaved) keeping.stands;
      saved = λ kept. subst (λ (f : List ℕ). IfSome moments (λ told. (latest told).saved ≡ f)) (sym files) (keeping.saved kept);
    }

-- the first ones of primitives that fit
fit-front : (ps qs : List Primitive) (text : List (List ℕ)) → FitInTurn (ps ++ qs) text → FitOneByOne ps text
fit-front [] qs text fit = tt
fit-front (p ∷ ps) qs text (none, some, rest) = (none, fit-front ps qs (after p text) rest)

fit-after : (swap : SwapState) (finished : List Primitive) (ts : List (List Primitive)) (text : List (List ℕ))
    → FitOneByOne finished (after_all (joined ts) text) → FitAfter swap finished ts text
fit-after Guarded finished ts text fit = fit
fit-after Lost finished ts text fit = tt

-- the file that is saved is one of the present text
pub saved-file : (editing : Editing) → IsText (text_of editing) → IsFileOf (saved_form editing) (text_of editing)
saved-file editing is =
    let text : List (List ℕ) = text_of editing in
    let mark : Bool = editing.loaded.bom in
    let loaded : Loaded = record { text = text; eol = loaded_eol text editing.loaded.eol; bom = writes_mark text mark } in
    let loads : Loads (saved_form editing) loaded = Loads-bytes_of text editing.loaded.eol mark is in
    record {
      loaded = loaded;
      loads = loads;
      allowed = λ fault. Refuses-none (saved_form editing) loaded fault (length-bytes_of-le text editing.loaded.eol mark is) loads is.small;
      text_is = refl;
    }

-- only a save is told as one that went well
save-call : (call : OutsideCall) (lost : Bool) (finished : List Primitive) (owed : Option Told) → IsTold call lost finished owed
    → is_saved owed ≡ true → call ≡ Call.Save
save-call Call.Append lost finished None told saved = absurd (cc)
save-call Call.Append lost finished (Some one) told saved =
    absurd (let none : false ≡ true = sym (ap (λ (t : Told). is_save t.call t.ok) told.2) ∙ saved in cc)
save-call Call.Sync lost finished None told saved = absurd told
save-call Call.Sync lost finished (Some one) told saved =
    absurd (let none : false ≡ true = sym (ap (λ (c : OutsideCall). is_save c one.ok) told.0) ∙ saved in cc)
save-call Call.Save lost finished owed told saved = refl

-- a swap that is not lost then, without a save, was not lost before
lost-call : (call : OutsideCall) (ok lost : Bool) → is_save call ok ≡ false → lost_by lost (Outcome call ok) ≡ false → lost ≡ false
lost-call Call.Append true lost saved is = is
lost-call Call.Append false lost saved is = absurd (cc)
lost-call Call.Sync true lost saved is = is
lost-call Call.Sync false lost saved is = absurd (cc)
lost-call Call.Save true lost saved is = absurd (cc)
lost-call Call.Save false lost saved is = absurd (cc)

lost-before : (owed : Option Told) (lost : Bool) → is_saved owed ≡ false → lost_with lost owed ≡ false → lost ≡ false
lost-before None lost saved is = is
lost-before (Some told) lost saved is = lost-call told.call told.ok lost saved is

-- the transactions after the call, and their text
texts-next : (saved : Bool) (ts : List (List Primitive)) (text present first : List (List ℕ)) (done finished current : List Primitive)
    → after_all (joined ts) text ≡ after_all done first → present ≡ after_all (done ++ finished ++ current) first
    → (saved ≡ true → current ≡ [])
    → after_all (joined (if saved then [] else ts ++ listed finished)) (if saved then present else text) ≡ after_all (done ++ finished) first
texts-next true ts text present first done finished current same is shut =
    is ∙ ap (λ (ps : List Primitive). after_all (done ++ finished ++ ps) first) (shut refl)
    ∙ ap (λ (ps : List Primitive). after_all ps first) (append-nil (done ++ finished))
texts-next false ts text present first done finished current same is shut =
    ap (λ (ps : List Primitive). after_all ps text)
    (flat_map-append (λ (t : List Primitive). t) ts (listed finished) ∙ ap (λ (ps : List Primitive). joined ts ++ ps) (joined-listed finished))
    ∙ after_all-append (joined ts) finished text
    ∙ ap (after_all finished) same
    ∙ sym (after_all-append done finished first)

-- the saved file after the call
saved-next : (saved lost : Bool) (form file : List ℕ) (now : State) (swap : SwapView) (text : List (List ℕ)) (ts : List (List Primitive))
    (before after : Option (List Moment)) → SavedWith saved lost form before after
    → (saved ≡ true → form ≡ saved_form now.editing) → Stands swap text ts before
    → (saved ≡ false → IfSome before (λ told. (latest told).saved ≡ file)) → lost ≡ false
    → IfSome after (λ told. (latest told).saved ≡ (if saved then saved_form now.editing else file))
saved-next saved lost form file now swap text ts None after leaves form_is stands was is = absurd stands
saved-next true lost form file now swap text ts (Some before) None leaves form_is stands was is = tt
saved-next true lost form file now swap text ts (Some before) (Some after) leaves form_is stands was is = leaves ∙ form_is refl
saved-next false lost form file now swap text ts (Some before) None leaves form_is stands was is = tt
saved-next false lost form file now swap text ts (Some before) (Some after) leaves form_is stands was is = leaves is ∙ was refl

-- What the call of the disk leaves of the swap file and of the saved file
pub record Leaving (swap : SwapView) (later : Part) (call : OutsideCall) (form : List ℕ) (finished : List Primitive) (before after : Option (List Moment))
    : Type 0 where
  pub told : IsTold call (is_lost swap.state) finished later.owed
  pub lost : is_lost later.swap.state ≡ lost_with (is_lost swap.state) later.owed
  pub stands : (text present : List (List ℕ)) (ts : List (List Primitive)) → Stands swap text ts before
      → FitAfter swap.state finished ts text → (call ≡ Call.Save → IsFileOf form present)
      → Stands later.swap (file_told later.owed text present) (transactions_told later.owed finished ts) after
  pub saves : SavedWith (is_saved later.owed) (is_lost later.swap.state) form before after

-- one request more, with its call of the disk
pub Keeping-more : (file : List ℕ) (first : State) (events : List Event) (state : State) (part later : Part) (lost : Bool) (due : Due)
    (request : Request) (answer : Reply) (made finished : List Primitive) (call : OutsideCall) (form : List ℕ) (swap : SwapView)
    (before after : Option (List Moment)) → Keeping file first state events part before → state ≡ replay first events → NextBy part.owed request
    → IsAt state lost due part → Follows state lost due (own request answer) part later → IsAnswered state (own request answer)
    → cut_at answer ≡ None → made ≡ (came_of state (own request answer)).made
    → FitInTurn (after_event state (own request answer)).editing.trail state.editing.loaded.text
    → IsText (text_of (after_event state (own request answer)).editing)
    → finished ++ later.current ≡ part.current ++ made
    → (call ≡ Call.Save → form ≡ saved_form (after_event state (own request answer)).editing)
    → swap ≡ part.swap → Leaving swap later call form finished before after
    → Keeping file first (after_event state (own request answer)) (events ++ own request answer ∷ []) later after
Keeping-more file first events state part later lost due request answer made finished call form swap before after keeping was next at follows
    answered whole made_is fit whole_text parts form_is swap_is leaves =
    let leaving = subst (λ (s : SwapView). Leaving s later call form finished before after) swap_is leaves in
    let event : Event = own request answer in
    let now : State = after_event state event in
    let owed : Option Told = later.owed in
    let ts : List (List Primitive) = ts_owed part.owed (unsaved_after first events []) in
    let moves_by = moved state part later lost due request answer made keeping.done finished at follows answered whole made_is fit parts keeping.trail in
    let loaded : now.editing.loaded ≡ first.editing.loaded = moves_by.loaded ∙ keeping.loaded in
    let fit_first : FitInTurn (keeping.done ++ (finished ++ later.current)) first.editing.loaded.text =
    subst (λ (l : Loaded). FitInTurn (keeping.done ++ (finished ++ later.current)) l.text) keeping.loaded
    (subst (λ (ps : List Primitive). FitInTurn ps state.editing.loaded.text)
    (moves_by.trail ∙ append_assoc keeping.done finished later.current) fit) in
    let fits : FitOneByOne finished (after_all (joined ts) keeping.text) =
    subst (FitOneByOne finished) (sym keeping.same)
    (fit-front finished later.current (after_all keeping.done first.editing.loaded.text)
    (FitInTurn-later keeping.done (finished ++ later.current) first.editing.loaded.text fit_first)) in
    let present_is : text_of now.editing ≡ after_all (keeping.done ++ finished ++ later.current) first.editing.loaded.text =
    ap (λ (ps : List Primitive). after_all ps now.editing.loaded.text) moves_by.trail
    ∙ ap (λ (l : Loaded). after_all (keeping.done ++ finished ++ later.current) l.text) loaded in
    let unsaved : unsaved_after first (events ++ event ∷ []) [] ≡ ts ++ listed finished =
    unsaved-last first events event []
    ∙ ap (λ (s : State). unsaved_by s event request (unsaved_after first events [])) (sym was)
    ∙ unsaved-next state part.owed request answer (unsaved_after first events []) whole next
    ∙ ap (λ (qs : List (List Primitive)). ts ++ qs) (sym moves_by.listed_is) in
    let files : file_after first (events ++ event ∷ []) file ≡ file_owed part.owed state (file_after first events file) =
    file-last first events event file
    ∙ ap (λ (s : State). file_by s request (file_after first events file)) (sym was)
    ∙ file-next state part.owed request (file_after first events file) next in
    let is_file = λ (is : call ≡ Call.Save).
    subst (λ (bytes : List ℕ). IsFileOf bytes (text_of now.editing)) (sym (form_is is)) (saved-file now.editing whole_text) in
    record {
      done = keeping.done ++ finished;
      text = file_told owed keeping.text (text_of now.editing);
      trail = moves_by.trail;
      loaded = loaded;
      same = ap (λ (qs : List (List Primitive)). after_all (joined (ts_owed owed qs)) (file_told owed keeping.text (text_of now.editing))) unsaved
          ∙ texts-next (is_saved owed) ts keeping.text (text_of now.editing) first.editing.loaded.text keeping.done finished later.current keeping.same
          present_is (saved-shut state part later lost due request answer follows answered whole);
      stands = subst (λ (qs : List (List Primitive)). Stands later.swap (file_told owed keeping.text (text_of now.editing)) (ts_owed owed qs) after)
          (sym unsaved)
          (leaving.stands keeping.text (text_of now.editing) ts keeping.stands (fit-after part.swap.state finished ts keeping.text fits) is_file);
      saved = λ kept. subst (λ (f : List ℕ). IfSome after (λ told. (latest told).saved ≡ file_owed owed now f)) (sym files)
          (saved-next (is_saved owed) (is_lost later.swap.state) form (file_owed part.owed state (file_after first events file)) now part.swap keeping.text ts
          before after leaving.saves (λ saves. form_is (save-call call (is_lost part.swap.state) finished owed leaving.told saves)) keeping.stands
          (λ none. keeping.saved (lost-before owed (is_lost part.swap.state) none (sym leaving.lost ∙ kept))) kept);
    }

-- at first
pub Keeping-none : (file : List ℕ) (first : State) (events : List Event) (commands : List Command) (swap : SwapView) (part : Part)
    (moments : Option (List Moment)) → events ≡ [] → part ≡ part_of commands swap → first.editing.trail ≡ []
    → Begins file first.editing.loaded swap moments → Keeping file first first events part moments
Keeping-none file first events commands swap part None fresh is none begins = absurd begins
Keeping-none file first events commands swap part (Some moments) fresh is none begins =
    subst (λ (p : Part). Keeping file first first events p (Some moments)) (sym is)
    (subst (λ (es : List Event). Keeping file first first es (part_of commands swap) (Some moments)) (sym fresh) (record {
      done = [];
      text = first.editing.loaded.text;
      trail = none;
      loaded = refl;
      same = refl;
      stands = subst (λ (s : SwapView). Stands s first.editing.loaded.text [] (Some moments)) (sym begins.2) (record {
        file = subst (λ (bytes : List ℕ). IsFileOf bytes first.editing.loaded.text) (sym begins.3)
            (record { loaded = first.editing.loaded; loads = begins.0; allowed = begins.1; text_is = refl });
        base_is = ap digest_of begins.3;
        bytes = begins.4;
        counted = refl;
        writable = tt;
        fit = tt;
      });
      saved = λ kept. begins.3;
    }))

guards : (swap : SwapState) (view : SwapView) (text : List (List ℕ)) (ts : List (List Primitive)) (moment : Moment) → is_lost swap ≡ false
    → StandsIn swap view text ts moment → Guards view text ts moment
guards Guarded view text ts moment kept stands = stands
guards Lost view text ts moment kept stands = absurd (cc)

holds : (file : List ℕ) (swap : SwapView) (text : List (List ℕ)) (ts : List (List Primitive)) (moments : Option (List Moment))
    → is_lost swap.state ≡ false → Stands swap text ts moments → IfSome moments (λ told. (latest told).saved ≡ file)
    → IfSome moments (λ told. Holds file ts (latest told))
holds file swap text ts None kept stands saved = tt
holds file swap text ts (Some moments) kept stands saved =
    let guarded = guards swap.state swap text ts (latest moments) kept stands in
    record {
      saved = saved;
      swap = guarded.bytes ∙ ap (λ (digest : List ℕ). written digest ts) (sym guarded.base_is ∙ ap digest_of saved);
    }

-- in the end nothing is owed
pub Keeping-keeps : (file : List ℕ) (first now : State) (events : List Event) (part : Part) (moments : Option (List Moment))
    → Keeping file first now events part moments → part.owed ≡ None → is_lost part.swap.state ≡ lost_with (lost_after false events) part.owed
    → Keeps file first events moments
Keeping-keeps file first now events part moments keeping none lost kept =
    let not_lost : is_lost part.swap.state ≡ false = lost ∙ ap (lost_with (lost_after false events)) none ∙ kept in
    holds (file_after first events file) part.swap keeping.text (unsaved_after first events []) moments not_lost
    (subst (λ (owed : Option Told). Stands part.swap keeping.text (ts_owed owed (unsaved_after first events [])) moments) none keeping.stands)
    (subst (λ (owed : Option Told). IfSome moments (λ told. (latest told).saved ≡ file_owed owed now (file_after first events file))) none
    (keeping.saved not_lost))
