-- The history of an editor and of checkers that are done is one that a checked run may have.
use Rattle.std.proofs.Common.{◌≡◌, ◌≢◌, ◌↔◌, ℕ, zero, suc, ◌+◌, ◌<◌, false, All, List, [], ◌∷◌, ◌++◌, length, get_or, append-nil, Option, Some, None, refl, ap, sym, subst, ◌∙◌, arith}
use Rattle.std.specs.List.{flat_map, slice_get}
use Rattle.std.specs.Option.{option_map_or}
use Rattle.std.proofs.lemmas.Option.{get_or_from_slice_get, slice_get_within}
use Rattle.std.proofs.lemmas.List.Elements.{All-head, All-nil, All-tail, All-weaker}
use mathlib.Core.List.{IsPrefix}
use Rattle.kte_turn.specs.Known.{events_of}
use Rattle.kte_turn.proofs.StoryLemmas.{events_of-append, events_of-rest}
use Rattle.kte_command.specs.declared.command.Command.{Command}
use Rattle.kte_core.specs.State.{State}
use Rattle.kte_core.specs.React.{cut_at}
use Rattle.kte_core.specs.Replay.{Legal, after_event, replay}
use Rattle.kte_core.specs.JobsInWords.{IsFree, NoneWaits}
use Rattle.kte_core.specs.declared.event.Event.{Event}
use Rattle.kte_core.specs.declared.reply.Reply.{Reply}
use Rattle.kte_core.specs.declared.reply.Reply.TheVariants.{Took, Delivered}
use Rattle.kte_core.specs.declared.request.Request.{Request}
use Rattle.kte_core.specs.declared.request.Request.TheVariants.{Cmd, Close, Take, Deliver, GiveBack, Outcome}
use Rattle.kte_core.proofs.JournalLemmas.{replay-append}
use Rattle.kte_core.proofs.SeatLemmas.{free_stays-replay, none_waits-replay}
use Rattle.kte_core.proofs.TakeLemmas.{all_done}
use Rattle.kte_desk.specs.Schedule.{AllFit, Fits, InTurn, IsServed, MayTake, Schedule, asked_in, is_refused, lost_after, nothing}
use Rattle.kte_desk.specs.Serving.{NoneTaken}
use Rattle.kte_run.specs.Alone.{due_left}
use Rattle.kte_desk.specs.Seen.{seat_of}
use Rattle.kte_run.specs.Checked.{CheckersDid, EditorDid, IsCheckerEvent, IsEditorEvent, IsHistoryOf, TakesOrDelivers}
use Rattle.kte_run.proofs.AskLemmas.{own-served}
use Rattle.kte_run.proofs.DueLemmas.{InTurn-after}
use Rattle.kte_run.proofs.OwnLemmas.{All-seats, AllOf, InRow, NoneOf, events_of-all, events_of-others, events_of-same, none_of, row_at, row_below}
use Rattle.kte_run.proofs.OthersLemmas.{InTurn-others, asked_in-editor}

-- ---- one event

-- with checkers, they alone take jobs
may_take : (workers : ℕ) (state : State) (seat : ℕ) → 0 < workers → MayTake workers state seat ↔ (0 < seat)
may_take zero state seat some = absurd (omega arith)
may_take (suc others) state seat some = (λ may. may, λ above. above)

-- a job that was taken or delivered was not refused, and memory did not run out
told : (request : Request) (reply : Reply) → TakesOrDelivers request reply → (is_refused reply ≡ false) × (cut_at reply ≡ None)
told Take (Took job revision) is = (refl, refl)
told (Deliver job findings) (Delivered number first count) is = (refl, refl)
told _ _ is = absurd is

served-checker : (workers : ℕ) (state : State) (seat : ℕ) (request : Request) (reply : Reply) → 0 < workers → 0 < seat
    → TakesOrDelivers request reply → IsServed workers state seat request reply
served-checker workers state seat Take reply some above is = ((may_take workers state seat some).1 above, (told Take reply is).0)
served-checker workers state seat (Deliver job findings) reply some above is = (told (Deliver job findings) reply is).0
served-checker workers state seat (Cmd command) reply some above is = absurd is
served-checker workers state seat Close reply some above is = absurd is
served-checker workers state seat (GiveBack job) reply some above is = absurd is
served-checker workers state seat (Outcome call ok) reply some above is = absurd is

-- an event that may come in any state
abbrev FitsAlways : ℕ → Event → Type 0
FitsAlways workers event = (state : State) → Fits workers state event

all_fit : (workers : ℕ) (state : State) (events : List Event) → All (FitsAlways workers) events → AllFit workers state events
all_fit workers state [] fit = tt
all_fit workers state (event ∷ events) fit = (
  All-head (FitsAlways workers) event events fit state,
  all_fit workers (after_event state event) events (All-tail (FitsAlways workers) event events fit),
)

fits-editor : (workers : ℕ) (events : List Event) → AllOf 0 events → All IsEditorEvent events → All (FitsAlways workers) events
fits-editor workers events own calls k d within state =
    let event = get_or events k d in
    let call = calls k d within in
    record {
      seat = omega (arith, own k d within);
      whole = call.1;
      served = own-served workers state event.seat event.request event.reply call.0;
    }

fits-checker : (workers n : ℕ) (events : List Event) → n < workers → AllOf (n + 1) events → All IsCheckerEvent events
    → All (FitsAlways workers) events
fits-checker workers n events within_all own calls k d within state =
    let event = get_or events k d in
    let call = calls k d within in
    let at : event.seat ≡ n + 1 = own k d within in
    record {
      seat = omega arith;
      whole = (told event.request event.reply call).1;
      served = served-checker workers state event.seat event.request event.reply (omega arith) (omega arith) call;
    }

-- ---- after what a pass has seen

replay_from : (P : State → Type 0) (first : State) (seen events : List Event) (begins : IsPrefix seen events)
    → P (replay (replay first seen) begins.0) → P (replay first events)
replay_from P first seen events begins = subst P (sym (replay-append first seen begins.0) ∙ ap (replay first) begins.1)

All-from : (P : Event → Type 0) (seen events : List Event) (begins : IsPrefix seen events) → All P events → All P begins.0
All-from P seen events begins all = rest seen begins.0 (subst (All P) (sym begins.1) all) where
  rest : (es more : List Event) → All P (es ++ more) → All P more
  rest [] more h = h
  rest (event ∷ es) more h = rest es more (All-tail P event (es ++ more) h)

-- a seat that works on no job and makes no event more works on none
free_from : (first : State) (seat : ℕ) (seen events : List Event) → IsPrefix seen events
    → events_of seat_of seat events ≡ events_of seat_of seat seen → IsFree (replay first seen) seat → IsFree (replay first events) seat
free_from first seat seen events begins same free =
    let others = none_of seat begins.0 (events_of-rest seat_of seat seen events begins same) in
    replay_from (λ state. IsFree state seat) first seen events begins
    (free_stays-replay (replay first seen) begins.0 seat free
    (All-weaker (λ (event : Event). event.seat ≢ seat) (λ (event : Event). event.seat ≡ seat → event.request ≢ Take) (λ event apart mine. absurd (apart mine))
    begins.0 others))

first_one : {A : Type 0} (row : List A) → 0 < length row → (one : A) × (slice_get row 0 ≡ Some one)
first_one [] some = absurd (omega arith)
first_one (one ∷ row) some = (one, refl)

-- ---- the history

module _ {A : Type 0} (seen own : A → List Event) (commands : List Command) (first : State)
    (events editor_seen editor_own : List Event) (checkers : List A)
    (history : IsHistoryOf seen own events editor_seen editor_own checkers)
    (editor : EditorDid commands first editor_seen editor_own)
    (did : CheckersDid seen own first checkers)
  where
    editor_all : AllOf 0 editor_own
    editor_all = subst (AllOf 0) editor.mine (events_of-all 0 editor_seen)

    in_row : InRow own 1 checkers
    in_row n pass at = let mine = (did n pass at).mine in subst (AllOf (n + 1)) mine (events_of-all (n + 1) (seen pass))

    begins_with : (n : ℕ) (pass : A) → slice_get checkers n ≡ Some pass → IsPrefix (seen pass) events
    begins_with n pass at =
        subst (λ p. IsPrefix (seen p) events) (get_or_from_slice_get checkers n pass pass at)
        (history.checkers_saw n pass (slice_get_within checkers n pass at))

    -- the events of the editor's seat, and of each other seat
    of_editor : events_of seat_of 0 events ≡ editor_own
    of_editor =
        history.made 0
        ∙ rw (
          events_of-append seat_of 0 editor_own (flat_map own checkers),
          events_of-same 0 editor_own editor_all,
          row_below own 1 0 checkers in_row (omega arith),
        )
        (append-nil editor_own)

    of_others : (n : ℕ) → events_of seat_of (n + 1) events ≡ option_map_or own (slice_get checkers n) []
    of_others n =
        let none : NoneOf (n + 1) editor_own = λ k d within same. omega (arith, editor_all k d within, same) in
        history.made (n + 1)
        ∙ rw (events_of-append seat_of (n + 1) editor_own (flat_map own checkers), events_of-others (n + 1) editor_own none)
        (row_at own 1 n checkers in_row)

    of_checker : (n : ℕ) (pass : A) → slice_get checkers n ≡ Some pass → events_of seat_of (n + 1) events ≡ own pass
    of_checker n pass at = of_others n ∙ ap (λ o. option_map_or own o []) at

    -- memory did not run out, and no job was taken or delivered in vain
    fits_by : (n : ℕ) (o : Option A) → slice_get checkers n ≡ o → All (FitsAlways (length checkers)) (option_map_or own o [])
    fits_by n None at = All-nil (FitsAlways (length checkers))
    fits_by n (Some pass) at =
        fits-checker (length checkers) n (own pass) (slice_get_within checkers n pass at) (in_row n pass at) (did n pass at).calls

    fits : All (FitsAlways (length checkers)) events
    fits = All-seats (FitsAlways (length checkers)) events by where
      by : (seat : ℕ) → All (FitsAlways (length checkers)) (events_of seat_of seat events)
      by zero = subst (All (FitsAlways (length checkers))) (sym of_editor) (fits-editor (length checkers) editor_own editor_all editor.calls)
      by (suc n) =
          let seat : n + 1 ≡ suc n = omega arith in
          subst (λ k. All (FitsAlways (length checkers)) (events_of seat_of k events)) seat
          (subst (All (FitsAlways (length checkers))) (sym (of_others n)) (fits_by n (slice_get checkers n) refl))

    none_given_back : All (λ event. (job : ℕ) → event.request ≢ GiveBack job) events
    none_given_back k d within job is =
        let event = get_or events k d in
        subst (λ request. IsServed (length checkers) first event.seat request event.reply) is (fits k d within first).served

    -- the editor takes no job
    none_taken : 0 < length checkers → All (λ event. event.seat ≡ 0 → event.request ≢ Take) events
    none_taken some k d within mine is =
        let event = get_or events k d in
        let may = subst (λ request. IsServed (length checkers) first event.seat request event.reply) is (fits k d within first).served in
        let above = (may_take (length checkers) first event.seat some).0 may.0 in
        absurd (omega arith)

    -- no job waits, since none waits in what one checker has seen
    none_waits : 0 < length checkers → NoneWaits (replay first events)
    none_waits some =
        let one = first_one checkers some in
        let pass = one.0 in
        let checker = did 0 pass one.1 in
        let begins = begins_with 0 pass one.1 in
        replay_from NoneWaits first (seen pass) events begins
        (none_waits-replay (replay first (seen pass)) begins.0 checker.closed
        (All-from (λ (event : Event). (job : ℕ) → event.request ≢ GiveBack job) (seen pass) events begins none_given_back) checker.none_waits)

    -- no seat works on a job
    free : NoneTaken first → 0 < length checkers → NoneTaken (replay first events)
    free none some zero = free_stays-replay first events 0 (none 0) (none_taken some)
    free none some (suc n) =
        let seat : n + 1 ≡ suc n = omega arith in
        subst (λ k. IsFree (replay first events) k) seat (by (slice_get checkers n) refl) where
          by : (o : Option A) → slice_get checkers n ≡ o → IsFree (replay first events) (n + 1)
          by None at =
              free_from first (n + 1) [] events (events, refl) (of_others n ∙ ap (λ o. option_map_or own o []) at) (none (n + 1))
          by (Some pass) at =
              let checker = did n pass at in
              free_from first (n + 1) (seen pass) events (begins_with n pass at) (of_checker n pass at ∙ sym checker.mine) checker.free

    -- what comes after what the editor has seen is of other seats
    pub others_after : NoneOf 0 history.editor_saw.0
    others_after = none_of 0 history.editor_saw.0
        (events_of-rest seat_of 0 editor_seen events history.editor_saw (of_editor ∙ sym editor.mine))

    in_turn : InTurn first false nothing events
    in_turn =
        let begins = history.editor_saw in
        let others = others_after in
        subst (InTurn first false nothing) begins.1
        (InTurn-after first false nothing editor_seen begins.0 editor.each_due
        (InTurn-others (replay first editor_seen) (lost_after false editor_seen) (due_left first nothing editor_seen) begins.0 others editor.settled))

    -- the history of a run with checkers
    pub checked_law : Legal first events → NoneTaken first → 0 < length checkers → Schedule commands (length checkers) first events
    checked_law legal none some = record {
      legal = legal;
      fit = all_fit (length checkers) first events fits;
      ordered = asked_in-editor first events legal ∙ (ap asked_in of_editor ∙ editor.ordered);
      in_turn = in_turn;
      done = all_done (replay first events) (none_waits some) (free none some);
    }
