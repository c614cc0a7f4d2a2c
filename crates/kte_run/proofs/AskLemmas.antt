-- The requests of the editor, one after another.
use Rattle.std.proofs.Common.{◌≡◌, ◌≢◌, ◌∙◌, ℕ, zero, suc, ◌+◌, ◌*◌, ◌≤◌, Bool, true, false, List, [], ◌∷◌, ◌++◌, length, map, replicate, Option, Some, None, if◌then◌else◌, refl, ap, sym, subst, append_assoc, append-nil, arith, length-append}
use Rattle.std.specs.List.{cons_option}
use Rattle.std.specs.Option.{option_map}
use Rattle.std.proofs.lemmas.List.{length-replicate, length-map}
use Rattle.std.proofs.lemmas.List.Sums.{count_by-le-length}
use Rattle.kte_text.specs.Primitives.{FitInTurn}
use Rattle.kte_text.specs.declared.primitive.Primitive.{Primitive}
use Rattle.kte_text.specs.declared.loading.Loaded.{Loaded}
use Rattle.kte_undo.specs.Steps.{redo_of}
use Rattle.kte_jobs.specs.Job.{Job, is_waiting}
use Rattle.kte_jobs.proofs.JobLemmas.{job_at_number}
use Rattle.kte_command.specs.declared.command.Command.{Command}
use Rattle.kte_command.specs.declared.command.Command.TheVariants.{Begin, End}
use Rattle.kte_script.specs.declared.TheConstants.{MAX_COMMANDS}
use Rattle.kte_swap.specs.Swap.{SwapView}
use Rattle.kte_swap.specs.declared.causes.SwapState.TheVariants.{Guarded}
use Rattle.kte_core.specs.Jobs.{taken_in}
use Rattle.kte_core.specs.State.{State, Reaction}
use Rattle.kte_core.specs.React.{cut_at}
use Rattle.kte_core.specs.Requests.{HasNumbers, ranges_of}
use Rattle.kte_core.specs.Replay.{Session, Legal, IsAnswered, IsLegal, Finds, after_event, beginning, came_of, present, replay}
use Rattle.kte_core.specs.declared.event.Event.{Event}
use Rattle.kte_core.specs.declared.reply.Reply.{Reply}
use Rattle.kte_core.specs.declared.request.OutsideCall.{OutsideCall}
use Rattle.kte_core.specs.declared.request.Request.{Request}
use Rattle.kte_core.specs.declared.request.Request.TheVariants.{Cmd, Close, Take, Deliver, GiveBack, Outcome}
use Rattle.kte_core.proofs.CallerLemmas.{present-push}
use Rattle.kte_core.proofs.JournalLemmas.{EachIn-one_more, replay-append}
use Rattle.kte_core.proofs.CaseLemmas.{event_grows}
use Rattle.kte_core.proofs.AllJobLemmas.{jobs_rise}
use Rattle.kte_core.proofs.SeatLemmas.{free_stays, only_close}
use Rattle.kte_run.specs.declared.editor.Told.{Told}
use Rattle.kte_desk.specs.Schedule.{AllFit, Due, Fits, IsServed, append_of, asked_for, asked_from, asked_in, depth_after, depth_by, due_after, due_of, if_asked, lost_after, lost_by, nothing}
use Rattle.kte_desk.specs.Serving.{NoneTaken, own}
use Rattle.kte_run.specs.Editor.{Part, IsOwn, IsAt, IsOwed, Follows, asked, asked_after, asked_left, asked_next, first_of, is_lost, left, next_after, next_of, owed_count, part_of, telling, work}
use Rattle.kte_run.specs.Alone.{Asking, Asks, EachDue, due_left}
use Rattle.kte_run.proofs.DueLemmas.{EachDue-last, due_left-last, lost_after-last}
use Rattle.kte_run.proofs.EditorLemmas.{came-close, came-outcome}
use Rattle.kte_desk.proofs.HistoryLemmas.{asked_in-append}

-- ---- one request of the editor

own-take : (request : Request) → IsOwn request → request ≢ Take
own-take (Cmd command) is = λ take. cc
own-take Close is = λ take. cc
own-take Take is = absurd is
own-take (Deliver job findings) is = absurd is
own-take (GiveBack job) is = absurd is
own-take (Outcome call ok) is = λ take. cc

own-ranges : (request : Request) → IsOwn request → ranges_of request ≡ suc zero
own-ranges (Cmd command) is = refl
own-ranges Close is = refl
own-ranges Take is = absurd is
own-ranges (Deliver job findings) is = absurd is
own-ranges (GiveBack job) is = absurd is
own-ranges (Outcome call ok) is = refl

own-finds : (state : State) (request : Request) → IsOwn request → Finds state 0 request
own-finds state (Cmd command) is = tt
own-finds state Close is = tt
own-finds state Take is = absurd is
own-finds state (Deliver job findings) is = absurd is
own-finds state (GiveBack job) is = absurd is
own-finds state (Outcome call ok) is = tt

-- what the editor asks for is served, whoever takes jobs
pub own-served : (workers : ℕ) (state : State) (seat : ℕ) (request : Request) (answer : Reply) → IsOwn request
    → IsServed workers state seat request answer
own-served workers state seat (Cmd command) answer is = tt
own-served workers state seat Close answer is = tt
own-served workers state seat Take answer is = absurd is
own-served workers state seat (Deliver job findings) answer is = absurd is
own-served workers state seat (GiveBack job) answer is = absurd is
own-served workers state seat (Outcome call ok) answer is = tt

-- after an outcome nothing is called for, nor after the close of a session that is open
due-outcome : (state : State) (call : OutsideCall) (ok : Bool) (answer : Reply) → cut_at answer ≡ None
    → IsAnswered state (own (Outcome call ok) answer)
    → due_of (Outcome call ok) (came_of state (own (Outcome call ok) answer)).finished answer ≡ nothing
due-outcome state call ok answer whole answered =
    let came = came-outcome state call ok answer whole in
    let finished : Option (List Primitive) = (came_of state (own (Outcome call ok) answer)).finished in
    ap (λ (a : Reply). due_of (Outcome call ok) finished a) (answered.reply ∙ ap (λ (c : Reaction). c.reply) came)
    ∙ ap (λ (c : Reaction). append_of c.finished) came

due-close : (state : State) (answer : Reply) → state.closed ≡ false → cut_at answer ≡ None → IsAnswered state (own Close answer)
    → due_of Close (came_of state (own Close answer)).finished answer ≡ nothing
due-close state answer still_open whole answered =
    let came = came-close state answer still_open whole in
    let finished : Option (List Primitive) = (came_of state (own Close answer)).finished in
    ap (λ (a : Reply). due_of Close finished a) (answered.reply ∙ ap (λ (c : Reaction). c.reply) came)
    ∙ ap (λ (c : Reaction). append_of c.finished) came

-- ---- what is left

-- what is left of a part with these fields
abbrev left_by : List Command → ℕ → Bool → Bool → List Request
left_by commands depth closed failed = if closed then [] else if failed then Close ∷ [] else asked_from depth commands

-- the first of the requests that are left is a command or the close
first-in : (commands : List Command) (request : Request) → first_of (map Cmd commands ++ Close ∷ []) ≡ Some request
    → if_asked request ≡ Some request
first-in [] request first = let is : Close ≡ request = cc in subst (λ (r : Request). if_asked r ≡ Some r) is refl
first-in (command ∷ commands) request first =
    let is : Cmd command ≡ request = cc in subst (λ (r : Request). if_asked r ≡ Some r) is refl

first-asked : (commands : List Command) (depth : ℕ) (closed failed : Bool) (request : Request)
    → first_of (left_by commands depth closed failed) ≡ Some request → if_asked request ≡ Some request
first-asked commands depth true failed request first = absurd (cc)
first-asked commands depth false true request first = first-in [] request first
first-asked commands depth false false request first = first-in (commands ++ replicate (depth_after depth commands) End) request first

never-first : (requests : List Request) → first_of (requests ++ Close ∷ []) ≡ None → ⊥
never-first [] none = cc
never-first (request ∷ requests) none = cc

left-closed : (commands : List Command) (depth : ℕ) (closed failed : Bool) → first_of (left_by commands depth closed failed) ≡ None → closed ≡ true
left-closed commands depth true failed none = refl
left-closed commands depth false true none = absurd (cc)
left-closed commands depth false false none =
    absurd (never-first (map Cmd (commands ++ replicate (depth_after depth commands) End)) none)

none-left : (requests : List Request) → first_of requests ≡ None → requests ≡ []
none-left [] none = refl
none-left (request ∷ requests) none = absurd (cc)

-- what is owed, and what is left, where nothing comes next
next-none : (requests : List Request) (owed : Option Told) → next_after requests owed ≡ None → (owed ≡ None) × (first_of requests ≡ None)
next-none requests None none = (refl, none)
next-none requests (Some told) none = absurd (cc)

-- nothing comes next of a part that is closed, unless something is owed
next-open : (commands : List Command) (depth : ℕ) (closed failed : Bool) (owed : Option Told) (request : Request)
    → next_after (left_by commands depth closed failed) owed ≡ Some request → (closed ≡ true → owed ≡ None) → closed ≡ false
next-open commands depth false failed owed request next none = refl
next-open commands depth true failed owed request next none =
    let shut : next_after [] None ≡ Some request = ap (next_after []) (sym (none refl)) ∙ next in absurd (cc)

-- the next request tells what is owed, or else is a command or the close
abbrev pub NextBy : Option Told → Request → Type 0
NextBy None request = if_asked request ≡ Some request
NextBy (Some told) request = telling told ≡ request

next_by : (commands : List Command) (depth : ℕ) (closed failed : Bool) (owed : Option Told) (request : Request)
    → next_after (left_by commands depth closed failed) owed ≡ Some request → NextBy owed request
next_by commands depth closed failed None request next = first-asked commands depth closed failed request next
next_by commands depth closed failed (Some told) request next = cc

pub next-by : (part : Part) (request : Request) → next_of part ≡ Some request → NextBy part.owed request
next-by part request next = next_by part.commands part.depth part.closed part.failed part.owed request next

depth-rises : (depth : ℕ) (command : Command) → depth_by depth command ≤ depth + 1
depth-rises depth Begin = omega arith
depth-rises depth End = omega arith
depth-rises depth _ = omega arith

depth-few : (depth : ℕ) (commands : List Command) → depth_after depth commands ≤ depth + length commands
depth-few depth [] = omega arith
depth-few depth (command ∷ commands) = omega (arith, depth-few (depth_by depth command) commands, depth-rises depth command)

pub length-asked : (commands : List Command) → length (asked_for commands) ≤ 2 * length commands + 1
length-asked commands =
    let ends : List Command = replicate (depth_after 0 commands) End in
    omega (
      arith,
      length-append (map Cmd (commands ++ ends)) (Close ∷ []),
      length-map (commands ++ ends) Cmd,
      length-append commands ends,
      length-replicate (depth_after 0 commands) End,
      depth-few 0 commands,
    )

-- ---- how much is left to do

owed-few : (owed : Option Told) → owed_count owed ≤ 1
owed-few None = omega arith
owed-few (Some told) = omega arith

-- a request was asked for, or an outcome was told
pub work-less : (state : State) (lost : Bool) (due : Due) (request : Request) (answer : Reply) (before after : Part)
    → next_of before ≡ Some request → cut_at answer ≡ None → IsAnswered state (own request answer)
    → Follows state lost due (own request answer) before after → work after + 1 ≤ work before
work-less state lost due request answer before after next whole answered follows =
    by before.owed refl next where
      asked_one : if_asked request ≡ Some request → asked_in (own request answer ∷ []) ≡ request ∷ []
      asked_one is = ap (λ (asked : Option Request). cons_option asked []) is

      none_owed : (told : Told) → telling told ≡ request → owed_count after.owed ≡ 0
      none_owed told is =
          let nothing_due : due_after state due (own request answer) ≡ nothing =
          subst (λ (r : Request). IsAnswered state (own r answer) → due_after state due (own r answer) ≡ nothing) is
          (due-outcome state told.call told.ok answer whole) answered in
          let none : after.owed ≡ None = subst (λ (d : Due). IsOwed d (lost_by lost request) after.owed) nothing_due follows.at.owed in
          ap owed_count none

      none_asked : (told : Told) → telling told ≡ request → asked_in (own request answer ∷ []) ≡ []
      none_asked told is = subst (λ (r : Request). asked_in (own r answer ∷ []) ≡ []) is refl

      by : (owed : Option Told) → before.owed ≡ owed → next_after (left before) owed ≡ Some request → work after + 1 ≤ work before
      by None is first =
          let one = asked_one (first-asked before.commands before.depth before.closed before.failed request first) in
          let more : length (left before) ≡ suc (length (left after)) =
          ap length follows.left ∙ ap (λ (requests : List Request). length (requests ++ left after)) one in
          omega (arith, more, owed-few after.owed, ap owed_count is)
      by (Some told) is first =
          let same : telling told ≡ request = cc in
          let more : length (left before) ≡ length (left after) =
          ap length follows.left ∙ ap (λ (requests : List Request). length (requests ++ left after)) (none_asked told same) in
          omega (arith, more, none_owed told same, ap owed_count is)

-- ---- the requests so far

-- nothing was asked for yet
pub Asking-none : (commands : List Command) (first : State) (swap : SwapView) (part : Part) → first.editing.edits.depth ≡ 0
    → first.closed ≡ false → redo_of first.editing.edits.current ≡ [] → part ≡ part_of commands swap → swap.state ≡ Guarded
    → Asking commands first first [] part
Asking-none commands first swap part depth still_open none is guarded =
    subst (Asking commands first first []) (sym is) (record {
      now_is = refl;
      each_due = tt;
      ordered = refl;
      at = record {
        depth = depth;
        closed = still_open;
        current = none;
        shut = λ shut. refl;
        owed = refl;
        lost = ap is_lost guarded;
      };
      shut = λ closed. absurd (cc);
    })

-- one request more, and what was replied to it
pub record Asked (state : State) (part : Part) (request : Request) (answer : Reply) : Type 0 where
  pub next_is : next_of part ≡ Some request
  pub own_is : IsOwn request
  pub answered : IsAnswered state (own request answer)
  pub whole : cut_at answer ≡ None

-- where the part is closed by an event, that was the close
shut-last : (state : State) (due : Due) (request : Request) (answer : Reply) → state.closed ≡ false
    → (after_event state (own request answer)).closed ≡ true → cut_at answer ≡ None → IsAnswered state (own request answer)
    → due_after state due (own request answer) ≡ nothing
shut-last state due request answer still_open closed whole answered =
    subst (λ (r : Request). IsAnswered state (own r answer) → due_after state due (own r answer) ≡ nothing)
    (sym (only_close state (own request answer) still_open closed)) (due-close state answer still_open whole) answered

pub Asking-more : (commands : List Command) (first now : State) (events : List Event) (part later : Part) (request : Request) (answer : Reply)
    → Asking commands first now events part → Asked now part request answer
    → Follows now (lost_after false events) (due_left first nothing events) (own request answer) part later
    → Asking commands first (after_event now (own request answer)) (events ++ own request answer ∷ []) later
Asking-more commands first now events part later request answer asking asked follows =
    let last : Event = own request answer in
    let more : List Event = events ++ last ∷ [] in
    let due : Due = due_left first nothing events in
    let due_next : due_left first nothing more ≡ due_after now due last =
    due_left-last first nothing events last ∙ ap (λ (s : State). due_after s due last) (sym asking.now_is) in
    -- nothing was called for once the part was closed, so it is not, where something comes next
    let still_open : part.closed ≡ false =
    next-open part.commands part.depth part.closed part.failed part.owed request asked.next_is
    (λ closed. subst (λ (d : Due). IsOwed d (lost_after false events) part.owed) (asking.shut closed) asking.at.owed) in
    record {
      now_is = ap (λ (s : State). after_event s last) asking.now_is ∙ sym (replay-append first events (last ∷ []));
      each_due = EachDue-last first false nothing events last asking.each_due (λ mine. follows.due);
      ordered = ap (λ (requests : List Request). requests ++ left later) (asked_in-append events (last ∷ []))
          ∙ append_assoc (asked_in events) (asked_in (last ∷ [])) (left later)
          ∙ ap (λ (requests : List Request). asked_in events ++ requests) (sym follows.left)
          ∙ asking.ordered;
      at = subst (λ (lost : Bool). IsAt (after_event now last) lost (due_left first nothing more) later) (sym (lost_after-last false events last))
          (subst (λ (d : Due). IsAt (after_event now last) (lost_by (lost_after false events) request) d later) (sym due_next) follows.at);
      shut = λ closed. due_next
          ∙ shut-last now due request answer (asking.at.closed ∙ still_open) (follows.at.closed ∙ closed) asked.whole asked.answered;
    }

-- the part knows as much once nothing more was asked for
pub Asking-asked : (commands : List Command) (first now : State) (events : List Event) (part : Part) → Asking commands first now events part
    → Asking commands first now events (record part { asking = None })
Asking-asked commands first now events part asking = record {
  now_is = asking.now_is;
  each_due = asking.each_due;
  ordered = asking.ordered;
  at = record {
    depth = asking.at.depth;
    closed = asking.at.closed;
    current = asking.at.current;
    shut = asking.at.shut;
    owed = asking.at.owed;
    lost = asking.at.lost;
  };
  shut = asking.shut;
}

-- nothing is owed where nothing comes next
pub none-owed : (part : Part) → next_of part ≡ None → part.owed ≡ None
none-owed part none = (next-none (left part) part.owed none).0

-- .. the part is closed
pub none-closed : (part : Part) → next_of part ≡ None → part.closed ≡ true
none-closed part none = left-closed part.commands part.depth part.closed part.failed (next-none (left part) part.owed none).1

-- .. and all was asked for
pub Asking-ordered : (commands : List Command) (first now : State) (events : List Event) (part : Part) → Asking commands first now events part
    → next_of part ≡ None → asked_in events ≡ asked_for commands
Asking-ordered commands first now events part asking none =
    let nothing_left : left part ≡ [] = none-left (left part) (next-none (left part) part.owed none).1 in
    sym (append-nil (asked_in events)) ∙ ap (λ (requests : List Request). asked_in events ++ requests) (sym nothing_left) ∙ asking.ordered

-- ---- by the editor alone

-- the numbers after so many events
pub record Few (state : State) (n : ℕ) : Type 0 where
  pub depth : state.editing.edits.depth ≤ n
  pub jobs : length state.jobs ≤ n
  pub ranges : state.next_id ≤ n + 1

-- the state that a session begins in
abbrev pub first_state : Session → State
first_state session = beginning session.loaded session.limit

-- the requests of a script so far, from a session without events, which has none of others
pub record AskingAlone (commands : List Command) (before now : Session) (part : Part) : Type 0 where
  pub begun : now ≡ record before { events = now.events }
  pub legal : Legal (first_state before) now.events
  pub fit : AllFit 0 (first_state before) now.events
  pub asks : Asking commands (first_state before) (present now) now.events part
  pub none_taken : NoneTaken (present now)
  pub few : Few (present now) (length now.events)
  pub count : length now.events + work part ≤ 2 * length (asked_for commands)

-- at first nobody works on a job
pub none_first : (loaded : Loaded) (limit : ℕ) → NoneTaken (beginning loaded limit)
none_first loaded limit seat zero = refl
none_first loaded limit seat (suc n) =
    ap (λ (found : Option Job). taken_in seat (option_map (λ (job : Job). job.state) found)) (job_at_number [] (suc n) (omega arith))

-- nothing was asked for yet
pub AskingAlone-none : (commands : List Command) (before : Session) (swap : SwapView) (part : Part) → before.events ≡ []
    → part ≡ part_of commands swap → swap.state ≡ Guarded → AskingAlone commands before before part
AskingAlone-none commands before swap part fresh is guarded =
    let first : State = first_state before in
    record {
      begun = refl;
      legal = subst (Legal first) (sym fresh) tt;
      fit = subst (AllFit 0 first) (sym fresh) tt;
      asks = subst (λ (events : List Event). Asking commands first (replay first events) events part) (sym fresh)
          (Asking-none commands first swap part refl refl refl is guarded);
      none_taken = subst (λ (events : List Event). NoneTaken (replay first events)) (sym fresh) (none_first before.loaded before.limit);
      few = subst (λ (events : List Event). Few (replay first events) (length events)) (sym fresh)
          (record { depth = omega arith; jobs = omega arith; ranges = omega arith });
      count = subst (λ (p : Part). length before.events + work p ≤ 2 * length (asked_for commands)) (sym is) (omega (arith, ap length fresh));
    }

-- there are numbers for the next request
pub AskingAlone-numbers : (commands : List Command) (before now : Session) (part : Part) (request : Request) → AskingAlone commands before now part
    → length commands ≤ MAX_COMMANDS → IsOwn request → HasNumbers (present now) request
AskingAlone-numbers commands before now part request asking few is =
    let long = length-asked commands in
    let count = asking.count in
    let depth = asking.few.depth in
    let jobs = asking.few.jobs in
    let ranges = asking.few.ranges in
    let one = own-ranges request is in
    record { depth = omega arith; jobs = omega arith; ranges = omega arith }

pub AskingAlone-more : (commands : List Command) (before now next : Session) (part later : Part) (request : Request) (answer : Reply)
    → AskingAlone commands before now part → next ≡ record now { events = now.events ++ own request answer ∷ [] }
    → Asked (present now) part request answer
    → Follows (present now) (lost_after false now.events) (due_left (first_state before) nothing now.events) (own request answer) part later
    → AskingAlone commands before next later
AskingAlone-more commands before now next part later request answer asking event asked follows =
    subst (λ (session : Session). AskingAlone commands before session later) (sym event) (record {
      begun = ap (λ (session : Session). record session { events = now.events ++ last ∷ [] }) asking.begun;
      legal = EachIn-one_more IsLegal first now.events last asking.legal
          (subst (λ (s : State). IsLegal s last) asking.asks.now_is
          (record { answered = asked.answered; finds = own-finds state request asked.own_is }));
      fit = EachIn-one_more (Fits 0) first now.events last asking.fit
          (record { seat = omega arith; whole = asked.whole; served = own-served 0 (replay first now.events) 0 request answer asked.own_is });
      asks = subst (λ (s : State). Asking commands first s (now.events ++ last ∷ []) later) (sym is_next)
          (Asking-more commands first state now.events part later request answer asking.asks asked follows);
      none_taken = subst NoneTaken (sym is_next) (λ seat. free_stays state last seat (asking.none_taken seat) (λ mine. own-take request asked.own_is));
      few = subst (λ (s : State). Few s (length (now.events ++ last ∷ []))) (sym is_next) numbers;
      count = omega (
        arith,
        asking.count,
        longer,
        work-less state (lost_after false now.events) (due_left first nothing now.events) request answer part later asked.next_is asked.whole
            asked.answered follows,
      );
    }) where
      first : State
      first = first_state before

      state : State
      state = present now

      last : Event
      last = own request answer

      is_next : present (record now { events = now.events ++ own request answer ∷ [] }) ≡ after_event (present now) (own request answer)
      is_next = present-push now (own request answer)

      longer : length (now.events ++ own request answer ∷ []) ≡ length now.events + 1
      longer = length-append now.events (own request answer ∷ [])

      numbers : Few (after_event (present now) (own request answer)) (length (now.events ++ own request answer ∷ []))
      numbers =
          let grown = event_grows (present now) (own request answer) in
          let rises = jobs_rise (present now) (own request answer) in
          let one = own-ranges request asked.own_is in
          let depth = asking.few.depth in
          let jobs = asking.few.jobs in
          let ranges = asking.few.ranges in
          record { depth = omega (arith, grown.depth, longer); jobs = omega (arith, rises, longer); ranges = omega (arith, grown.next_id, longer) }

-- all was asked for
pub AskingAlone-all : (commands : List Command) (before now : Session) (part : Part) → before.events ≡ [] → AskingAlone commands before now part
    → length commands ≤ MAX_COMMANDS → next_of part ≡ None → Asks commands before now
AskingAlone-all commands before now part fresh asking few none =
    let closed = none-closed part none in
    let long = length-asked commands in
    let count = asking.count in
    let depth = asking.few.depth in
    let jobs = asking.few.jobs in
    let ranges = asking.few.ranges in
    let waiting = count_by-le-length (λ (job : Job). is_waiting job.state) (present now).jobs in
    let start : first_state before ≡ present before = sym (ap (replay (first_state before)) fresh) in
    record {
      added = now.events;
      events = asking.begun ∙ ap (λ (events : List Event). record before { events = events ++ now.events }) (sym fresh);
      legal = subst (λ (s : State). Legal s now.events) start asking.legal;
      fit = subst (λ (s : State). AllFit 0 s now.events) start asking.fit;
      each_due = subst (λ (s : State). EachDue s false nothing now.events) start asking.asks.each_due;
      settled = subst (λ (s : State). due_left s nothing now.events ≡ nothing) start (asking.asks.shut closed);
      ordered = Asking-ordered commands (first_state before) (present now) now.events part asking.asks none;
      can = record { depth = omega arith; jobs = omega arith; ranges = omega arith };
      idle = record { closed = asking.asks.at.closed ∙ closed; none_taken = asking.none_taken };
    }

-- ---- what asking keeps of the part

pub record KeepsPart (part later : Part) : Type 0 where
  pub depth : later.depth ≡ part.depth
  pub failed : later.failed ≡ part.failed
  pub current : later.current ≡ part.current
  pub swap : later.swap ≡ part.swap
  pub replace_failed : later.replace_failed ≡ part.replace_failed

pick : (P : Part → Type 0) (b : Bool) (first second : Part) → P first → P second → P (if b then first else second)
pick P true first second one other = one
pick P false first second one other = other

keeps-next : (commands : List Command) (depth : ℕ) (part : Part) → KeepsPart part (asked_next commands depth part)
keeps-next (command ∷ commands) depth part = record { depth = refl; failed = refl; current = refl; swap = refl; replace_failed = refl }
keeps-next [] (suc depth) part = record { depth = refl; failed = refl; current = refl; swap = refl; replace_failed = refl }
keeps-next [] zero part = record { depth = refl; failed = refl; current = refl; swap = refl; replace_failed = refl }

keeps-left : (part : Part) → KeepsPart part (asked_left part)
keeps-left part =
    pick (KeepsPart part) part.closed part
    (if part.failed then record part { closed = true } else asked_next part.commands part.depth part)
    (record { depth = refl; failed = refl; current = refl; swap = refl; replace_failed = refl })
    (pick (KeepsPart part) part.failed (record part { closed = true }) (asked_next part.commands part.depth part)
    (record { depth = refl; failed = refl; current = refl; swap = refl; replace_failed = refl }) (keeps-next part.commands part.depth part))

keeps-after : (owed : Option Told) (part : Part) → KeepsPart part (asked_after owed part)
keeps-after None part = keeps-left part
keeps-after (Some told) part = record { depth = refl; failed = refl; current = refl; swap = refl; replace_failed = refl }

pub keeps-asked : (part mid : Part) → mid ≡ asked part → KeepsPart part mid
keeps-asked part mid is =
    let kept = keeps-after part.owed (record part { asking = None }) in
    subst (KeepsPart part) (sym is) (record { depth = kept.depth; failed = kept.failed; current = kept.current; swap = kept.swap; replace_failed = kept.replace_failed })

-- what was made fits, seen from the state before it
pub fit-now : (state after : State) (event : Event) → after ≡ after_event state event
    → FitInTurn after.editing.trail after.editing.loaded.text
    → FitInTurn (after_event state event).editing.trail state.editing.loaded.text
fit-now state after event is fit =
    subst (λ (l : Loaded). FitInTurn (after_event state event).editing.trail l.text) (event_grows state event).loaded
    (subst (λ (s : State). FitInTurn s.editing.trail s.editing.loaded.text) is fit)
