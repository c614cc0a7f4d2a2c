-- The whole run: what the editor asked for, and then the jobs, which tell of no call outside.
use Rattle.std.proofs.Common.{◌≡◌, ◌∙◌, ℕ, Bool, true, false, List, [], ◌∷◌, ◌++◌, All, Option, Some, None, IfSome, if◌then◌else◌, nat_eq, inl, inr, refl, ap, sym, subst, append_assoc, append-nil, arith}
use Rattle.std.specs.List.{AllByRecursion, cons_option}
use Rattle.std.proofs.lemmas.List.Elements.{All-head, All-tail}
use Rattle.kte_text.specs.declared.primitive.Primitive.{Primitive}
use Rattle.kte_jobs.specs.declared.job.JobState.TheVariants.{Done}
use Rattle.kte_causes.specs.Moments.{Moment, latest}
use Rattle.kte_causes.specs.declared.causes.DiskCall.{DiskCall}
use Rattle.kte_swap.specs.Swap.{SwapView}
use Rattle.kte_command.specs.declared.command.Command.{Command}
use Rattle.kte_core.specs.State.{State}
use Rattle.kte_core.specs.Replay.{Session, Legal, after_event, beginning, came_of, present, replay, IsLegal}
use Rattle.kte_core.specs.declared.event.Event.{Event}
use Rattle.kte_core.specs.declared.reply.Reply.{Reply}
use Rattle.kte_core.specs.declared.reply.Reply.TheVariants as reply
use Rattle.kte_core.specs.declared.request.Request.{Request}
use Rattle.kte_core.specs.declared.request.Request.TheVariants.{Cmd, Close, Take, Deliver, GiveBack, Outcome}
use Rattle.kte_core.proofs.JournalLemmas.{EachIn-append}
use Rattle.kte_run.specs.declared.status.Status.{Status}
use Rattle.kte_run.specs.declared.status.Status.TheVariants as status
use Rattle.kte_desk.specs.Schedule.{AllFit, Due, Fits, InTurn, IsDue, IsFree, Schedule, WentWell, append, append_of, asked_in, delivery, due_after, due_of, if_asked, lost_after, lost_by, nothing, outcome, outcome_of}
use Rattle.kte_desk.specs.Serving.{Drains}
use Rattle.kte_run.specs.Alone.{Asks, EachDue, TellsDisk, due_left}
use Rattle.kte_run.specs.Run.{Outer}
use Rattle.kte_run.specs.Outcomes.{Counted, Holds, IsEnding, Keeps, failed_appends, failed_calls, file_after, unsaved_after}
use Rattle.kte_run.proofs.ApartLemmas.{IsApart, Same, Same-apart, TellsNothing}
use Rattle.kte_run.proofs.DueLemmas.{InTurn-after}
use Rattle.kte_desk.proofs.HistoryLemmas.{asked_in-append, present-more}

-- ---- the jobs tell of no call outside

-- no outcome is called for
abbrev IsCalm : Due → Type 0
IsCalm nothing = Unit {0}
IsCalm append = Unit {0}
IsCalm (outcome call) = ⊥
IsCalm (delivery job) = Unit {0}

apart-free : (request : Request) → IsFree request → if_asked request ≡ None → IsApart request
apart-free (Cmd command) free none = absurd (cc)
apart-free Close free none = absurd (cc)
apart-free Take free none = tt
apart-free (Deliver job findings) free none = tt
apart-free (GiveBack job) free none = absurd free
apart-free (Outcome call ok) free none = absurd free

apart-delivery : (job : ℕ) (lost : Bool) (request : Request) → IsDue (delivery job) lost request → IsApart request
apart-delivery job lost (Cmd command) due = absurd due
apart-delivery job lost Close due = absurd due
apart-delivery job lost Take due = absurd due
apart-delivery job lost (Deliver number findings) due = tt
apart-delivery job lost (GiveBack number) due = absurd due
apart-delivery job lost (Outcome call ok) due = absurd due

apart-due : (due : Due) (lost : Bool) (request : Request) → IsCalm due → IsDue due lost request → if_asked request ≡ None → WentWell request
    → IsApart request
apart-due nothing lost request calm is none well = apart-free request is none
apart-due append lost request calm (inl free) none well = apart-free request free none
apart-due append lost request calm (inr failed) none well =
    let never : false ≡ true = subst WentWell failed.told well in absurd (cc)
apart-due (outcome call) lost request calm is none well = absurd calm
apart-due (delivery job) lost request calm is none well = apart-delivery job lost request is

calm-append : (finished : Option (List Primitive)) → IsCalm (append_of finished)
calm-append None = tt
calm-append (Some transaction) = tt

calm-outcome : (request : Request) (finished : Option (List Primitive)) → IsApart request → IsCalm (outcome_of request (append_of finished))
calm-outcome (Cmd command) finished apart = absurd apart
calm-outcome Close finished apart = absurd apart
calm-outcome Take finished apart = calm-append finished
calm-outcome (Deliver job findings) finished apart = calm-append finished
calm-outcome (GiveBack job) finished apart = calm-append finished
calm-outcome (Outcome call ok) finished apart = absurd apart

calm-due : (request : Request) (finished : Option (List Primitive)) (answer : Reply) → IsApart request → IsCalm (due_of request finished answer)
calm-due request finished (reply.Took job revision) apart = tt
calm-due request finished reply.Asked apart = calm-outcome request finished apart
calm-due request finished _ apart = calm-append finished

calm-by : (own : Bool) (mine due : Due) → IsCalm mine → IsCalm due → IsCalm (if own then mine else due)
calm-by true mine due one other = one
calm-by false mine due one other = other

none-asked : (asked : Option Request) (rest : List Request) → cons_option asked rest ≡ [] → (asked ≡ None) × (rest ≡ [])
none-asked None rest none = (refl, none)
none-asked (Some request) rest none = absurd (cc)

apart-all : (state : State) (lost : Bool) (due : Due) (events : List Event) → IsCalm due → InTurn state lost due events → AllFit 0 state events
    → asked_in events ≡ [] → All (λ event. WentWell event.request) events → AllByRecursion TellsNothing events
apart-all state lost due [] calm turn fit none well = tt
apart-all state lost due (event ∷ events) calm turn fit none well =
    let parts = none-asked (if_asked event.request) (asked_in events) none in
    let seat = fit.0.seat in
    let P : Event → Type 0 = λ event. WentWell event.request in
    let apart = apart-due due lost event.request calm (turn.0 (omega arith)) parts.0 (All-head P event events well) in (
      (apart, fit.0.whole),
      apart-all (after_event state event) (lost_by lost event.request) (due_after state due event) events
          (calm-by (nat_eq event.seat 0) (due_of event.request (came_of state event).finished event.reply) due
          (calm-due event.request (came_of state event).finished event.reply apart) calm)
          turn.1 fit.1 parts.1 (All-tail P event events well),
    )

-- ---- the whole run

ended : (commands : List Command) (before between after : Session) (asks : Asks commands before between) (drains : Drains between after)
    → after ≡ record before { events = before.events ++ (asks.added ++ drains.serves.added) }
ended commands before between after asks drains =
    drains.serves.events
    ∙ ap (λ (session : Session). record session { events = session.events ++ drains.serves.added }) asks.events
    ∙ ap (λ (events : List Event). record before { events = events }) (append_assoc before.events asks.added drains.serves.added)

pub scheduled : (commands : List Command) (before between after : Session) → before.events ≡ [] → Asks commands before between
    → Drains between after → Schedule commands 0 (beginning before.loaded before.limit) after.events
scheduled commands before between after fresh asks drains =
    let first : State = beginning before.loaded before.limit in
    let added : List Event = drains.serves.added in
    let all : List Event = asks.added ++ added in
    let start : present before ≡ first = ap (replay first) fresh in
    let at_end : after ≡ record before { events = all } =
    ended commands before between after asks drains ∙ ap (λ (events : List Event). record before { events = events ++ all }) fresh in
    let more : present between ≡ replay first asks.added =
    present-more before between asks.added asks.events ∙ ap (λ (state : State). replay state asks.added) start in
    let turn : InTurn (replay first asks.added) (lost_after false asks.added) (due_left first nothing asks.added) added =
    subst (λ (due : Due). InTurn (replay first asks.added) (lost_after false asks.added) due added)
    (sym asks.settled ∙ ap (λ (state : State). due_left state nothing asks.added) start)
    (subst (λ (state : State). InTurn state (lost_after false asks.added) nothing added) more
    (drains.serves.alone.in_turn (lost_after false asks.added))) in
    let whole : Schedule commands 0 first all = record {
      legal = EachIn-append IsLegal first asks.added added (subst (λ (state : State). Legal state asks.added) start asks.legal)
          (subst (λ (state : State). Legal state added) more drains.serves.alone.legal);
      fit = EachIn-append (Fits 0) first asks.added added (subst (λ (state : State). AllFit 0 state asks.added) start asks.fit)
          (subst (λ (state : State). AllFit 0 state added) more drains.serves.alone.fit);
      ordered = asked_in-append asks.added added
          ∙ ap (λ (requests : List Request). asked_in asks.added ++ requests) drains.serves.ordered
          ∙ append-nil (asked_in asks.added) ∙ asks.ordered;
      in_turn = InTurn-after first false nothing asks.added added
          (subst (λ (state : State). EachDue state false nothing asks.added) start asks.each_due) turn;
      done = subst (λ (session : Session). All (λ job. job.state ≡ Done) (present session).jobs) at_end drains.done;
    } in
    subst (Schedule commands 0 first) (sym (ap (λ (session : Session). session.events) at_end)) whole

pub begun : (commands : List Command) (before between after : Session) → Asks commands before between → Drains between after
    → after ≡ record before { events = after.events }
begun commands before between after asks drains =
    let at_end = ended commands before between after asks drains in
    at_end ∙ ap (λ (events : List Event). record before { events = events }) (sym (ap (λ (session : Session). session.events) at_end))

-- the outcomes of the whole run are those of its requests
pub same : (commands : List Command) (before between after : Session) → before.events ≡ [] → Asks commands before between → Drains between after
    → Same (beginning before.loaded before.limit) between.events after.events
same commands before between after fresh asks drains =
    let first : State = beginning before.loaded before.limit in
    let more : List Event = drains.serves.added in
    let alone = drains.serves.alone in
    let start : present before ≡ first = ap (replay first) fresh in
    let asked : between.events ≡ asks.added =
    ap (λ (session : Session). session.events) asks.events ∙ ap (λ (events : List Event). events ++ asks.added) fresh in
    let apart = apart-all (present between) false nothing more tt (alone.in_turn false) alone.fit drains.serves.ordered alone.went_well in
    let is : between.events ++ more ≡ after.events = sym (ap (λ (session : Session). session.events) drains.serves.events) in
    subst (Same first between.events) is (Same-apart first between.events more apart)

counted-same : (first : State) (events later : List Event) (before after : DiskCall → ℕ) → Same first events later
    → Counted (failed_appends events) (failed_calls false events) before after
    → Counted (failed_appends later) (failed_calls false later) before after
counted-same first events later before after told counted =
    subst (λ (n : ℕ). Counted n (failed_calls false later) before after) (sym told.appends)
    (subst (λ (n : ℕ). Counted (failed_appends events) n before after) (sym told.calls) counted)

ending-same : (first : State) (events later : List Event) (given : Status) (before after : DiskCall → ℕ) → Same first events later
    → IsEnding given events before after → IsEnding given later before after
ending-same first events later status.Ok before after told ending = (told.lost ∙ ending.0, ending.1)
ending-same first events later status.SwapLost before after told ending = (told.lost ∙ ending.0, ending.1)
ending-same first events later status.DiskFault before after told ending = (ending.0, told.save ending.1)
ending-same first events later _ before after told ending = absurd ending

keeps-same : (file : List ℕ) (first : State) (events later : List Event) (moments : Option (List Moment)) → Same first events later
    → Keeps file first events moments → Keeps file first later moments
keeps-same file first events later moments told keeps = λ kept.
    subst (λ (bytes : List ℕ). IfSome moments (λ ms. Holds bytes (unsaved_after first later []) (latest ms))) (sym (told.file file))
    (subst (λ (ts : List (List Primitive)). IfSome moments (λ ms. Holds (file_after first events file) ts (latest ms))) (sym told.unsaved)
    (keeps (sym told.lost ∙ kept)))

-- what is told of the disk is so too
pub tells-same : (ending : Status) (first : State) (events later : List Event) (swap : SwapView) (before after : Outer) → Same first events later
    → TellsDisk ending first events swap before after → TellsDisk ending first later swap before after
tells-same ending first events later swap before after told tells = record {
  counted = counted-same first events later before.faults after.faults told tells.counted;
  ends = ending-same first events later ending before.faults after.faults told tells.ends;
  ended = tells.ended;
  keeps = λ file begins. keeps-same file first events later after.moments told (tells.keeps file begins);
}
