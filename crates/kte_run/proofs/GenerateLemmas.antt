-- What is printed for a generated script.
use Rattle.std.proofs.Common.{◌≡◌, ◌≢◌, ◌∙◌, inr, ℕ, ◌≤◌, false, List, [], ◌∷◌, ◌++◌, length, Option, Some, None, Result, Ok, IfSome, IsSomeAnd, refl, ap, sym, subst, arith, Err, length-drop}
use Rattle.std.specs.Prelude.{◌↔◌}
use Rattle.std.proofs.lemmas.Str.{IsUtf8-nil}
use Rattle.kte_causes.specs.Contents.{AppendsPrefix}
use Rattle.kte_causes.specs.Faults.{Rose}
use Rattle.kte_causes.specs.Moments.{Moment, AddsMoments, Staying, latest}
use Rattle.kte_causes.specs.Shelf.{first_moment}
use Rattle.kte_causes.specs.declared.causes.SinkFail.{SinkFail}
use Rattle.kte_causes.specs.declared.causes.SinkFail.TheVariants as sink
use Rattle.kte_causes.proofs.CallerLemmas.{swap_now-stays}
use Rattle.kte_text.specs.Digests.{digest_of}
use Rattle.kte_text.specs.Files.{Loads, Refuses}
use Rattle.kte_text.specs.declared.loading.LoadFault.{LoadFault}
use Rattle.kte_text.specs.declared.loading.LoadFault.TheVariants as load_fault
use Rattle.kte_text.specs.Reading.{mark_len}
use Rattle.kte_text.specs.declared.loading.Loaded.{Loaded}
use Rattle.kte_text.proofs.FileLemmas.{Refuses-small, file_size-le}
use Rattle.kte_record.specs.Recovery.{Answer, Answers}
use Rattle.kte_record.specs.Transactions.{written}
use Rattle.kte_recover.specs.Answers.{answer_of}
use Rattle.kte_recover.specs.declared.answer.RecoverFault.{RecoverFault}
use Rattle.kte_recover.specs.declared.answer.Recovered.{Recovered}
use Rattle.kte_swap.specs.Swap.{SwapView}
use Rattle.kte_swap.specs.declared.causes.SwapState.TheVariants.{Guarded}
use Rattle.kte_command.specs.declared.command.Command.{Command}
use Rattle.kte_script.specs.Script.{script_of}
use Rattle.kte_script.specs.declared.fault.ScriptFault.{ScriptFault}
use Rattle.kte_gen.specs.Commands as generator
use Rattle.kte_gen.specs.declared.TheConstants.{MAX_COMMANDS}
use Rattle.kte_core.specs.Replay.{Session, beginning, present}
use Rattle.kte_core.specs.declared.event.Event.{Event}
use Rattle.kte_report.specs.Journal.{journal_text}
use Rattle.kte_report.specs.Report.{report, summary}
use Rattle.kte_run.specs.declared.TheConstants.{MAX_REVISIONS}
use Rattle.kte_run.specs.declared.status.Status.{Status}
use Rattle.kte_run.specs.Generate.{IsGeneration, Summarises, done_of}
use Rattle.kte_run.specs.Outcomes.{Begins, Counted, Holds, Keeps, failed_appends, failed_calls, file_after, unsaved_after}
use Rattle.kte_run.specs.Run.{CallsStay, DidNotRise, IsLoadable, start_of}
use Rattle.kte_desk.specs.Schedule.{NoneFailed, Schedule}
use Rattle.kte_run.specs.Statuses.{sink_status}
use Rattle.kte_run.proofs.Files.{some_same}
use Rattle.kte_run.proofs.GeneratedLemmas.{generated}
use Rattle.kte_run.proofs.OutputLemmas.{Keeps-session, Prints-session, none-failed, ok-same}

-- ---- what was recovered

-- after lengths and reads the swap file is as before
pub swap-stays : (old new : List Moment) → AddsMoments Staying (Some old) (Some new) → (latest new).swap ≡ (latest old).swap
swap-stays old new stays = some_same (latest new).swap (latest old).swap (swap_now-stays (Some old) (Some new) stays)

answered : (P : Answer → Type 0) (Q : Answer → Type 0) (answer : Option Answer) → IfSome answer P → IsSomeAnd answer Q → (one : Answer) × P one × Q one
answered P Q None p q = absurd q
answered P Q (Some one) p q = (one, p, q)

-- the answer of the two files
pub recovers : (saved swap read_saved read_swap : List ℕ) (found : Result Recovered RecoverFault) (done : ℕ) → read_saved ≡ saved → read_swap ≡ swap
    → IfSome (answer_of found) (Answers read_saved read_swap) → IsSomeAnd (answer_of found) (λ answer. done ≡ done_of answer)
    → (answer : Answer) × Answers saved swap answer × (done ≡ done_of answer)
recovers saved swap read_saved read_swap found done saved_is swap_is answers counts =
    answered (Answers saved swap) (λ answer. done ≡ done_of answer) (answer_of found)
    (subst (λ (s : List ℕ). IfSome (answer_of found) (Answers s swap)) saved_is
    (subst (λ (w : List ℕ). IfSome (answer_of found) (Answers read_saved w)) swap_is answers)) counts

-- ---- the commands

-- a generated script has as many as it was asked for
pub as_many : (number count : ℕ) (commands : List Command) → 1 ≤ count → count ≤ MAX_COMMANDS → script_of (generator.script_of number count) ≡ Ok commands
    → length commands ≡ count
as_many number count commands some most spelled =
    let law = generated number count some most in
    ap (λ (cs : List Command). length cs) (ok-same commands law.0 (sym spelled ∙ law.1)) ∙ law.3

-- .. and is read, unless memory runs out
pub no_fault : (number count : ℕ) (bytes : List ℕ) (fault : ScriptFault) → 1 ≤ count → count ≤ MAX_COMMANDS
    → bytes ≡ generator.script_of number count → script_of bytes ≢ Err fault
no_fault number count bytes fault some most is fails =
    let both = sym (generated number count some most).1 ∙ ap (λ (b : List ℕ). script_of b) (sym is) ∙ fails in
    cc

-- an empty file is loaded
pub empty-loads : IsLoadable []
empty-loads fault =
    Refuses-small [] fault (omega arith) IsUtf8-nil (omega (arith, file_size-le [] IsUtf8-nil, length-drop {A = ℕ} (mark_len []) []))

-- .. unless memory runs out
pub not_refused : (bytes : List ℕ) (result : Result Loaded LoadFault) (fault : LoadFault) → bytes ≡ [] → fault ≢ load_fault.NoMemory
    → ((given : LoadFault) → given ≢ load_fault.NoMemory → (result ≡ Err given) ↔ Refuses bytes given) → result ≢ Err fault
not_refused bytes result fault empty other refused is =
    empty-loads fault (subst (λ (b : List ℕ). Refuses b fault) empty ((refused fault other).0 is))

-- ---- a run over a disk that never fails

calm : CallsStay (λ _. 0) (λ _. 0)
calm =
    let still : DidNotRise 0 0 = (refl, omega arith) in
    record { append = still; sync = still; replace = still; reset = still }

-- What such a run leaves: its history, and the files that the history says
record Ran (commands : List Command) (loaded : Loaded) (moments : List Moment) (events : List Event) : Type 0 where
  schedule : Schedule commands 0 (start_of loaded) events
  well : NoneFailed events
  holds : Holds (file_after (start_of loaded) events []) (unsaved_after (start_of loaded) events []) (latest moments)

ran : (commands : List Command) (loaded : Loaded) (swap : SwapView) (first last : Session) (moments : List Moment)
    → Loads [] loaded → IsLoadable [] → swap ≡ record { base = digest_of []; state = Guarded; count = 0 }
    → first ≡ record { loaded = loaded; limit = MAX_REVISIONS; events = [] }
    → Schedule commands 0 (beginning first.loaded first.limit) last.events → last ≡ record first { events = last.events }
    → Counted (failed_appends last.events) (failed_calls false last.events) (λ _. 0) (λ _. 0)
    → ((file : List ℕ) → Begins file first.loaded swap (Some (first_moment [] [] ∷ []))
    → Keeps file (beginning first.loaded first.limit) last.events (Some moments))
    → Ran commands loaded moments last.events
ran commands loaded swap first last moments loads loadable beside is schedule begun counted keeps =
    let none = none-failed last.events (λ _. 0) (λ _. 0) counted calm in
    let prints = Prints-session 0 commands loaded (journal_text last.events ++ report (present last)) first last is schedule begun refl in
    record {
      schedule = prints.schedule;
      well = none.0;
      holds = Keeps-session [] loaded swap (Some (first_moment [] [] ∷ [])) (Some moments) first last.events is keeps
          (loads, loadable, beside, refl, refl) none.1;
    }

-- its summary
pub summarises : (number count : ℕ) (commands : List Command) (loaded : Loaded) (swap : SwapView) (first last : Session) (moments : List Moment)
    (done : ℕ) (output : List ℕ)
    → script_of (generator.script_of number count) ≡ Ok commands → length commands ≡ count → Loads [] loaded → IsLoadable []
    → swap ≡ record { base = digest_of []; state = Guarded; count = 0 }
    → first ≡ record { loaded = loaded; limit = MAX_REVISIONS; events = [] }
    → Schedule commands 0 (beginning first.loaded first.limit) last.events → last ≡ record first { events = last.events }
    → Counted (failed_appends last.events) (failed_calls false last.events) (λ _. 0) (λ _. 0)
    → ((file : List ℕ) → Begins file first.loaded swap (Some (first_moment [] [] ∷ []))
    → Keeps file (beginning first.loaded first.limit) last.events (Some moments))
    → ((answer : Answer) × Answers (latest moments).saved (latest moments).swap answer × (done ≡ done_of answer))
    → output ≡ summary count (length last.events) (present last) done
    → Summarises number count output
summarises number count commands loaded swap first last moments done output spelled counts loads loadable beside is schedule begun counted keeps recovered printed =
    let run = ran commands loaded swap first last moments loads loadable beside is schedule begun counted keeps in
    let swapped = written (digest_of (file_after (start_of loaded) last.events [])) (unsaved_after (start_of loaded) last.events []) in
    let answer = recovered.0 in
    let ended : Session = record { loaded = loaded; limit = MAX_REVISIONS; events = last.events } in
    let at_last : last ≡ ended = begun ∙ ap (λ (session : Session). record session { events = last.events }) is in
    record {
      commands = commands;
      spelled = spelled;
      counted = counts;
      loaded = loaded;
      loads = loads;
      events = last.events;
      schedule = run.schedule;
      well = run.well;
      answer = answer;
      leaves = subst (λ (saved : List ℕ). Answers saved swapped answer) run.holds.saved
          (subst (λ (bytes : List ℕ). Answers (latest moments).saved bytes answer) run.holds.swap recovered.1);
      printed = printed ∙ ap (λ (session : Session). summary count (length last.events) (present session) done) at_last
          ∙ ap (λ (n : ℕ). summary count (length last.events) (present ended) n) recovered.2;
    }

-- ---- the status

failed-by : (number count : ℕ) (got now : Option (List ℕ)) (faults later : ℕ) (output : List ℕ) (fail : SinkFail)
    → Summarises number count output → AppendsPrefix got now output
    → (fail ≡ sink.Failed → Rose faults later) → (fail ≢ sink.Failed → later ≡ faults)
    → IsGeneration number count got now faults later (sink_status fail)
failed-by number count got now faults later output sink.Failed summarises gains rose calm = record {
  ok = λ is. absurd (cc is);
  write_fault = λ is. rose refl;
  write_fault_comes = λ more. refl;
  prefix = λ which. inr (record { output = output; summarises = summarises; gains = gains });
  only = (2, omega arith, refl);
}
failed-by number count got now faults later output sink.NoMemory summarises gains rose calm = record {
  ok = λ is. absurd (cc is);
  write_fault = λ is. absurd (cc is);
  write_fault_comes = λ more. absurd (let same = calm (λ is. cc is) in omega (arith, same, more));
  prefix = λ which. inr (record { output = output; summarises = summarises; gains = gains });
  only = (1, omega arith, refl);
}

-- the write failed
pub ends-unwritten : (number count : ℕ) (got now : Option (List ℕ)) (faults later : ℕ) (output : List ℕ) (fail : SinkFail) (given : Status)
    → given ≡ sink_status fail → Summarises number count output → AppendsPrefix got now output
    → (fail ≡ sink.Failed → Rose faults later) → (fail ≢ sink.Failed → later ≡ faults)
    → IsGeneration number count got now faults later given
ends-unwritten number count got now faults later output fail given is summarises gains rose calm =
    subst (λ (s : Status). IsGeneration number count got now faults later s) (sym is)
    (failed-by number count got now faults later output fail summarises gains rose calm)
