-- What is printed for a script and a file.
use Rattle.std.proofs.Common.{◌≡◌, ◌∙◌, ◌⊎◌, inl, inr, ℕ, ◌+◌, ◌≤◌, Bool, true, false, List, [], ◌∷◌, ◌++◌, Option, Ok, Result, refl, sym, ap, subst, arith}
use Rattle.std.proofs.lemmas.List.Elements.{All-nil, All-cons}
use Rattle.kte_causes.specs.Faults.{Rose}
use Rattle.kte_causes.specs.DiskFaults.{AllStay}
use Rattle.kte_causes.specs.declared.causes.DiskCall.{DiskCall}
use Rattle.kte_causes.specs.declared.causes.DiskCall.TheVariants.{SavedLen, SavedAt, SwapLen, SwapAt, Append, Sync, Replace, Reset}
use Rattle.kte_text.specs.declared.loading.Loaded.{Loaded}
use Rattle.kte_text.proofs.FileLemmas.{Loads_same}
use Rattle.kte_causes.specs.Moments.{Moment}
use Rattle.kte_swap.specs.Swap.{SwapView}
use Rattle.kte_command.specs.declared.command.Command.{Command}
use Rattle.kte_script.specs.declared.fault.ScriptFault.{ScriptFault}
use Rattle.kte_core.specs.Replay.{Session, beginning, present, replay}
use Rattle.kte_core.specs.declared.event.Event.{Event}
use Rattle.kte_core.specs.declared.request.OutsideCall.TheVariants as Call
use Rattle.kte_core.specs.declared.request.Request.{Request}
use Rattle.kte_core.specs.declared.request.Request.TheVariants.{Cmd, Close, Take, Deliver, GiveBack, Outcome}
use Rattle.kte_report.specs.Journal.{journal_text}
use Rattle.kte_report.specs.Report.{report}
use Rattle.kte_run.specs.declared.TheConstants.{MAX_REVISIONS}
use Rattle.kte_run.specs.declared.status.Status.{Status}
use Rattle.kte_run.specs.declared.status.Status.TheVariants as status
use Rattle.kte_run.specs.Alone.{CarriesOut}
use Rattle.kte_run.specs.Edit.{IsEdited}
use Rattle.kte_run.specs.Outcomes.{Begins, Counted, IsEnding, Keeps, RoseBy, AtLast, append_charge, call_charge, calls_of, failed_appends, failed_calls}
use Rattle.kte_run.specs.Run.{CallsStay, DidNotRise, Outer, Outputs, OutputsWell, Prints, PrintsEvents, start_of}
use Rattle.kte_desk.specs.Schedule.{NoneFailed, Schedule, WentWell, lost_after, lost_by}
use Rattle.kte_run.proofs.OneHistory.{one_schedule}

-- ---- one output

-- one output is printed for some commands after loading, where there are no checkers and no call
-- failed
Prints-same : (commands : List Command) (loaded : Loaded) (one other : List Event) (a b : List ℕ)
    → PrintsEvents 0 commands loaded one a → NoneFailed one → PrintsEvents 0 commands loaded other b → NoneFailed other → a ≡ b
Prints-same commands loaded one other a b p well q fine =
    let same : one ≡ other = one_schedule loaded MAX_REVISIONS commands one other p.schedule well q.schedule fine in
    p.printed ∙ ap (λ (events : List Event). journal_text events ++ report (replay (start_of loaded) events)) same ∙ sym q.printed

pub ok-same : (a b : List Command) → ◌≡◌ {A = Result (List Command) ScriptFault} (Ok a) (Ok b) → a ≡ b
ok-same a b same = cc

-- .. and so for a script and a file
pub OutputsWell-same : (script file a b : List ℕ) → OutputsWell script file a → OutputsWell script file b → a ≡ b
OutputsWell-same script file a b one other =
    let commands : one.commands ≡ other.commands = ok-same one.commands other.commands (sym one.spelled ∙ other.spelled) in
    let loaded : one.loaded ≡ other.loaded = Loads_same file one.loaded other.loaded one.loads other.loads in
    Prints-same other.commands other.loaded one.events other.events a b
    (subst (λ (l : Loaded). PrintsEvents 0 other.commands l one.events a) loaded (subst (λ (cs : List Command). PrintsEvents 0 cs one.loaded one.events a) commands one.prints))
    one.well other.prints other.well

-- ---- where no count rose

-- a call that is not charged went well, and the swap file is not lost by it
went : (request : Request) → append_charge request ≡ 0 → call_charge false request ≡ 0 → WentWell request × (lost_by false request ≡ false)
went (Cmd command) appends calls = (tt, refl)
went Close appends calls = (tt, refl)
went Take appends calls = (tt, refl)
went (Deliver job findings) appends calls = (tt, refl)
went (GiveBack job) appends calls = (tt, refl)
went (Outcome Call.Append true) appends calls = (refl, refl)
went (Outcome Call.Sync true) appends calls = (refl, refl)
went (Outcome Call.Save true) appends calls = (refl, refl)
went (Outcome Call.Append false) appends calls = absurd (cc appends)
went (Outcome Call.Sync false) appends calls = absurd (cc calls)
went (Outcome Call.Save false) appends calls = absurd (cc calls)

none-lost : (events : List Event) → failed_appends events ≡ 0 → failed_calls false events ≡ 0 → NoneFailed events × (lost_after false events ≡ false)
none-lost [] appends calls = (All-nil (λ (event : Event). WentWell event.request), refl)
none-lost (event ∷ events) appends calls =
    let here = went event.request (omega (arith, appends)) (omega (arith, calls)) in
    let rest : failed_calls (lost_by false event.request) events ≡ 0 = omega (arith, calls) in
    let more = none-lost events (omega (arith, appends)) (subst (λ (lost : Bool). failed_calls lost events ≡ 0) here.1 rest) in (
      All-cons (λ (e : Event). WentWell e.request) event events here.0 more.0,
      ap (λ (lost : Bool). lost_after lost events) here.1 ∙ more.1,
    )

no-append : (n before after : ℕ) → RoseBy n before after → DidNotRise before after → n ≡ 0
no-append n before after (inl more) stays = let same = stays.0 in omega (arith, more, same)
no-append n before after (inr last) stays = absurd (let short = stays.1 in omega (arith, last, short))

no-call : (n : ℕ) (before after : DiskCall → ℕ) → (calls_of before + n ≤ calls_of after) ⊎ AtLast after → CallsStay before after → n ≡ 0
no-call n before after (inl more) stays =
    let sync = stays.sync.0 in let replace = stays.replace.0 in let reset = stays.reset.0 in
    omega (arith, more, sync, replace, reset)
no-call n before after (inr (inl last)) stays = absurd (let short = stays.sync.1 in omega (arith, last, short))
no-call n before after (inr (inr (inl last))) stays = absurd (let short = stays.replace.1 in omega (arith, last, short))
no-call n before after (inr (inr (inr last))) stays = absurd (let short = stays.reset.1 in omega (arith, last, short))

-- no call failed, and the swap file is not lost
pub none-failed : (events : List Event) (before after : DiskCall → ℕ)
    → Counted (failed_appends events) (failed_calls false events) before after → CallsStay before after
    → NoneFailed events × (lost_after false events ≡ false)
none-failed events before after counted stays =
    none-lost events (no-append (failed_appends events) (before Append) (after Append) counted.appends stays.append)
    (no-call (failed_calls false events) before after counted.calls stays)

-- the output of a run without checkers in which no such count rose is one of a history without a failure
pub OutputsWell-from : (script file : List ℕ) (ending : Status) (before after : Outer) (output : List ℕ)
    → Outputs 0 script file ending before after output → CallsStay before.faults after.faults → OutputsWell script file output
OutputsWell-from script file ending before after output is stays = record {
  commands = is.commands;
  spelled = is.spelled;
  loaded = is.loaded;
  loads = is.loads;
  events = is.prints.events;
  prints = is.prints.prints;
  well = (none-failed is.prints.events before.faults after.faults is.prints.counted stays).0;
}

pub Outputs-same : (script file : List ℕ) (ending other_ending : Status) (before after other_before other_after : Outer) (a b : List ℕ)
    → Outputs 0 script file ending before after a → CallsStay before.faults after.faults
    → Outputs 0 script file other_ending other_before other_after b → CallsStay other_before.faults other_after.faults → a ≡ b
Outputs-same script file ending other_ending before after other_before other_after a b one stays other others_stay =
    OutputsWell-same script file a b (OutputsWell-from script file ending before after a one stays)
    (OutputsWell-from script file other_ending other_before other_after b other others_stay)

-- ---- a session

-- what is printed of a session: its journal, and the report of its state
pub Prints-session : (workers : ℕ) (commands : List Command) (loaded : Loaded) (output : List ℕ) (first last : Session)
    → first ≡ record { loaded = loaded; limit = MAX_REVISIONS; events = [] }
    → Schedule commands workers (beginning first.loaded first.limit) last.events
    → last ≡ record first { events = last.events } → output ≡ journal_text last.events ++ report (present last)
    → PrintsEvents workers commands loaded last.events output
Prints-session workers commands loaded output first last is schedule begun printed =
    let at_last : last ≡ record { loaded = loaded; limit = MAX_REVISIONS; events = last.events } =
    begun ∙ ap (λ (session : Session). record session { events = last.events }) is in
    record {
      schedule = subst (λ (session : Session). Schedule commands workers (beginning session.loaded session.limit) last.events) is schedule;
      printed = printed ∙ ap (λ (session : Session). journal_text last.events ++ report (present session)) at_last;
    }

-- what the disk holds after it
pub Keeps-session : (file : List ℕ) (loaded : Loaded) (swap : SwapView) (old moments : Option (List Moment)) (first : Session) (events : List Event)
    → first ≡ record { loaded = loaded; limit = MAX_REVISIONS; events = [] }
    → ((f : List ℕ) → Begins f first.loaded swap old → Keeps f (beginning first.loaded first.limit) events moments)
    → Begins file loaded swap old → Keeps file (start_of loaded) events moments
Keeps-session file loaded swap old moments first events is keeps begins =
    subst (λ (s : Session). Begins file s.loaded swap old → Keeps file (beginning s.loaded s.limit) events moments) is (keeps file) begins

-- what an edit makes, once its commands were carried out in a session, of which this is the output
pub IsEdited-session : (workers : ℕ) (commands : List Command) (loaded : Loaded) (swap : SwapView) (before after : Outer) (ending : Status)
    (output : List ℕ) (first last : Session)
    → first ≡ record { loaded = loaded; limit = MAX_REVISIONS; events = [] }
    → CarriesOut workers commands swap ending first last before after
    → output ≡ journal_text last.events ++ report (present last)
    → IsEdited workers commands loaded swap before after ending output
IsEdited-session workers commands loaded swap before after ending output first last is ran printed = record {
  prints = λ file begins. record {
    events = last.events;
    prints = Prints-session workers commands loaded output first last is ran.schedule ran.begun printed;
    counted = ran.tells.counted;
    ends = ran.tells.ends;
    keeps = Keeps-session file loaded swap before.moments after.moments first last.events is ran.tells.keeps begins;
  };
  ended = ran.tells.ended;
}

-- ---- the counts from an earlier moment on

Counted-from : (appends calls : ℕ) (first before after : DiskCall → ℕ) → AllStay first before → Counted appends calls before after → Counted appends calls first after
Counted-from appends calls first before after stays counted =
    let sync = stays Sync in let replace = stays Replace in let reset = stays Reset in let append = stays Append in
    record {
      appends = subst (λ n. RoseBy appends n (after Append)) append counted.appends;
      calls = more counted.calls;
      appends_told = λ rose. counted.appends_told (omega (arith, append, rose));
      calls_told = λ rose. counted.calls_told (omega (arith, sync, replace, reset, rose));
      reads = record {
        saved_len = counted.reads.saved_len ∙ stays SavedLen;
        saved_at = counted.reads.saved_at ∙ stays SavedAt;
        swap_len = counted.reads.swap_len ∙ stays SwapLen;
        swap_at = counted.reads.swap_at ∙ stays SwapAt;
      };
    } where
      more : (calls_of before + calls ≤ calls_of after) ⊎ AtLast after → (calls_of first + calls ≤ calls_of after) ⊎ AtLast after
      more (inl rose) = let sync = stays Sync in let replace = stays Replace in let reset = stays Reset in inl (omega (arith, sync, replace, reset, rose))
      more (inr last) = inr last

IsEnding-from : (ending : Status) (events : List Event) (first before after : DiskCall → ℕ) → AllStay first before → IsEnding ending events before after → IsEnding ending events first after
IsEnding-from status.Ok events first before after stays ends = (ends.0, ends.1 ∙ stays Replace)
IsEnding-from status.DiskFault events first before after stays ends = (subst (λ n. Rose n (after Replace)) (stays Replace) ends.0, ends.1)
IsEnding-from status.SwapLost events first before after stays ends = (ends.0, ends.1 ∙ stays Replace)
IsEnding-from _ events first before after stays ends = absurd ends

-- what is printed after a disk that had counted no more faults than another
pub Prints-from : (workers : ℕ) (commands : List Command) (file : List ℕ) (loaded : Loaded) (ending : Status) (first before after : Outer) (output : List ℕ)
    → AllStay first.faults before.faults → Prints workers commands file loaded ending before after output → Prints workers commands file loaded ending first after output
Prints-from workers commands file loaded ending first before after output stays is = record {
  events = is.events;
  prints = is.prints;
  counted = Counted-from (failed_appends is.events) (failed_calls false is.events) first.faults before.faults after.faults stays is.counted;
  ends = IsEnding-from ending is.events first.faults before.faults after.faults stays is.ends;
  keeps = is.keeps;
}
