-- Events that tell of no call outside leave all that is told: jobs that are taken, delivered and given back.
use Rattle.std.proofs.Common.{◌≡◌, ◌∙◌, ℕ, Bool, false, List, [], ◌∷◌, ◌++◌, Option, None, refl, ap, append-nil, arith}
use Rattle.std.specs.List.{AllByRecursion}
use Rattle.std.specs.Option.{option_to_list}
use Rattle.std.proofs.lemmas.List.Elements.{Contains-append_left}
use Rattle.kte_text.specs.declared.primitive.Primitive.{Primitive}
use Rattle.kte_core.specs.State.{State}
use Rattle.kte_core.specs.React.{cut_at, react_by}
use Rattle.kte_core.specs.Replay.{after_event, came_of}
use Rattle.kte_core.specs.declared.event.Event.{Event}
use Rattle.kte_core.specs.declared.request.Request.{Request}
use Rattle.kte_core.specs.declared.request.Request.TheVariants.{Cmd, Close, Take, Deliver, GiveBack, Outcome}
use Rattle.kte_core.proofs.TransactionLemmas.{quiet_unless}
use Rattle.kte_desk.specs.Schedule.{lost_after, lost_by}
use Rattle.kte_run.specs.Outcomes.{HasFailedSave, append_charge, call_charge, failed_appends, failed_calls, file_after, file_by, unsaved_after, unsaved_by}

-- a job is taken, delivered or given back
abbrev pub IsApart : Request → Type 0
IsApart Take = Unit {0}
IsApart (Deliver job findings) = Unit {0}
IsApart (GiveBack job) = Unit {0}
IsApart _ = ⊥

-- .. and memory did not run out
abbrev pub TellsNothing : Event → Type 0
TellsNothing event = IsApart event.request × (cut_at event.reply ≡ None)

-- ---- one event

append-apart : (request : Request) → IsApart request → append_charge request ≡ 0
append-apart (Cmd command) apart = absurd apart
append-apart Close apart = absurd apart
append-apart Take apart = refl
append-apart (Deliver job findings) apart = refl
append-apart (GiveBack job) apart = refl
append-apart (Outcome call ok) apart = absurd apart

call-apart : (lost : Bool) (request : Request) → IsApart request → (call_charge lost request ≡ 0) × (lost_by lost request ≡ lost)
call-apart lost (Cmd command) apart = absurd apart
call-apart lost Close apart = absurd apart
call-apart lost Take apart = (refl, refl)
call-apart lost (Deliver job findings) apart = (refl, refl)
call-apart lost (GiveBack job) apart = (refl, refl)
call-apart lost (Outcome call ok) apart = absurd apart

file-apart : (state : State) (request : Request) (file : List ℕ) → IsApart request → file_by state request file ≡ file
file-apart state (Cmd command) file apart = absurd apart
file-apart state Close file apart = absurd apart
file-apart state Take file apart = refl
file-apart state (Deliver job findings) file apart = refl
file-apart state (GiveBack job) file apart = refl
file-apart state (Outcome call ok) file apart = absurd apart

none-made : (state : State) (seat : ℕ) (request : Request) (at : Option ℕ) → at ≡ None → IsApart request → (react_by state seat request at).finished ≡ None
none-made state seat (Cmd command) at whole apart = absurd apart
none-made state seat Close at whole apart = absurd apart
none-made state seat Take at whole apart =
    ap (λ (o : Option ℕ). (react_by state seat Take o).finished) whole ∙ (quiet_unless state seat Take (λ is. is)).finished
none-made state seat (Deliver job findings) at whole apart =
    ap (λ (o : Option ℕ). (react_by state seat (Deliver job findings) o).finished) whole
    ∙ (quiet_unless state seat (Deliver job findings) (λ is. is)).finished
none-made state seat (GiveBack job) at whole apart =
    ap (λ (o : Option ℕ). (react_by state seat (GiveBack job) o).finished) whole ∙ (quiet_unless state seat (GiveBack job) (λ is. is)).finished
none-made state seat (Outcome call ok) at whole apart = absurd apart

more-apart : (state : State) (event : Event) (request : Request) (ts : List (List Primitive)) → IsApart request
    → unsaved_by state event request ts ≡ ts ++ option_to_list (came_of state event).finished
more-apart state event (Cmd command) ts apart = absurd apart
more-apart state event Close ts apart = absurd apart
more-apart state event Take ts apart = refl
more-apart state event (Deliver job findings) ts apart = refl
more-apart state event (GiveBack job) ts apart = refl
more-apart state event (Outcome call ok) ts apart = absurd apart

unsaved-apart : (state : State) (event : Event) (ts : List (List Primitive)) → TellsNothing event
    → unsaved_by state event event.request ts ≡ ts
unsaved-apart state event ts apart =
    more-apart state event event.request ts apart.0
    ∙ ap (λ (finished : Option (List Primitive)). ts ++ option_to_list finished)
    (none-made state event.seat event.request (cut_at event.reply) apart.1 apart.0)
    ∙ append-nil ts

-- What is told after some events is told after others
pub record Same (first : State) (events later : List Event) : Type 0 where
  pub appends : failed_appends later ≡ failed_appends events
  pub calls : failed_calls false later ≡ failed_calls false events
  pub lost : lost_after false later ≡ lost_after false events
  pub file : (bytes : List ℕ) → file_after first later bytes ≡ file_after first events bytes
  pub unsaved : unsaved_after first later [] ≡ unsaved_after first events []
  pub save : HasFailedSave events → HasFailedSave later

-- ---- many events

appends-more : (events more : List Event) → AllByRecursion TellsNothing more
    → failed_appends (events ++ more) ≡ failed_appends events
appends-more [] [] apart = refl
appends-more [] (event ∷ more) apart = omega (arith, append-apart event.request apart.0.0, appends-more [] more apart.1)
appends-more (event ∷ events) more apart = omega (arith, appends-more events more apart)

calls-more : (lost : Bool) (events more : List Event) → AllByRecursion TellsNothing more
    → failed_calls lost (events ++ more) ≡ failed_calls lost events
calls-more lost [] [] apart = refl
calls-more lost [] (event ∷ more) apart =
    omega (arith, (call-apart lost event.request apart.0.0).0, calls-more (lost_by lost event.request) [] more apart.1)
calls-more lost (event ∷ events) more apart = omega (arith, calls-more (lost_by lost event.request) events more apart)

lost-more : (lost : Bool) (events more : List Event) → AllByRecursion TellsNothing more
    → lost_after lost (events ++ more) ≡ lost_after lost events
lost-more lost [] [] apart = refl
lost-more lost [] (event ∷ more) apart = lost-more (lost_by lost event.request) [] more apart.1 ∙ (call-apart lost event.request apart.0.0).1
lost-more lost (event ∷ events) more apart = lost-more (lost_by lost event.request) events more apart

file-more : (state : State) (events more : List Event) (file : List ℕ) → AllByRecursion TellsNothing more
    → file_after state (events ++ more) file ≡ file_after state events file
file-more state [] [] file apart = refl
file-more state [] (event ∷ more) file apart =
    file-more (after_event state event) [] more (file_by state event.request file) apart.1 ∙ file-apart state event.request file apart.0.0
file-more state (event ∷ events) more file apart = file-more (after_event state event) events more (file_by state event.request file) apart

unsaved-more : (state : State) (events more : List Event) (ts : List (List Primitive)) → AllByRecursion TellsNothing more
    → unsaved_after state (events ++ more) ts ≡ unsaved_after state events ts
unsaved-more state [] [] ts apart = refl
unsaved-more state [] (event ∷ more) ts apart =
    unsaved-more (after_event state event) [] more (unsaved_by state event event.request ts) apart.1
    ∙ unsaved-apart state event ts apart.0
unsaved-more state (event ∷ events) more ts apart =
    unsaved-more (after_event state event) events more (unsaved_by state event event.request ts) apart

-- such events change nothing that is told
pub Same-apart : (first : State) (events more : List Event) → AllByRecursion TellsNothing more → Same first events (events ++ more)
Same-apart first events more apart = record {
  appends = appends-more events more apart;
  calls = calls-more false events more apart;
  lost = lost-more false events more apart;
  file = λ bytes. file-more first events more bytes apart;
  unsaved = unsaved-more first events more [] apart;
  save = λ failed. (failed.0, Contains-append_left events more failed.0 failed.1, failed.2);
}
