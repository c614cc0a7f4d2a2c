-- How many calls of the disk failed, beside what the editor tells of them.
use Rattle.std.proofs.Common.{◌≡◌, ◌≢◌, ◌∙◌, ℕ, ◌+◌, ◌<◌, ◌≤◌, ◌⊎◌, Bool, true, false, List, [], ◌∷◌, ◌++◌, Option, Some, None, inl, inr, refl, ap, sym, subst, arith}
use Rattle.std.specs.Prelude.{nat_lt}
use Rattle.std.proofs.lemmas.Bool.{cases_Bool, ltb-true, ltb-false}
use Rattle.std.proofs.lemmas.List.Elements.{Contains-append_left, Contains-append_right}
use Rattle.kte_causes.specs.Faults.{Rose, last_count}
use Rattle.kte_causes.specs.DiskFaults.{AllStay, OthersStay}
use Rattle.kte_causes.specs.declared.causes.DiskCall.{DiskCall}
use Rattle.kte_causes.specs.declared.causes.DiskCall.TheVariants as disk
use Rattle.kte_command.specs.declared.command.Command.{Command}
use Rattle.kte_swap.specs.Swap.{SwapView}
use Rattle.kte_swap.specs.declared.causes.SwapState.TheVariants.{Guarded}
use Rattle.kte_core.specs.declared.event.Event.{Event}
use Rattle.kte_core.specs.declared.reply.Reply.{Reply}
use Rattle.kte_core.specs.declared.request.OutsideCall.{OutsideCall}
use Rattle.kte_core.specs.declared.request.OutsideCall.TheVariants as Call
use Rattle.kte_core.specs.declared.request.Request.{Request}
use Rattle.kte_core.specs.declared.request.Request.TheVariants.{Close, Cmd, Outcome}
use Rattle.kte_run.specs.declared.editor.Told.{Told}
use Rattle.kte_run.specs.declared.status.Status.{Status}
use Rattle.kte_run.specs.declared.status.Status.TheVariants as status
use Rattle.kte_desk.specs.Schedule.{lost_after, lost_by}
use Rattle.kte_desk.specs.Serving.{own}
use Rattle.kte_run.specs.Editor.{Part, is_lost, lost_with, telling}
use Rattle.kte_run.specs.Calls.{CountsCall, CountsTold, Failed, SaveFailed}
use Rattle.kte_run.specs.Outcomes.{AtLast, Counted, Ended, HasFailedSave, IsEnding, ReadsStay, RoseBy, append_charge, call_charge, calls_of, failed_appends, failed_calls}
use Rattle.kte_core.specs.State.{State}
use Rattle.kte_run.proofs.ApartLemmas.{Same}
use Rattle.kte_run.proofs.DueLemmas.{lost_after-last}
use Rattle.kte_run.proofs.AskLemmas.{KeepsPart, NextBy}
use Rattle.kte_run.specs.Editor.{part_of}

-- ---- the failures that are told

failed_appends-append : (events more : List Event) → failed_appends (events ++ more) ≡ failed_appends events + failed_appends more
failed_appends-append [] more = omega arith
failed_appends-append (event ∷ events) more = omega (arith, failed_appends-append events more)

failed_calls-append : (lost : Bool) (events more : List Event)
    → failed_calls lost (events ++ more) ≡ failed_calls lost events + failed_calls (lost_after lost events) more
failed_calls-append lost [] more = omega arith
failed_calls-append lost (event ∷ events) more = omega (arith, failed_calls-append (lost_by lost event.request) events more)

-- .. and the one that is owed
abbrev pub owed_append : Option Told → ℕ
owed_append None = 0
owed_append (Some told) = append_charge (telling told)

abbrev pub owed_call : Bool → Option Told → ℕ
owed_call lost None = 0
owed_call lost (Some told) = call_charge lost (telling told)

-- ---- one call of the disk

-- no count fell
pub record Rises (before after : DiskCall → ℕ) : Type 0 where
  pub append : before disk.Append ≤ after disk.Append
  pub sync : before disk.Sync ≤ after disk.Sync
  pub replace : before disk.Replace ≤ after disk.Replace
  pub reset : before disk.Reset ≤ after disk.Reset

-- What one call does to the counts: so many appends, and so many of the others, failed at least,
-- and a count that rose has such a failure
record Charged (appends calls : ℕ) (before after : DiskCall → ℕ) : Type 0 where
  append : RoseBy appends (before disk.Append) (after disk.Append)
  other : (calls_of before + calls ≤ calls_of after) ⊎ AtLast after
  append_told : before disk.Append < after disk.Append → 0 < appends
  other_told : calls_of before < calls_of after → 0 < calls
  rises : Rises before after
  reads : ReadsStay before after

-- a count that rose is greater, or has reached its last value
rose_one : (before after : ℕ) → Rose before after → RoseBy 1 before after
rose_one before after (inl more) = inl (omega arith)
rose_one before after (inr last) = inr (omega (arith, last.1))

rose_least : (before after : ℕ) → Rose before after → before ≤ after
rose_least before after (inl more) = omega arith
rose_least before after (inr last) = omega (arith, last.0, last.1)

-- a count that rose and did not fall then, or did not fall and rose then, rose
rose_later : (before between after : ℕ) → Rose before between → between ≤ after → Rose before after
rose_later before between after (inl more) least = inl (omega arith)
rose_later before between after (inr last) least =
    elim (cases_Bool (nat_lt last_count after)) [
      | inl t ↦ inl (omega (arith, last.0, ltb-true last_count after t))
      | inr f ↦ inr (last.0, omega (arith, last.1, ltb-false last_count after f))
    ]

rose_sooner : (before between after : ℕ) → before ≤ between → Rose between after → Rose before after
rose_sooner before between after least (inl more) = inl (omega arith)
rose_sooner before between after least (inr last) =
    elim (cases_Bool (nat_lt before last_count)) [
      | inl t ↦ inl (omega (arith, last.1, ltb-true before last_count t))
      | inr f ↦ inr (omega (arith, last.0, ltb-false before last_count f), last.1)
    ]

rises-then : (before between after : DiskCall → ℕ) → Rises before between → Rises between after → Rises before after
rises-then before between after first second =
    let a = first.append in
    let b = first.sync in
    let c = first.replace in
    let d = first.reset in
    record {
      append = omega (arith, second.append);
      sync = omega (arith, second.sync);
      replace = omega (arith, second.replace);
      reset = omega (arith, second.reset);
    }

-- a count that has reached its last value stays there
last_stays : (before after : DiskCall → ℕ) → Rises before after → AtLast before → AtLast after
last_stays before after rises (inl at) = inl (omega (arith, rises.sync))
last_stays before after rises (inr (inl at)) = inr (inl (omega (arith, rises.replace)))
last_stays before after rises (inr (inr at)) = inr (inr (omega (arith, rises.reset)))

reads_stay : (call : DiskCall) (before after : DiskCall → ℕ) → OthersStay call before after → disk.SavedLen ≢ call → disk.SavedAt ≢ call
    → disk.SwapLen ≢ call → disk.SwapAt ≢ call → ReadsStay before after
reads_stay call before after others a b c d = record {
  saved_len = others disk.SavedLen a;
  saved_at = others disk.SavedAt b;
  swap_len = others disk.SwapLen c;
  swap_at = others disk.SwapAt d;
}

pub reads_all : (before after : DiskCall → ℕ) → AllStay before after → ReadsStay before after
reads_all before after all = record {
  saved_len = all disk.SavedLen;
  saved_at = all disk.SavedAt;
  swap_len = all disk.SwapLen;
  swap_at = all disk.SwapAt;
}

charged-stay : (before after : DiskCall → ℕ) → AllStay before after → Charged 0 0 before after
charged-stay before after all =
    let append = all disk.Append in
    let sync = all disk.Sync in
    let replace = all disk.Replace in
    let reset = all disk.Reset in
    record {
      append = inl (omega arith);
      other = inl (omega arith);
      append_told = λ more. absurd (omega arith);
      other_told = λ more. absurd (omega arith);
      rises = record { append = omega arith; sync = omega arith; replace = omega arith; reset = omega arith };
      reads = reads_all before after all;
    }

-- a call that failed raised its own count, and the others stay
least_of : (call one : DiskCall) (before after : DiskCall → ℕ) → Failed call before after → before one ≤ after one
least_of disk.Append disk.Append before after failed = rose_least (before disk.Append) (after disk.Append) failed.rose
least_of disk.Sync disk.Sync before after failed = rose_least (before disk.Sync) (after disk.Sync) failed.rose
least_of disk.Replace disk.Replace before after failed = rose_least (before disk.Replace) (after disk.Replace) failed.rose
least_of disk.Reset disk.Reset before after failed = rose_least (before disk.Reset) (after disk.Reset) failed.rose
least_of disk.SavedLen disk.SavedLen before after failed = rose_least (before disk.SavedLen) (after disk.SavedLen) failed.rose
least_of disk.SavedAt disk.SavedAt before after failed = rose_least (before disk.SavedAt) (after disk.SavedAt) failed.rose
least_of disk.SwapLen disk.SwapLen before after failed = rose_least (before disk.SwapLen) (after disk.SwapLen) failed.rose
least_of disk.SwapAt disk.SwapAt before after failed = rose_least (before disk.SwapAt) (after disk.SwapAt) failed.rose
least_of call one before after failed = omega (arith, failed.others one (λ same. cc))

rises-failed : (call : DiskCall) (before after : DiskCall → ℕ) → Failed call before after → Rises before after
rises-failed call before after failed = record {
  append = least_of call disk.Append before after failed;
  sync = least_of call disk.Sync before after failed;
  replace = least_of call disk.Replace before after failed;
  reset = least_of call disk.Reset before after failed;
}

charged-append : (before after : DiskCall → ℕ) → Failed disk.Append before after → Charged 1 0 before after
charged-append before after failed =
    let sync = failed.others disk.Sync (λ same. cc) in
    let replace = failed.others disk.Replace (λ same. cc) in
    let reset = failed.others disk.Reset (λ same. cc) in
    record {
      append = rose_one (before disk.Append) (after disk.Append) failed.rose;
      other = inl (omega arith);
      append_told = λ more. omega arith;
      other_told = λ more. absurd (omega arith);
      rises = rises-failed disk.Append before after failed;
      reads = reads_stay disk.Append before after failed.others (λ same. cc) (λ same. cc) (λ same. cc) (λ same. cc);
    }

-- a sync, a replacement or a reset
abbrev IsOther : DiskCall → Type 0
IsOther disk.Sync = Unit {0}
IsOther disk.Replace = Unit {0}
IsOther disk.Reset = Unit {0}
IsOther _ = ⊥

-- .. after which the sum of their counts is greater, or one has reached its last value
other-rose : (call : DiskCall) (before after : DiskCall → ℕ) → IsOther call → OthersStay call before after → RoseBy 1 (before call) (after call)
    → (calls_of before + 1 ≤ calls_of after) ⊎ AtLast after
other-rose disk.Sync before after is others (inl more) = inl (omega (arith, others disk.Replace (λ same. cc), others disk.Reset (λ same. cc)))
other-rose disk.Replace before after is others (inl more) = inl (omega (arith, others disk.Sync (λ same. cc), others disk.Reset (λ same. cc)))
other-rose disk.Reset before after is others (inl more) = inl (omega (arith, others disk.Sync (λ same. cc), others disk.Replace (λ same. cc)))
other-rose disk.Sync before after is others (inr last) = inr (inl last)
other-rose disk.Replace before after is others (inr last) = inr (inr (inl last))
other-rose disk.Reset before after is others (inr last) = inr (inr (inr last))
other-rose _ before after is others rose = absurd is

charged-other : (call : DiskCall) (before after : DiskCall → ℕ) → IsOther call → Failed call before after → Charged 0 1 before after
charged-other call before after is failed =
    let apart = λ (one : DiskCall) (none : IsOther one → ⊥) (same : one ≡ call). none (subst IsOther (sym same) is) in
    let append = failed.others disk.Append (apart disk.Append (λ none. none)) in
    record {
      append = inl (omega arith);
      other = other-rose call before after is failed.others (rose_one (before call) (after call) failed.rose);
      append_told = λ more. absurd (omega arith);
      other_told = λ more. omega arith;
      rises = rises-failed call before after failed;
      reads = reads_stay call before after failed.others (apart disk.SavedLen (λ none. none)) (apart disk.SavedAt (λ none. none))
          (apart disk.SwapLen (λ none. none)) (apart disk.SwapAt (λ none. none));
    }

charged-save : (remembered now : Bool) (before after : DiskCall → ℕ) → SaveFailed remembered now before after → Charged 0 1 before after
charged-save remembered now before after (inl failed) = charged-other disk.Replace before after tt failed.1
charged-save remembered now before after (inr (is, inl failed)) = charged-other disk.Sync before after tt failed
charged-save remembered now before after (inr (is, inr failed)) = charged-other disk.Reset before after tt failed

charged-call : (call : OutsideCall) (ok lost remembered now : Bool) (before after : DiskCall → ℕ)
    → CountsCall call ok lost remembered now before after
    → Charged (append_charge (Outcome call ok)) (call_charge lost (Outcome call ok)) before after
charged-call Call.Append true lost remembered now before after counts = charged-stay before after counts.1
charged-call Call.Sync true lost remembered now before after counts = charged-stay before after counts.1
charged-call Call.Save true lost remembered now before after counts = charged-stay before after counts.1
charged-call Call.Append false lost remembered now before after counts = charged-append before after counts.1
charged-call Call.Sync false true remembered now before after counts = charged-stay before after counts.1
charged-call Call.Sync false false remembered now before after counts = charged-other disk.Sync before after tt counts.1
charged-call Call.Save false lost remembered now before after counts = charged-save remembered now before after counts

charged : (owed : Option Told) (lost remembered now : Bool) (before after : DiskCall → ℕ)
    → CountsTold owed lost remembered now before after → Charged (owed_append owed) (owed_call lost owed) before after
charged None lost remembered now before after counts = charged-stay before after counts.1
charged (Some told) lost remembered now before after counts = charged-call told.call told.ok lost remembered now before after counts

-- ---- the counts so far

rose_more : (b m n a x : ℕ) → RoseBy a b m → RoseBy x m n → m ≤ n → RoseBy (a + x) b n
rose_more b m n a x (inl first) (inl second) least = inl (omega arith)
rose_more b m n a x (inl first) (inr second) least = inr second
rose_more b m n a x (inr first) second least = inr (omega arith)

told_more : (b m n a x : ℕ) → (b < m → 0 < a) → (m < n → 0 < x) → b < n → 0 < a + x
told_more b m n a x first second more =
    elim (cases_Bool (nat_lt b m)) [
      | inl t ↦ omega (arith, first (ltb-true b m t))
      | inr f ↦ omega (arith, second (omega (arith, ltb-false b m f)))
    ]

reads-then : (before between after : DiskCall → ℕ) → ReadsStay before between → ReadsStay between after → ReadsStay before after
reads-then before between after first second = record {
  saved_len = second.saved_len ∙ first.saved_len;
  saved_at = second.saved_at ∙ first.saved_at;
  swap_len = second.swap_len ∙ first.swap_len;
  swap_at = second.swap_at ∙ first.swap_at;
}

counted-more : (before between after : DiskCall → ℕ) (appends calls a c : ℕ) → Counted appends calls before between
    → Charged a c between after → Counted (appends + a) (calls + c) before after
counted-more before between after appends calls a c counted charge = record {
  appends = rose_more (before disk.Append) (between disk.Append) (after disk.Append) appends a counted.appends charge.append charge.rises.append;
  calls = by counted.calls charge.other;
  appends_told = told_more (before disk.Append) (between disk.Append) (after disk.Append) appends a counted.appends_told charge.append_told;
  calls_told = told_more (calls_of before) (calls_of between) (calls_of after) calls c counted.calls_told charge.other_told;
  reads = reads-then before between after counted.reads charge.reads;
} where
  by : (calls_of before + calls ≤ calls_of between) ⊎ AtLast between → (calls_of between + c ≤ calls_of after) ⊎ AtLast after
      → (calls_of before + (calls + c) ≤ calls_of after) ⊎ AtLast after
  by (inl first) (inl second) = inl (omega arith)
  by (inl first) (inr last) = inr last
  by (inr last) second = inr (last_stays between after charge.rises last)

-- ---- a replacement that failed

-- a failed save is owed
abbrev IsFailedSave : Option Told → Type 0
IsFailedSave None = ⊥
IsFailedSave (Some told) = telling told ≡ Outcome Call.Save false

-- the count of replacements, where it is remembered that one failed or not
abbrev Replaced : Bool → Type 0 → (DiskCall → ℕ) → (DiskCall → ℕ) → Type 0
Replaced true told before after = Rose (before disk.Replace) (after disk.Replace) × told
Replaced false told before after = after disk.Replace ≡ before disk.Replace

replaced-stays : (remembered now : Bool) (told more : Type 0) (before between after : DiskCall → ℕ) → now ≡ remembered → (told → more)
    → after disk.Replace ≡ between disk.Replace → Replaced remembered told before between → Replaced now more before after
replaced-stays true now told more before between after is later same replaced =
    subst (λ (b : Bool). Replaced b more before after) (sym is)
    (subst (λ (n : ℕ). Rose (before disk.Replace) n) (sym same) replaced.0, later replaced.1)
replaced-stays false now told more before between after is later same replaced =
    subst (λ (b : Bool). Replaced b more before after) (sym is) (same ∙ replaced)

replaced-rose : (remembered now : Bool) (told more : Type 0) (before between after : DiskCall → ℕ) → now ≡ true → more
    → Rose (between disk.Replace) (after disk.Replace) → Replaced remembered told before between → Replaced now more before after
replaced-rose true now told more before between after is failed rose replaced =
    subst (λ (b : Bool). Replaced b more before after) (sym is) (
      rose_later (before disk.Replace) (between disk.Replace) (after disk.Replace) replaced.0
          (rose_least (between disk.Replace) (after disk.Replace) rose),
      failed,
    )
replaced-rose false now told more before between after is failed rose replaced =
    subst (λ (b : Bool). Replaced b more before after) (sym is)
    (subst (λ (n : ℕ). Rose n (after disk.Replace)) replaced rose, failed)

replaced-save : (remembered now : Bool) (told : Type 0) (before between after : DiskCall → ℕ) → SaveFailed remembered now between after
    → Replaced remembered told before between → Replaced now (told ⊎ (Outcome Call.Save false ≡ Outcome Call.Save false)) before after
replaced-save remembered now told before between after (inl failed) =
    replaced-rose remembered now told _ before between after failed.0 (inr refl) failed.1.rose
replaced-save remembered now told before between after (inr (is, inl failed)) =
    replaced-stays remembered now told _ before between after is inl (failed.others disk.Replace (λ same. cc))
replaced-save remembered now told before between after (inr (is, inr failed)) =
    replaced-stays remembered now told _ before between after is inl (failed.others disk.Replace (λ same. cc))

replaced-call : (call : OutsideCall) (ok lost remembered now : Bool) (told : Type 0) (before between after : DiskCall → ℕ)
    → CountsCall call ok lost remembered now between after → Replaced remembered told before between
    → Replaced now (told ⊎ (Outcome call ok ≡ Outcome Call.Save false)) before after
replaced-call Call.Append true lost remembered now told before between after counts =
    replaced-stays remembered now told _ before between after counts.0 inl (counts.1 disk.Replace)
replaced-call Call.Sync true lost remembered now told before between after counts =
    replaced-stays remembered now told _ before between after counts.0 inl (counts.1 disk.Replace)
replaced-call Call.Save true lost remembered now told before between after counts =
    replaced-stays remembered now told _ before between after counts.0 inl (counts.1 disk.Replace)
replaced-call Call.Append false lost remembered now told before between after counts =
    replaced-stays remembered now told _ before between after counts.0 inl (counts.1.others disk.Replace (λ same. cc))
replaced-call Call.Sync false true remembered now told before between after counts =
    replaced-stays remembered now told _ before between after counts.0 inl (counts.1 disk.Replace)
replaced-call Call.Sync false false remembered now told before between after counts =
    replaced-stays remembered now told _ before between after counts.0 inl (counts.1.others disk.Replace (λ same. cc))
replaced-call Call.Save false lost remembered now told before between after counts =
    replaced-save remembered now told before between after counts

replaced-told : (owed : Option Told) (lost remembered now : Bool) (told : Type 0) (before between after : DiskCall → ℕ)
    → CountsTold owed lost remembered now between after → Replaced remembered told before between
    → Replaced now (told ⊎ IsFailedSave owed) before after
replaced-told None lost remembered now told before between after counts =
    replaced-stays remembered now told _ before between after counts.0 inl (counts.1 disk.Replace)
replaced-told (Some owed) lost remembered now told before between after counts =
    replaced-call owed.call owed.ok lost remembered now told before between after counts

-- ---- a swap that was lost

-- a count of the calls that lose the swap rose, or it is remembered that a replacement failed
abbrev SomeRose : Bool → (DiskCall → ℕ) → (DiskCall → ℕ) → Type 0
SomeRose remembered before after =
    (Rose (before disk.Append) (after disk.Append) ⊎ Rose (before disk.Sync) (after disk.Sync)
    ⊎ Rose (before disk.Reset) (after disk.Reset)) ⊎ (remembered ≡ true)

some-later : (remembered now : Bool) (before between after : DiskCall → ℕ) → (remembered ≡ true → now ≡ true) → Rises between after
    → SomeRose remembered before between → SomeRose now before after
some-later remembered now before between after stays rises (inl (inl rose)) =
    inl (inl (rose_later (before disk.Append) (between disk.Append) (after disk.Append) rose rises.append))
some-later remembered now before between after stays rises (inl (inr (inl rose))) =
    inl (inr (inl (rose_later (before disk.Sync) (between disk.Sync) (after disk.Sync) rose rises.sync)))
some-later remembered now before between after stays rises (inl (inr (inr rose))) =
    inl (inr (inr (rose_later (before disk.Reset) (between disk.Reset) (after disk.Reset) rose rises.reset)))
some-later remembered now before between after stays rises (inr failed) = inr (stays failed)

some-save : (remembered now : Bool) (before between after : DiskCall → ℕ) → Rises before between → SaveFailed remembered now between after
    → SomeRose now before after
some-save remembered now before between after rises (inl failed) = inr failed.0
some-save remembered now before between after rises (inr (is, inl failed)) =
    inl (inr (inl (rose_sooner (before disk.Sync) (between disk.Sync) (after disk.Sync) rises.sync failed.rose)))
some-save remembered now before between after rises (inr (is, inr failed)) =
    inl (inr (inr (rose_sooner (before disk.Reset) (between disk.Reset) (after disk.Reset) rises.reset failed.rose)))

-- what lost the swap is told
some-call : (call : OutsideCall) (ok lost remembered now : Bool) (before between after : DiskCall → ℕ) → Rises before between
    → Rises between after → CountsCall call ok lost remembered now between after → (lost ≡ true → SomeRose remembered before between)
    → lost_by lost (Outcome call ok) ≡ true → SomeRose now before after
some-call Call.Append true lost remembered now before between after sooner later counts was is =
    some-later remembered now before between after (λ failed. counts.0 ∙ failed) later (was is)
some-call Call.Sync true lost remembered now before between after sooner later counts was is =
    some-later remembered now before between after (λ failed. counts.0 ∙ failed) later (was is)
some-call Call.Save true lost remembered now before between after sooner later counts was is = absurd (cc)
some-call Call.Append false lost remembered now before between after sooner later counts was is =
    inl (inl (rose_sooner (before disk.Append) (between disk.Append) (after disk.Append) sooner.append counts.1.rose))
some-call Call.Sync false true remembered now before between after sooner later counts was is =
    some-later remembered now before between after (λ failed. counts.0 ∙ failed) later (was refl)
some-call Call.Sync false false remembered now before between after sooner later counts was is =
    inl (inr (inl (rose_sooner (before disk.Sync) (between disk.Sync) (after disk.Sync) sooner.sync counts.1.rose)))
some-call Call.Save false lost remembered now before between after sooner later counts was is =
    some-save remembered now before between after sooner counts

some-told : (owed : Option Told) (lost remembered now : Bool) (before between after : DiskCall → ℕ) → Rises before between
    → Rises between after → CountsTold owed lost remembered now between after → (lost ≡ true → SomeRose remembered before between)
    → lost_with lost owed ≡ true → SomeRose now before after
some-told None lost remembered now before between after sooner later counts was is =
    some-later remembered now before between after (λ failed. counts.0 ∙ failed) later (was is)
some-told (Some told) lost remembered now before between after sooner later counts was is =
    some-call told.call told.ok lost remembered now before between after sooner later counts was is

replaced-by : (remembered : Bool) (told more : Type 0) (before now : DiskCall → ℕ) → (told → more) → Replaced remembered told before now
    → Replaced remembered more before now
replaced-by true told more before now by replaced = (replaced.0, by replaced.1)
replaced-by false told more before now by replaced = replaced

-- ---- what the counts say, beside the events so far and the part

-- The failures so far are those that are told, and the one that is owed
pub record Counting (events : List Event) (part : Part) (before now : DiskCall → ℕ) : Type 0 where
  pub counted : Counted (failed_appends events + owed_append part.owed)
      (failed_calls false events + owed_call (lost_after false events) part.owed) before now
  pub replaced : Replaced part.replace_failed (HasFailedSave events ⊎ IsFailedSave part.owed) before now
  pub rises : Rises before now
  pub lost : is_lost part.swap.state ≡ true → SomeRose part.replace_failed before now

pub Counting-none : (events : List Event) (commands : List Command) (swap : SwapView) (part : Part) (faults : DiskCall → ℕ) → events ≡ []
    → part ≡ part_of commands swap → swap.state ≡ Guarded → Counting events part faults faults
Counting-none events commands swap part faults fresh is guarded =
    subst (λ (p : Part). Counting events p faults faults) (sym is)
    (subst (λ (es : List Event). Counting es (part_of commands swap) faults faults) (sym fresh) (record {
      counted = record {
        appends = inl (omega arith);
        calls = inl (omega arith);
        appends_told = λ more. absurd (omega arith);
        calls_told = λ more. absurd (omega arith);
        reads = record { saved_len = refl; saved_at = refl; swap_len = refl; swap_at = refl };
      };
      replaced = refl;
      rises = record { append = omega arith; sync = omega arith; replace = omega arith; reset = omega arith };
      lost = λ lost. let never = sym (ap is_lost guarded) ∙ lost in absurd (cc);
    }))

-- .. after others that tell the same
pub Counting-same : (first : State) (events later : List Event) (part : Part) (before now : DiskCall → ℕ) → Same first events later
    → Counting events part before now → Counting later part before now
Counting-same first events later part before now same counting =
    record {
      counted = rw (same.appends, same.calls, same.lost) counting.counted;
      replaced = replaced-by part.replace_failed (HasFailedSave events ⊎ IsFailedSave part.owed) (HasFailedSave later ⊎ IsFailedSave part.owed) before now
          by counting.replaced;
      rises = counting.rises;
      lost = counting.lost;
    } where
      by : HasFailedSave events ⊎ IsFailedSave part.owed → HasFailedSave later ⊎ IsFailedSave part.owed
      by (inl failed) = inl (same.save failed)
      by (inr owed) = inr owed

-- what is owed is told by the next request
append-next : (owed : Option Told) (request : Request) → NextBy owed request → owed_append owed ≡ append_charge request
append-next None (Cmd command) next = refl
append-next None Close next = refl
append-next None _ next = absurd (cc)
append-next (Some told) request next = ap append_charge next

call-next : (lost : Bool) (owed : Option Told) (request : Request) → NextBy owed request → owed_call lost owed ≡ call_charge lost request
call-next lost None (Cmd command) next = refl
call-next lost None Close next = refl
call-next lost None _ next = absurd (cc)
call-next lost (Some told) request next = ap (call_charge lost) next

save-next : (events : List Event) (owed : Option Told) (request : Request) (answer : Reply) → NextBy owed request
    → HasFailedSave events ⊎ IsFailedSave owed → HasFailedSave (events ++ own request answer ∷ [])
save-next events owed request answer next (inl (event, there, is)) = (event, Contains-append_left events (own request answer ∷ []) event there, is)
save-next events None request answer next (inr failed) = absurd failed
save-next events (Some told) request answer next (inr failed) =
    (own request answer, Contains-append_right events (own request answer ∷ []) (own request answer) (0, omega arith, refl), sym next ∙ failed)

-- what holds of the counts once this request is made, before its call of the disk
record Made (events : List Event) (part : Part) (swap_lost : Bool) (before now : DiskCall → ℕ) : Type 0 where
  counted : Counted (failed_appends events) (failed_calls false events) before now
  replaced : Replaced part.replace_failed (HasFailedSave events) before now
  rises : Rises before now
  lost_is : lost_after false events ≡ swap_lost
  lost : swap_lost ≡ true → SomeRose part.replace_failed before now

lost-next : (lost : Bool) (owed : Option Told) (request : Request) → NextBy owed request → lost_by lost request ≡ lost_with lost owed
lost-next lost None (Cmd command) next = refl
lost-next lost None Close next = refl
lost-next lost None _ next = absurd (cc)
lost-next lost (Some told) request next = ap (lost_by lost) (sym next)

made : (events : List Event) (part : Part) (request : Request) (answer : Reply) (before now : DiskCall → ℕ)
    → Counting events part before now → NextBy part.owed request → is_lost part.swap.state ≡ lost_with (lost_after false events) part.owed
    → Made (events ++ own request answer ∷ []) part (is_lost part.swap.state) before now
made events part request answer before now counting next lost =
    let last : List Event = own request answer ∷ [] in
    let appends : failed_appends (events ++ last) ≡ failed_appends events + owed_append part.owed =
    omega (arith, failed_appends-append events last, append-next part.owed request next) in
    let calls : failed_calls false (events ++ last) ≡ failed_calls false events + owed_call (lost_after false events) part.owed =
    omega (arith, failed_calls-append false events last, call-next (lost_after false events) part.owed request next) in
    record {
      counted = subst (λ (n : ℕ). Counted n (failed_calls false (events ++ last)) before now) (sym appends)
          (subst (λ (n : ℕ). Counted (failed_appends events + owed_append part.owed) n before now) (sym calls) counting.counted);
      replaced = replaced-by part.replace_failed (HasFailedSave events ⊎ IsFailedSave part.owed) (HasFailedSave (events ++ last)) before now
          (save-next events part.owed request answer next) counting.replaced;
      rises = counting.rises;
      lost_is = lost_after-last false events (own request answer) ∙ lost-next (lost_after false events) part.owed request next ∙ sym lost;
      lost = counting.lost;
    }

-- one request more, with its call of the disk, from the part that was asked
pub Counting-more : (events : List Event) (part mid later : Part) (request : Request) (answer : Reply) (before now next : DiskCall → ℕ)
    → Counting events part before now → NextBy part.owed request → is_lost part.swap.state ≡ lost_with (lost_after false events) part.owed
    → KeepsPart part mid → is_lost later.swap.state ≡ lost_with (is_lost mid.swap.state) later.owed
    → CountsTold later.owed (is_lost mid.swap.state) mid.replace_failed later.replace_failed now next
    → Counting (events ++ own request answer ∷ []) later before next
Counting-more events part mid later request answer before now next counting by lost kept later_lost counts =
    let more : List Event = events ++ own request answer ∷ [] in
    let was = made events part request answer before now counting by lost in
    let same : is_lost mid.swap.state ≡ is_lost part.swap.state = ap (λ (s : SwapView). is_lost s.state) kept.swap in
    let counts_part : CountsTold later.owed (is_lost part.swap.state) part.replace_failed later.replace_failed now next =
    subst (λ (l : Bool). CountsTold later.owed l part.replace_failed later.replace_failed now next) same
    (subst (λ (b : Bool). CountsTold later.owed (is_lost mid.swap.state) b later.replace_failed now next) kept.replace_failed counts) in
    let charge = charged later.owed (is_lost part.swap.state) part.replace_failed later.replace_failed now next counts_part in
    record {
      counted = subst (λ (l : Bool). Counted (failed_appends more + owed_append later.owed) (failed_calls false more + owed_call l later.owed) before next)
          (sym was.lost_is)
          (counted-more before now next (failed_appends more) (failed_calls false more) (owed_append later.owed)
          (owed_call (is_lost part.swap.state) later.owed) was.counted charge);
      replaced = replaced-told later.owed (is_lost part.swap.state) part.replace_failed later.replace_failed (HasFailedSave more) before now next
          counts_part was.replaced;
      rises = rises-then before now next was.rises charge.rises;
      lost = λ is. some-told later.owed (is_lost part.swap.state) part.replace_failed later.replace_failed before now next was.rises charge.rises
          counts_part was.lost (sym (later_lost ∙ ap (λ (l : Bool). lost_with l later.owed) same) ∙ is);
    }

-- ---- in the end nothing is owed

pub Counting-counted : (events : List Event) (part : Part) (before now : DiskCall → ℕ) → Counting events part before now → part.owed ≡ None
    → Counted (failed_appends events) (failed_calls false events) before now
Counting-counted events part before now counting none =
    let appends : failed_appends events + owed_append part.owed ≡ failed_appends events = omega (arith, ap owed_append none) in
    let calls : failed_calls false events + owed_call (lost_after false events) part.owed ≡ failed_calls false events =
    omega (arith, ap (owed_call (lost_after false events)) none) in
    subst (λ (n : ℕ). Counted n (failed_calls false events) before now) appends
    (subst (λ (n : ℕ). Counted (failed_appends events + owed_append part.owed) n before now) calls counting.counted)

-- what the status says, by what the part knows
pub record Ends (given : Status) (part : Part) : Type 0 where
  pub failed : part.replace_failed ≡ true → given ≡ status.DiskFault
  pub lost : part.replace_failed ≡ false → is_lost part.swap.state ≡ true → given ≡ status.SwapLost
  pub ok : part.replace_failed ≡ false → is_lost part.swap.state ≡ false → given ≡ status.Ok

-- .. by what the part that was asked knows
pub ends-by : (given : Status) (part mid : Part) → KeepsPart part mid → Ends given mid → Ends given part
ends-by given part mid kept ends = record {
  failed = λ is. ends.failed (kept.replace_failed ∙ is);
  lost = λ none is. ends.lost (kept.replace_failed ∙ none) (ap (λ (s : SwapView). is_lost s.state) kept.swap ∙ is);
  ok = λ none is. ends.ok (kept.replace_failed ∙ none) (ap (λ (s : SwapView). is_lost s.state) kept.swap ∙ is);
}

only-told : (events : List Event) (owed : Option Told) → owed ≡ None → HasFailedSave events ⊎ IsFailedSave owed → HasFailedSave events
only-told events owed none (inl told) = told
only-told events owed none (inr owes) = absurd (subst IsFailedSave none owes)

ending-by : (failed lost : Bool) (given : Status) (events : List Event) (before now : DiskCall → ℕ) → lost_after false events ≡ lost
    → (failed ≡ true → given ≡ status.DiskFault) → (failed ≡ false → lost ≡ true → given ≡ status.SwapLost)
    → (failed ≡ false → lost ≡ false → given ≡ status.Ok) → Replaced failed (HasFailedSave events) before now → IsEnding given events before now
ending-by true lost given events before now is when_failed when_lost when_ok replaced =
    subst (λ (s : Status). IsEnding s events before now) (sym (when_failed refl)) (replaced.0, replaced.1)
ending-by false true given events before now is when_failed when_lost when_ok replaced =
    subst (λ (s : Status). IsEnding s events before now) (sym (when_lost refl refl)) (is, replaced)
ending-by false false given events before now is when_failed when_lost when_ok replaced =
    subst (λ (s : Status). IsEnding s events before now) (sym (when_ok refl refl)) (is, replaced)

pub Counting-ending : (events : List Event) (part : Part) (given : Status) (before now : DiskCall → ℕ) → Counting events part before now
    → part.owed ≡ None → is_lost part.swap.state ≡ lost_with (lost_after false events) part.owed → Ends given part
    → IsEnding given events before now
Counting-ending events part given before now counting none lost ends =
    ending-by part.replace_failed (is_lost part.swap.state) given events before now
    (sym (lost ∙ ap (lost_with (lost_after false events)) none)) ends.failed ends.lost ends.ok
    (replaced-by part.replace_failed (HasFailedSave events ⊎ IsFailedSave part.owed) (HasFailedSave events) before now
    (only-told events part.owed none) counting.replaced)

ended-by : (failed lost : Bool) (given : Status) (told : Type 0) (before now : DiskCall → ℕ) → (failed ≡ true → given ≡ status.DiskFault)
    → (failed ≡ false → lost ≡ true → given ≡ status.SwapLost) → (failed ≡ false → lost ≡ false → given ≡ status.Ok)
    → Replaced failed told before now → (lost ≡ true → SomeRose failed before now) → Ended given before now
ended-by true lost given told before now when_failed when_lost when_ok replaced some =
    subst (λ (s : Status). Ended s before now) (sym (when_failed refl)) replaced.0
ended-by false true given told before now when_failed when_lost when_ok replaced some =
    subst (λ (s : Status). Ended s before now) (sym (when_lost refl refl)) (replaced, rose (some refl)) where
      rose : SomeRose false before now
          → Rose (before disk.Append) (now disk.Append) ⊎ Rose (before disk.Sync) (now disk.Sync) ⊎ Rose (before disk.Reset) (now disk.Reset)
      rose (inl is) = is
      rose (inr never) = absurd (cc)
ended-by false false given told before now when_failed when_lost when_ok replaced some =
    subst (λ (s : Status). Ended s before now) (sym (when_ok refl refl)) replaced

pub Counting-ended : (events : List Event) (part : Part) (given : Status) (before now : DiskCall → ℕ) → Counting events part before now
    → Ends given part → Ended given before now
Counting-ended events part given before now counting ends =
    ended-by part.replace_failed (is_lost part.swap.state) given (HasFailedSave events ⊎ IsFailedSave part.owed) before now ends.failed ends.lost
    ends.ok counting.replaced counting.lost

-- no read failed by one call more
pub reads-more : (before now next : DiskCall → ℕ) (owed : Option Told) (lost remembered later : Bool) → ReadsStay before now
    → CountsTold owed lost remembered later now next → ReadsStay before next
reads-more before now next owed lost remembered later reads counts =
    reads-then before now next reads (charged owed lost remembered later now next counts).reads
