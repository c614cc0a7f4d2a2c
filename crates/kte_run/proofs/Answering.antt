-- What an edit says, wherever it ends.
use Rattle.std.proofs.Common.{◌≡◌, ◌≢◌, ◌⊎◌, inl, inr, ◌∙◌, ℕ, ◌<◌, Bool, true, false, List, [], ◌∷◌, length, Option, Some, None, Result, Ok, Err, IfSome, IsOk, IsSomeAnd, Contains, refl, sym, ap, subst, arith}
use Rattle.std.specs.Io.KnownBytes.{Appends}
use Rattle.std.proofs.lemmas.Bool.{true≢false}
use Rattle.std.proofs.lemmas.List.Elements.{All-contains, All-nil, All-cons}
use Rattle.std.proofs.lemmas.Option.{none-some}
use Rattle.kte_causes.specs.Contents.{AppendsPrefix}
use Rattle.kte_causes.specs.Faults.{Rose}
use Rattle.kte_causes.specs.DiskFaults.{AllStay}
use Rattle.kte_causes.specs.Moments.{Moment, AddsMoments, Staying, latest, saved_now, swap_now}
use Rattle.kte_causes.specs.declared.causes.DiskCall.{DiskCall}
use Rattle.kte_causes.specs.declared.causes.DiskCall.TheVariants.{SavedLen, SavedAt, SwapLen, SwapAt, Append, Sync, Replace, Reset}
use Rattle.kte_causes.specs.declared.causes.SinkFail.{SinkFail}
use Rattle.kte_causes.specs.declared.causes.SinkFail.TheVariants as sink
use Rattle.kte_causes.proofs.CallerLemmas.{Staying-then, saved_now-stays, swap_now-stays}
use Rattle.kte_text.specs.Digests.{digest_of}
use Rattle.kte_text.specs.Files.{Loads, Refuses}
use Rattle.kte_text.specs.declared.loading.Loaded.{Loaded}
use Rattle.kte_text.specs.declared.loading.LoadFault.{LoadFault}
use Rattle.kte_text.specs.declared.loading.LoadFault.TheVariants as load
use Rattle.kte_swap.specs.Swap.{SwapView}
use Rattle.kte_swap.specs.declared.causes.SwapState.TheVariants.{Guarded}
use Rattle.kte_command.specs.declared.command.Command.{Command}
use Rattle.kte_script.specs.declared.fault.ScriptFault.{ScriptFault}
use Rattle.kte_script.specs.declared.fault.ScriptFault.TheVariants as script_fault
use Rattle.kte_script.specs.Script.{script_of}
use Rattle.kte_run.specs.declared.status.Status.{Status}
use Rattle.kte_run.specs.declared.status.Status.TheVariants as status
use Rattle.kte_run.specs.Outcomes.{Begins, Ended, ReadsStay}
use Rattle.kte_run.specs.Edit.{EndsEarly, Inputs, IsBegun, IsEdited, IsWritten, beside, inputs}
use Rattle.kte_run.specs.Run.{FailedBefore, FilesStay, IsEdit, IsLoadable, LoadRose, Outer, Outside, Outputs, Prints, WasLoaded, WasRead, WasWritten, Writes, WritesPrefix}
use Rattle.kte_run.specs.Statuses.{file_status, sink_status, is_of_edit, is_of_file, is_of_script, is_of_swap}
use Rattle.kte_run.proofs.Files.{later, if_is, some_same, swap_both}
use Rattle.kte_run.proofs.OutputLemmas.{Prints-from}

-- ---- statuses

-- a status of some is none of the others
not-of : (P : Status → Bool) (given other : Status) → P given ≡ true → P other ≡ false → given ≡ other → ⊥
not-of P given other is is_not same = true≢false (sym is ∙ ap P same ∙ is_not)

-- statuses of some, none of which is a file's
file-not : (P : Status → Bool) → P (status.TooLarge None) ≡ false → ((at : ℕ) → P (status.NotUtf8 at) ≡ false)
    → ((size : ℕ) → P (status.TooLarge (Some size)) ≡ false) → (fault : LoadFault) → fault ≢ load.NoMemory → P (file_status fault) ≡ false
file-not P long bad large load.LongFile some = long
file-not P long bad large (load.NotUtf8 at) some = bad at
file-not P long bad large (load.TooLarge size) some = large size
file-not P long bad large load.NoMemory some = absurd (some refl)

-- two errors of one status
pub err_same : {T : Type 0} (a b : Status) → ◌≡◌ {A = Result T Status} (Err a) (Err b) → a ≡ b
err_same a b same = cc

edit-of-script : (given : Status) → is_of_script given ≡ true → is_of_edit given ≡ true
edit-of-script status.NoMemory only = refl
edit-of-script status.ReadFault only = refl
edit-of-script (status.BadScript fault) only = refl
edit-of-script _ only = absurd (cc)

edit-of-swap : (given : Status) → is_of_swap given ≡ true → is_of_edit given ≡ true
edit-of-swap status.NoMemory only = refl
edit-of-swap status.DiskFault only = refl
edit-of-swap (status.SwapPresent bytes) only = refl
edit-of-swap _ only = absurd (cc)

edit-of-file : (given : Status) → is_of_file given ≡ true → is_of_edit given ≡ true
edit-of-file status.NoMemory only = refl
edit-of-file status.DiskFault only = refl
edit-of-file (status.NotUtf8 at) only = refl
edit-of-file (status.TooLarge size) only = refl
edit-of-file _ only = absurd (cc)

-- the statuses that come once all was read
abbrev is_late : Status → Bool
is_late status.Ok = true
is_late status.NoMemory = true
is_late status.DiskFault = true
is_late status.SwapLost = true
is_late status.WriteFault = true
is_late _ = false

edit-of-late : (given : Status) → is_late given ≡ true → is_of_edit given ≡ true
edit-of-late status.Ok only = refl
edit-of-late status.NoMemory only = refl
edit-of-late status.DiskFault only = refl
edit-of-late status.SwapLost only = refl
edit-of-late status.WriteFault only = refl
edit-of-late _ only = absurd (cc)

-- the statuses of a run in which words, script and file are of their forms, and there is no swap file
abbrev Complete : Status → Type 0
Complete given = Contains (status.Ok ∷ status.ReadFault ∷ status.DiskFault ∷ status.SwapLost ∷ status.WriteFault ∷ status.NoMemory ∷ []) given

complete-late : (given : Status) → is_late given ≡ true → Complete given
complete-late status.Ok only = (0, omega arith, refl)
complete-late status.NoMemory only = (5, omega arith, refl)
complete-late status.DiskFault only = (2, omega arith, refl)
complete-late status.SwapLost only = (3, omega arith, refl)
complete-late status.WriteFault only = (4, omega arith, refl)
complete-late _ only = absurd (cc)

late-from : (ending : Status) (before after : DiskCall → ℕ) → Ended ending before after → is_late ending ≡ true
late-from status.Ok before after ended = refl
late-from status.DiskFault before after ended = refl
late-from status.SwapLost before after ended = refl
late-from _ before after ended = absurd ended

-- of these the end of a run that was written is no fault of the sink
late-wrote : (ending : Status) (before after : DiskCall → ℕ) → Ended ending before after → (ending ≡ status.WriteFault) ⊎ (ending ≡ status.NoMemory) → ⊥
late-wrote status.Ok before after ended which = elim which [ inl is ↦ absurd (cc) | inr is ↦ absurd (cc) ]
late-wrote status.DiskFault before after ended which = elim which [ inl is ↦ absurd (cc) | inr is ↦ absurd (cc) ]
late-wrote status.SwapLost before after ended which = elim which [ inl is ↦ absurd (cc) | inr is ↦ absurd (cc) ]
late-wrote _ before after ended which = absurd ended

late-replaced : (ending : Status) (before after : DiskCall → ℕ) → Ended ending before after → before Replace < after Replace → ending ≡ status.DiskFault
late-replaced status.Ok before after ended more = absurd (omega (arith, ended, more))
late-replaced status.DiskFault before after ended more = refl
late-replaced status.SwapLost before after ended more = absurd (let stays = ended.0 in omega (arith, stays, more))
late-replaced _ before after ended more = absurd ended

-- ---- the script

-- a script does not both spell commands and not spell them
spells-bad : (left : Option (List ℕ)) (fault : ScriptFault) → IsSomeAnd left (λ bytes. IsOk (script_of bytes)) → IfSome left (λ bytes. script_of bytes ≡ Err fault) → ⊥
spells-bad None fault spells bad = spells
spells-bad (Some bytes) fault spells bad = let never = rw bad at spells in cc

bad-spells : (left : Option (List ℕ)) (fault : ScriptFault) → IfSome left (λ bytes. IsOk (script_of bytes)) → IsSomeAnd left (λ bytes. script_of bytes ≡ Err fault) → ⊥
bad-spells None fault spells bad = bad
bad-spells (Some bytes) fault spells bad = let never = rw bad at spells in cc

-- what ends a run at a script that spells commands
script-spelled : (given first second : Status) → is_of_script given ≡ true → ((fault : ScriptFault) → given ≡ status.BadScript fault → ⊥) → Contains (first ∷ second ∷ status.ReadFault ∷ status.NoMemory ∷ []) given
script-spelled status.NoMemory first second only spelled = (3, omega arith, refl)
script-spelled status.ReadFault first second only spelled = (2, omega arith, refl)
script-spelled (status.BadScript fault) first second only spelled = absurd (spelled fault refl)
script-spelled _ first second only spelled = absurd (cc)

-- what ends a run at a script that is at fault
script-bad : (given : Status) (left : Option (List ℕ)) (fault : ScriptFault) → is_of_script given ≡ true → ((other : ScriptFault) → given ≡ status.BadScript other → IfSome left (λ bytes. script_of bytes ≡ Err other)) → IsSomeAnd left (λ bytes. script_of bytes ≡ Err fault) → Contains (status.BadScript fault ∷ status.ReadFault ∷ status.NoMemory ∷ []) given
script-bad given None fault only told bad = absurd bad
script-bad status.NoMemory (Some bytes) fault only told bad = (2, omega arith, refl)
script-bad status.ReadFault (Some bytes) fault only told bad = (1, omega arith, refl)
script-bad (status.BadScript other) (Some bytes) fault only told bad =
    let faults : script_of bytes ≡ Err other = told other refl in
    let same : fault ≡ other = cc (bad, faults) in
    (0, omega arith, ap status.BadScript same)
script-bad _ (Some bytes) fault only told bad = absurd (cc)

-- what ends a run that reads its script, if all are of their forms
script-complete : (given : Status) → is_of_script given ≡ true → ((fault : ScriptFault) → given ≡ status.BadScript fault → ⊥) → Complete given
script-complete status.NoMemory only spelled = (5, omega arith, refl)
script-complete status.ReadFault only spelled = (1, omega arith, refl)
script-complete (status.BadScript fault) only spelled = absurd (spelled fault refl)
script-complete _ only spelled = absurd (cc)

-- ---- files that are told, or not

-- nothing was written, whatever is told
unwritten : (left saved : Option (List ℕ)) (Same : Type 0) (Written : List ℕ → List ℕ → Type 0) → Same → IfSome left (λ script. IfSome saved (λ file. Same ⊎ Written script file))
unwritten None saved Same Written same = tt
unwritten (Some script) None Same Written same = tt
unwritten (Some script) (Some file) Same Written same = inl same

-- what is told before is told later
earlier : (P : List ℕ → Type 0) (before after : Option (List ℕ)) → IfSome before (λ file. after ≡ Some file) → IsSomeAnd before P → IsSomeAnd after P
earlier P None after on h = absurd h
earlier P (Some file) after on h = subst (λ (o : Option (List ℕ)). IsSomeAnd o P) (sym on) h

-- a property of these bytes is one of the file that they are
of-file : (o : Option (List ℕ)) (P : List ℕ → Type 0) (bytes : List ℕ) → IfSome o (λ file. bytes ≡ file) → P bytes → IfSome o P
of-file None P bytes same holds = tt
of-file (Some file) P bytes same holds = subst P same holds

-- ---- a run that ends at its script

pub ends-at-script : (workers : ℕ) (before : Outside) (left : Option (List ℕ)) (faults : ℕ) (disk_stays sink_stays : Type 0) (given : Status)
    → disk_stays → sink_stays → is_of_script given ≡ true
    → (given ≡ status.ReadFault → Rose before.script_faults faults)
    → (before.script_faults < faults → given ≡ status.ReadFault)
    → ((fault : ScriptFault) → given ≡ status.BadScript fault → (fault ≢ script_fault.NoMemory) × (faults ≡ before.script_faults)
    × IfSome before.left (λ bytes. script_of bytes ≡ Err fault))
    → IsEdit workers before (record before { left = left; script_faults = faults }) disk_stays sink_stays given
ends-at-script workers before left faults disk_stays sink_stays given idle quiet only rose comes bad = record {
  ok = λ is. absurd (never status.Ok refl is);
  swap_lost = λ is. absurd (never status.SwapLost refl is);
  swap_lost_rose = λ is. absurd (never status.SwapLost refl is);
  disk_fault = λ is. absurd (never status.DiskFault refl is);
  disk_fault_comes = λ call one more. absurd (omega (arith, more));
  replace_fault_comes = λ more. absurd (omega (arith, more));
  read_fault = λ is. (rose is, idle, quiet);
  read_fault_comes = comes;
  bad_script = λ fault is. let why = bad fault is in (why.1, why.2, idle, quiet);
  bad_script_comes = λ fault is. script-bad given before.left fault only (λ other same. (bad other same).2) is;
  bad_script_named = λ is. (bad script_fault.NoMemory is).0 refl;
  swap_present = λ bytes is. absurd (never (status.SwapPresent bytes) refl is);
  swap_present_comes = λ swap spells there some. script-spelled given (status.SwapPresent (length swap)) status.DiskFault only (spelled spells);
  refused = λ fault some is. absurd (never (file_status fault) (file-not is_of_script refl (λ at. refl) (λ size. refl) fault some) is);
  refused_comes = λ fault spells empty refuses. script-spelled given (file_status fault) status.DiskFault only (spelled spells);
  write_fault = λ is. absurd (never status.WriteFault refl is);
  write_fault_comes = λ more. absurd (omega (arith, more));
  prefix = λ which. unwritten before.left (saved_now before.disk.moments) (before.got ≡ before.got) (λ script file. WritesPrefix workers script file before.disk before.disk before.got before.got) refl;
  complete = λ spells empty loadable. script-complete given only (spelled spells);
  only = edit-of-script given only;
} where
  never : (other : Status) → is_of_script other ≡ false → given ≡ other → ⊥
  never other is_not is = not-of is_of_script given other only is_not is

  spelled : IsSomeAnd before.left (λ bytes. IsOk (script_of bytes)) → (fault : ScriptFault) → given ≡ status.BadScript fault → ⊥
  spelled spells fault is = spells-bad before.left fault spells (bad fault is).2

-- ---- a run that ends at a swap file

-- a swap file is not both empty and there
no-swap : (swap : Option (List ℕ)) (bytes : ℕ) → IfSome swap (λ s. (bytes ≡ length s) × (s ≢ [])) → IsSomeAnd swap (λ s. s ≡ []) → ⊥
no-swap None bytes there empty = empty
no-swap (Some s) bytes there empty = there.1 empty

-- what ends a run that looks for a swap file
swap-ends : (given : Status) → is_of_swap given ≡ true → ((bytes : ℕ) → given ≡ status.SwapPresent bytes → ⊥) → (given ≡ status.DiskFault) ⊎ (given ≡ status.NoMemory)
swap-ends status.NoMemory only absent = inr refl
swap-ends status.DiskFault only absent = inl refl
swap-ends (status.SwapPresent bytes) only absent = absurd (absent bytes refl)
swap-ends _ only absent = absurd (cc)

swap-there : (given : Status) (size : ℕ) → is_of_swap given ≡ true → ((bytes : ℕ) → given ≡ status.SwapPresent bytes → bytes ≡ size)
    → Contains (status.SwapPresent size ∷ status.DiskFault ∷ status.ReadFault ∷ status.NoMemory ∷ []) given
swap-there status.NoMemory size only there = (3, omega arith, refl)
swap-there status.DiskFault size only there = (1, omega arith, refl)
swap-there (status.SwapPresent bytes) size only there = (0, omega arith, ap status.SwapPresent (sym (there bytes refl)))
swap-there _ size only there = absurd (cc)

-- one of two statuses is among others with them
one-of-file : (given first : Status) → (given ≡ status.DiskFault) ⊎ (given ≡ status.NoMemory) → Contains (first ∷ status.DiskFault ∷ status.ReadFault ∷ status.NoMemory ∷ []) given
one-of-file given first (inl is) = (1, omega arith, sym is)
one-of-file given first (inr is) = (3, omega arith, sym is)

one-of-all : (given : Status) → (given ≡ status.DiskFault) ⊎ (given ≡ status.NoMemory) → Complete given
one-of-all given (inl is) = (2, omega arith, sym is)
one-of-all given (inr is) = (5, omega arith, sym is)

pub ends-at-swap : (workers : ℕ) (before : Outside) (left : Option (List ℕ)) (faults : ℕ) (disk : Outer) (disk_stays sink_stays : Type 0) (given : Status)
    → sink_stays → WasRead before (record before { left = left; script_faults = faults; disk = disk }) → is_of_swap given ≡ true
    → FilesStay before.disk disk
    → (given ≡ status.DiskFault → Rose (before.disk.faults SwapLen) (disk.faults SwapLen))
    → ((call : DiskCall) → before.disk.faults call < disk.faults call → given ≡ status.DiskFault)
    → ((bytes : ℕ) → given ≡ status.SwapPresent bytes → AllStay before.disk.faults disk.faults
    × IfSome (swap_now before.disk.moments) (λ swap. (bytes ≡ length swap) × (swap ≢ [])))
    → IsEdit workers before (record before { left = left; script_faults = faults; disk = disk }) disk_stays sink_stays given
ends-at-swap workers before left faults disk disk_stays sink_stays given quiet read only files rose comes present = record {
  ok = λ is. absurd (never status.Ok refl is);
  swap_lost = λ is. absurd (never status.SwapLost refl is);
  swap_lost_rose = λ is. absurd (never status.SwapLost refl is);
  disk_fault = λ is. (read, inl (record { rose = inl (rose is); files = files; sink = quiet }));
  disk_fault_comes = λ call one more. comes call more;
  replace_fault_comes = λ more. (0, omega arith, sym (comes Replace more));
  read_fault = λ is. absurd (never status.ReadFault refl is);
  read_fault_comes = λ more. absurd (let calm = read.calm in omega (arith, calm, more));
  bad_script = λ fault is. absurd (never (status.BadScript fault) refl is);
  bad_script_comes = λ fault bad. absurd (bad-spells before.left fault read.spells bad);
  bad_script_named = λ is. never (status.BadScript script_fault.NoMemory) refl is;
  swap_present = λ bytes is. let there = present bytes is in (read, there.0, there.1, files, quiet);
  swap_present_comes = λ swap spells there some. swap-there given (length swap) only (λ bytes is. (if_is (swap_now before.disk.moments) (λ s. (bytes ≡ length s) × (s ≢ [])) swap (present bytes is).1 there).0);
  refused = λ fault some is. absurd (never (file_status fault) (file-not is_of_swap refl (λ at. refl) (λ size. refl) fault some) is);
  refused_comes = λ fault spells empty refuses. one-of-file given (file_status fault) (ends empty);
  write_fault = λ is. absurd (never status.WriteFault refl is);
  write_fault_comes = λ more. absurd (omega (arith, more));
  prefix = λ which. unwritten before.left (saved_now before.disk.moments) (before.got ≡ before.got) (λ script file. WritesPrefix workers script file before.disk disk before.got before.got) refl;
  complete = λ spells empty loadable. one-of-all given (ends empty);
  only = edit-of-swap given only;
} where
  never : (other : Status) → is_of_swap other ≡ false → given ≡ other → ⊥
  never other is_not is = not-of is_of_swap given other only is_not is

  ends : IsSomeAnd (swap_now before.disk.moments) (λ swap. swap ≡ []) → (given ≡ status.DiskFault) ⊎ (given ≡ status.NoMemory)
  ends empty = swap-ends given only (λ bytes is. no-swap (swap_now before.disk.moments) bytes (present bytes is).1 empty)

-- ---- a run that ends at the saved file

-- a file is not both refused and loadable
loadable-refused : (saved : Option (List ℕ)) (fault : LoadFault) → IsSomeAnd saved IsLoadable → IfSome saved (λ file. Refuses file fault) → ⊥
loadable-refused None fault loadable refused = loadable
loadable-refused (Some file) fault loadable refused = loadable fault refused

refused-loadable : (saved : Option (List ℕ)) (fault : LoadFault) → IfSome saved IsLoadable → IsSomeAnd saved (λ file. Refuses file fault) → ⊥
refused-loadable None fault loadable refused = refused
refused-loadable (Some file) fault loadable refused = loadable fault refused

-- what ends a run at a file that is refused
file-refused : (given refusal : Status) → (given ≡ refusal) ⊎ (given ≡ status.DiskFault) ⊎ (given ≡ status.NoMemory) → Contains (refusal ∷ status.DiskFault ∷ status.ReadFault ∷ status.NoMemory ∷ []) given
file-refused given refusal (inl is) = (0, omega arith, sym is)
file-refused given refusal (inr (inl is)) = (1, omega arith, sym is)
file-refused given refusal (inr (inr is)) = (3, omega arith, sym is)

-- what ends a run at a file that is loadable
file-loadable : (given : Status) (saved : Option (List ℕ)) → is_of_file given ≡ true → ((fault : LoadFault) → fault ≢ load.NoMemory → given ≡ file_status fault → IfSome saved (λ file. Refuses file fault)) → IsSomeAnd saved IsLoadable → Complete given
file-loadable status.NoMemory saved only refused loadable = (5, omega arith, refl)
file-loadable status.DiskFault saved only refused loadable = (2, omega arith, refl)
file-loadable (status.NotUtf8 at) saved only refused loadable = absurd (loadable-refused saved (load.NotUtf8 at) loadable (refused (load.NotUtf8 at) (λ same. cc) refl))
file-loadable (status.TooLarge None) saved only refused loadable = absurd (loadable-refused saved load.LongFile loadable (refused load.LongFile (λ same. cc) refl))
file-loadable (status.TooLarge (Some size)) saved only refused loadable = absurd (loadable-refused saved (load.TooLarge size) loadable (refused (load.TooLarge size) (λ same. cc) refl))
file-loadable _ saved only refused loadable = absurd (cc)

pub ends-at-file : (workers : ℕ) (before : Outside) (left : Option (List ℕ)) (faults : ℕ) (mid disk : Outer) (disk_stays sink_stays : Type 0) (given : Status)
    → sink_stays → WasRead before (record before { left = left; script_faults = faults; disk = disk })
    → IfSome (swap_now before.disk.moments) (λ swap. swap ≡ []) → AllStay before.disk.faults mid.faults
    → FilesStay before.disk mid → FilesStay mid disk → is_of_file given ≡ true
    → (given ≡ status.DiskFault → LoadRose mid.faults disk.faults)
    → ((call : DiskCall) → mid.faults call < disk.faults call → given ≡ status.DiskFault)
    → ((fault : LoadFault) → fault ≢ load.NoMemory → given ≡ file_status fault → AllStay mid.faults disk.faults
    × IfSome (saved_now mid.moments) (λ file. Refuses file fault))
    → ((fault : LoadFault) → IsSomeAnd (saved_now mid.moments) (λ file. Refuses file fault)
    → (given ≡ file_status fault) ⊎ (given ≡ status.DiskFault) ⊎ (given ≡ status.NoMemory))
    → IsEdit workers before (record before { left = left; script_faults = faults; disk = disk }) disk_stays sink_stays given
ends-at-file workers before left faults mid disk disk_stays sink_stays given quiet read empty calm first files only rose comes refused refused_comes = record {
  ok = λ is. absurd (never status.Ok refl is);
  swap_lost = λ is. absurd (never status.SwapLost refl is);
  swap_lost_rose = λ is. absurd (never status.SwapLost refl is);
  disk_fault = λ is. (read, inl (record { rose = inr (rises (rose is)); files = stays; sink = quiet }));
  disk_fault_comes = λ call one more. came call more;
  replace_fault_comes = λ more. (0, omega arith, sym (came Replace more));
  read_fault = λ is. absurd (never status.ReadFault refl is);
  read_fault_comes = λ more. absurd (let calm = read.calm in omega (arith, calm, more));
  bad_script = λ fault is. absurd (never (status.BadScript fault) refl is);
  bad_script_comes = λ fault bad. absurd (bad-spells before.left fault read.spells bad);
  bad_script_named = λ is. never (status.BadScript script_fault.NoMemory) refl is;
  swap_present = λ bytes is. absurd (never (status.SwapPresent bytes) refl is);
  swap_present_comes = λ swap spells there some. absurd (swap_both (swap_now before.disk.moments) swap empty there some);
  refused = λ fault some is.
      let why = refused fault some is in
      (read, λ call. why.0 call ∙ calm call, empty, told (λ file. Refuses file fault) why.1, stays, quiet);
  refused_comes = λ fault spells none refuses. file-refused given (file_status fault) (refused_comes fault (earlier (λ file. Refuses file fault) (saved_now before.disk.moments) (saved_now mid.moments) on refuses));
  write_fault = λ is. absurd (never status.WriteFault refl is);
  write_fault_comes = λ more. absurd (omega (arith, more));
  prefix = λ which. unwritten before.left (saved_now before.disk.moments) (before.got ≡ before.got) (λ script file. WritesPrefix workers script file before.disk disk before.got before.got) refl;
  complete = λ spells none loadable. file-loadable given (saved_now before.disk.moments) only
      (λ fault some is. told (λ file. Refuses file fault) (refused fault some is).1) loadable;
  only = edit-of-file given only;
} where
  never : (other : Status) → is_of_file other ≡ false → given ≡ other → ⊥
  never other is_not is = not-of is_of_file given other only is_not is

  stays : FilesStay before.disk disk
  stays = Staying-then before.disk.moments mid.moments disk.moments first files

  on : IfSome (saved_now before.disk.moments) (λ saved. saved_now mid.moments ≡ Some saved)
  on = saved_now-stays before.disk.moments mid.moments first

  told : (P : List ℕ → Type 0) → IfSome (saved_now mid.moments) P → IfSome (saved_now before.disk.moments) P
  told P holds = later P (saved_now before.disk.moments) (saved_now mid.moments) on holds

  came : (call : DiskCall) → before.disk.faults call < disk.faults call → given ≡ status.DiskFault
  came call more = comes call (let same = calm call in omega (arith, same, more))

  rises : LoadRose mid.faults disk.faults → LoadRose before.disk.faults disk.faults
  rises (inl more) = inl (subst (λ n. Rose n (disk.faults SavedLen)) (calm SavedLen) more)
  rises (inr more) = inr (subst (λ n. Rose n (disk.faults SavedAt)) (calm SavedAt) more)

-- ---- a run that ends early

-- a run that ends before anything is asked of the sink ends so beside each sink
pub ends-early : (before after : Inputs) (disk_stays sink_stays : Type 0) (given : Status) (workers : ℕ) (got : Option (List ℕ)) (sink_faults : ℕ)
    → EndsEarly before after disk_stays given → sink_stays
    → IsEdit workers (beside before got sink_faults) (beside after got sink_faults) disk_stays sink_stays given
ends-early before after disk_stays sink_stays given workers got sink_faults early quiet = record {
  ok = is.ok;
  swap_lost = is.swap_lost;
  swap_lost_rose = is.swap_lost_rose;
  disk_fault = λ fault. let why = is.disk_fault fault in (why.0, failed why.1);
  disk_fault_comes = is.disk_fault_comes;
  replace_fault_comes = is.replace_fault_comes;
  read_fault = λ fault. let why = is.read_fault fault in (why.0, why.1, quiet);
  read_fault_comes = is.read_fault_comes;
  bad_script = λ fault bad. let why = is.bad_script fault bad in (why.0, why.1, why.2, quiet);
  bad_script_comes = is.bad_script_comes;
  bad_script_named = is.bad_script_named;
  swap_present = λ bytes there. let why = is.swap_present bytes there in (why.0, why.1, why.2, why.3, quiet);
  swap_present_comes = is.swap_present_comes;
  refused = λ fault some refused. let why = is.refused fault some refused in (why.0, why.1, why.2, why.3, why.4, quiet);
  refused_comes = is.refused_comes;
  write_fault = is.write_fault;
  write_fault_comes = is.write_fault_comes;
  prefix = is.prefix;
  complete = is.complete;
  only = is.only;
} where
  is : IsEdit workers (beside before got sink_faults) (beside after got sink_faults) disk_stays (Unit {0}) given
  is = early workers got sink_faults

  failed : FailedBefore (beside before got sink_faults) (beside after got sink_faults) (Unit {0}) ⊎ WasWritten workers (beside before got sink_faults) (beside after got sink_faults) given
      → FailedBefore (beside before got sink_faults) (beside after got sink_faults) sink_stays ⊎ WasWritten workers (beside before got sink_faults) (beside after got sink_faults) given
  failed (inl fails) = inl (record { rose = fails.rose; files = fails.files; sink = quiet })
  failed (inr written) = inr written

-- ---- a run that edits

ok-is : (r : Result (List Command) ScriptFault) (commands : List Command) → r ≡ Ok commands → IsOk r
ok-is r commands is = subst (λ (x : Result (List Command) ScriptFault). IsOk x) (sym is) refl

pub spells-from : (left : Option (List ℕ)) (commands : List Command) → IfSome left (λ script. script_of script ≡ Ok commands) → IfSome left (λ script. IsOk (script_of script))
spells-from None commands spelled = tt
spells-from (Some script) commands spelled = ok-is (script_of script) commands spelled

-- the writer of the swap file begins beside the saved file
begins : (before mid : Option (List Moment)) (file bytes : List ℕ) (loaded : Loaded) (swap : SwapView) → AddsMoments Staying before mid
    → IfSome (swap_now before) (λ swap. swap ≡ []) → IfSome (saved_now before) (λ file. bytes ≡ file) → Loads bytes loaded → IsLoadable bytes
    → swap ≡ record { base = digest_of bytes; state = Guarded; count = 0 } → saved_now before ≡ Some file → Begins file loaded swap mid
begins None mid file bytes loaded swap files empty saved loads loadable beside is = absurd (none-some file is)
begins (Some b) None file bytes loaded swap files empty saved loads loadable beside is = absurd files
begins (Some b) (Some c) file bytes loaded swap files empty saved loads loadable beside is =
    let here : (latest b).saved ≡ file = some_same (latest b).saved file is in
    let same : bytes ≡ file = saved ∙ here in
    let still : (latest c).saved ≡ (latest b).saved = some_same (latest c).saved (latest b).saved (saved_now-stays (Some b) (Some c) files) in
    let none : (latest c).swap ≡ (latest b).swap = some_same (latest c).swap (latest b).swap (swap_now-stays (Some b) (Some c) files) in (
      subst (λ (f : List ℕ). Loads f loaded) same loads,
      subst IsLoadable same loadable,
      subst (λ (f : List ℕ). swap ≡ record { base = digest_of f; state = Guarded; count = 0 }) same beside,
      still ∙ here,
      none ∙ empty,
    )

-- how such a run leaves what is outside
abbrev at-end : Option (List ℕ) → ℕ → Outer → Option (List ℕ) → ℕ → Outside
at-end left faults disk got sink_faults = record { left = left; script_faults = faults; disk = disk; got = got; sink_faults = sink_faults }

-- the statuses of a write that failed
abbrev is_of_sink : Status → Bool
is_of_sink status.WriteFault = true
is_of_sink status.NoMemory = true
is_of_sink _ = false

sink-of : (fail : SinkFail) → is_of_sink (sink_status fail) ≡ true
sink-of sink.Failed = refl
sink-of sink.NoMemory = refl

sink-late : (fail : SinkFail) → is_late (sink_status fail) ≡ true
sink-late sink.Failed = refl
sink-late sink.NoMemory = refl

sink-replaced : (fail : SinkFail) → Contains (status.DiskFault ∷ status.WriteFault ∷ status.NoMemory ∷ []) (sink_status fail)
sink-replaced sink.Failed = (1, omega arith, refl)
sink-replaced sink.NoMemory = (2, omega arith, refl)

sink-failed : (fail : SinkFail) → sink_status fail ≡ status.WriteFault → fail ≡ sink.Failed
sink-failed sink.Failed is = refl
sink-failed sink.NoMemory is = absurd (cc)

sink-comes : (fail : SinkFail) (faults later_faults : ℕ) → (fail ≢ sink.Failed → later_faults ≡ faults) → faults < later_faults → sink_status fail ≡ status.WriteFault
sink-comes sink.Failed faults later_faults calm more = refl
sink-comes sink.NoMemory faults later_faults calm more = absurd (let same = calm (λ is. cc) in omega (arith, same, more))

module _ (workers : ℕ) (before : Outside) (left : Option (List ℕ)) (faults : ℕ) (mid : Outer) (commands : List Command) (loaded : Loaded)
    (swap : SwapView) (begun : IsBegun (inputs before.left before.script_faults before.disk.moments before.disk.faults)
    (inputs left faults mid.moments mid.faults) commands loaded swap) where
  spells : IfSome before.left (λ script. IsOk (script_of script))
  spells = spells-from before.left commands begun.spelled

  was-loadable : IfSome (saved_now before.disk.moments) IsLoadable
  was-loadable = of-file (saved_now before.disk.moments) IsLoadable begun.bytes begun.saved begun.loadable

  reads-from : (disk : Outer) → ReadsStay mid.faults disk.faults → ReadsStay before.disk.faults disk.faults
  reads-from disk reads = record {
    saved_len = reads.saved_len ∙ begun.stays SavedLen;
    saved_at = reads.saved_at ∙ begun.stays SavedAt;
    swap_len = reads.swap_len ∙ begun.stays SwapLen;
    swap_at = reads.swap_at ∙ begun.stays SwapAt;
  }

  was-loaded : (disk : Outer) → ReadsStay mid.faults disk.faults → WasLoaded before.disk disk
  was-loaded disk reads = record { reads = reads-from disk reads; empty = begun.empty; loads = was-loadable }

  -- what is printed for a script and a file that are told
  outputs : (script file : List ℕ) (ending : Status) (disk : Outer) (output : List ℕ)
      → (Begins file loaded swap mid.moments → Prints workers commands file loaded ending mid disk output)
      → before.left ≡ Some script → saved_now before.disk.moments ≡ Some file → Outputs workers script file ending before.disk disk output
  outputs script file ending disk output prints script_is file_is = record {
    commands = commands;
    spelled = if_is before.left (λ script. script_of script ≡ Ok commands) script begun.spelled script_is;
    loaded = loaded;
    loads = subst (λ (f : List ℕ). Loads f loaded) (if_is (saved_now before.disk.moments) (λ f. begun.bytes ≡ f) file begun.saved file_is) begun.loads;
    prints = Prints-from workers commands file loaded ending before.disk mid disk output begun.stays
        (prints (begins before.disk.moments mid.moments file begun.bytes loaded swap begun.files begun.empty begun.saved begun.loads begun.loadable begun.beside file_is));
  }

  -- .. so that a fact of each script and each file that are told is one of those that are
  for-told : (P : List ℕ → List ℕ → Type 0) → ((script file : List ℕ) → before.left ≡ Some script → saved_now before.disk.moments ≡ Some file → P script file)
      → IfSome before.left (λ script. IfSome (saved_now before.disk.moments) (λ file. P script file))
  for-told P all = by before.left (saved_now before.disk.moments) all where
    by : (left saved : Option (List ℕ)) → ((script file : List ℕ) → left ≡ Some script → saved ≡ Some file → P script file)
        → IfSome left (λ script. IfSome saved (λ file. P script file))
    by None saved all = tt
    by (Some script) None all = tt
    by (Some script) (Some file) all = all script file refl refl

  ends-late : (disk : Outer) (got : Option (List ℕ)) (sink_faults : ℕ) (disk_stays sink_stays : Type 0) (given : Status)
      → is_late given ≡ true → ReadsStay mid.faults disk.faults
      → ((given ≡ status.Ok) ⊎ (given ≡ status.SwapLost) ⊎ (given ≡ status.DiskFault) → WasWritten workers before (at-end left faults disk got sink_faults) given)
      → (given ≡ status.SwapLost → Rose (mid.faults Append) (disk.faults Append) ⊎ Rose (mid.faults Sync) (disk.faults Sync) ⊎ Rose (mid.faults Reset) (disk.faults Reset))
      → (mid.faults Replace < disk.faults Replace → Contains (status.DiskFault ∷ status.WriteFault ∷ status.NoMemory ∷ []) given)
      → (given ≡ status.WriteFault → Rose before.sink_faults sink_faults)
      → (before.sink_faults < sink_faults → given ≡ status.WriteFault)
      → ((given ≡ status.WriteFault) ⊎ (given ≡ status.NoMemory) → IfSome before.left (λ script. IfSome (saved_now before.disk.moments) (λ file.
      (got ≡ before.got) ⊎ WritesPrefix workers script file before.disk disk before.got got)))
      → IsEdit workers before (at-end left faults disk got sink_faults) disk_stays sink_stays given
  ends-late disk got sink_faults disk_stays sink_stays given only reads written rose replaced failed comes prefix = record {
    ok = λ is. written (inl is);
    swap_lost = λ is. written (inr (inl is));
    swap_lost_rose = λ is. rises (rose is);
    disk_fault = λ is. (read, inr (written (inr (inr is))));
    disk_fault_comes = λ call one more. absurd (no-read call one more);
    replace_fault_comes = λ more. replaced (let same = begun.stays Replace in omega (arith, same, more));
    read_fault = λ is. absurd (never status.ReadFault refl is);
    read_fault_comes = λ more. absurd (let calm = begun.calm in omega (arith, calm, more));
    bad_script = λ fault is. absurd (never (status.BadScript fault) refl is);
    bad_script_comes = λ fault bad. absurd (bad-spells before.left fault spells bad);
    bad_script_named = λ is. never (status.BadScript script_fault.NoMemory) refl is;
    swap_present = λ bytes is. absurd (never (status.SwapPresent bytes) refl is);
    swap_present_comes = λ swap spells there some. absurd (swap_both (swap_now before.disk.moments) swap begun.empty there some);
    refused = λ fault some is. absurd (never (file_status fault) (file-not is_late refl (λ at. refl) (λ size. refl) fault some) is);
    refused_comes = λ fault spells none refuses. absurd (refused-loadable (saved_now before.disk.moments) fault was-loadable refuses);
    write_fault = λ is. (read, was-loaded disk reads, failed is);
    write_fault_comes = comes;
    prefix = prefix;
    complete = λ spells none loadable. complete-late given only;
    only = edit-of-late given only;
  } where
    never : (other : Status) → is_late other ≡ false → given ≡ other → ⊥
    never other is_not is = not-of is_late given other only is_not is

    read : WasRead before (at-end left faults disk got sink_faults)
    read = record { whole = begun.whole; calm = begun.calm; spells = spells }

    stays : ReadsStay before.disk.faults disk.faults
    stays = reads-from disk reads

    -- none of these calls has counted a fault
    no-read : (call : DiskCall) → Contains (SwapLen ∷ SavedLen ∷ SavedAt ∷ []) call → before.disk.faults call < disk.faults call → ⊥
    no-read call one more =
        let same : disk.faults call ≡ before.disk.faults call =
        All-contains (λ c. disk.faults c ≡ before.disk.faults c) (SwapLen ∷ SavedLen ∷ SavedAt ∷ []) call
        (All-cons (λ c. disk.faults c ≡ before.disk.faults c) SwapLen (SavedLen ∷ SavedAt ∷ []) stays.swap_len
        (All-cons (λ c. disk.faults c ≡ before.disk.faults c) SavedLen (SavedAt ∷ []) stays.saved_len
        (All-cons (λ c. disk.faults c ≡ before.disk.faults c) SavedAt [] stays.saved_at
        (All-nil (λ c. disk.faults c ≡ before.disk.faults c))))) one in
        omega (arith, same, more)

    at-first : (call : DiskCall) → Rose (mid.faults call) (disk.faults call) → Rose (before.disk.faults call) (disk.faults call)
    at-first call more = subst (λ n. Rose n (disk.faults call)) (begun.stays call) more

    rises : Rose (mid.faults Append) (disk.faults Append) ⊎ Rose (mid.faults Sync) (disk.faults Sync) ⊎ Rose (mid.faults Reset) (disk.faults Reset)
        → Rose (before.disk.faults Append) (disk.faults Append) ⊎ Rose (before.disk.faults Sync) (disk.faults Sync) ⊎ Rose (before.disk.faults Reset) (disk.faults Reset)
    rises (inl more) = inl (at-first Append more)
    rises (inr (inl more)) = inr (inl (at-first Sync more))
    rises (inr (inr more)) = inr (inr (at-first Reset more))

  -- memory ran out before anything was written
  pub ends-in-edit : (disk : Outer) (disk_stays sink_stays : Type 0) → ReadsStay mid.faults disk.faults
      → IsEdit workers before (at-end left faults disk before.got before.sink_faults) disk_stays sink_stays status.NoMemory
  ends-in-edit disk disk_stays sink_stays reads =
      ends-late disk before.got before.sink_faults disk_stays sink_stays status.NoMemory refl reads
      (λ which. absurd (neither which))
      (λ is. absurd (cc is))
      (λ more. (2, omega arith, refl))
      (λ is. absurd (cc is))
      (λ more. absurd (omega (arith, more)))
      (λ which. unwritten before.left (saved_now before.disk.moments) (before.got ≡ before.got) (λ script file. WritesPrefix workers script file before.disk disk before.got before.got) refl)
    where
      neither : (status.NoMemory ≡ status.Ok) ⊎ (status.NoMemory ≡ status.SwapLost) ⊎ (status.NoMemory ≡ status.DiskFault) → ⊥
      neither (inl is) = cc
      neither (inr (inl is)) = cc
      neither (inr (inr is)) = cc

  -- all was written
  pub ends-written : (disk : Outer) (got : Option (List ℕ)) (sink_faults : ℕ) (disk_stays sink_stays : Type 0) (ending : Status) (output : List ℕ)
      → ((file : List ℕ) → Begins file loaded swap mid.moments → Prints workers commands file loaded ending mid disk output)
      → Ended ending mid.faults disk.faults → ReadsStay mid.faults disk.faults → Appends before.got got output → sink_faults ≡ before.sink_faults
      → IsEdit workers before (at-end left faults disk got sink_faults) disk_stays sink_stays ending
  ends-written disk got sink_faults disk_stays sink_stays ending output prints ended reads gains calm =
      ends-late disk got sink_faults disk_stays sink_stays ending (late-from ending mid.faults disk.faults ended) reads
      (λ which. (
        record { whole = begun.whole; calm = begun.calm; spells = spells },
        was-loaded disk reads,
        calm,
        for-told (λ script file. Writes workers script file ending before.disk disk before.got got)
            (λ script file script_is file_is. record { output = output; outputs = outputs script file ending disk output (prints file) script_is file_is; gains = gains }),
      ))
      (λ is. lost ending is ended)
      (λ more. (0, omega arith, sym (late-replaced ending mid.faults disk.faults ended more)))
      (λ is. absurd (late-wrote ending mid.faults disk.faults ended (inl is)))
      (λ more. absurd (omega (arith, calm, more)))
      (λ which. absurd (late-wrote ending mid.faults disk.faults ended which))
    where
      lost : (given : Status) → given ≡ status.SwapLost → Ended given mid.faults disk.faults
          → Rose (mid.faults Append) (disk.faults Append) ⊎ Rose (mid.faults Sync) (disk.faults Sync) ⊎ Rose (mid.faults Reset) (disk.faults Reset)
      lost given is ended = (subst (λ (s : Status). Ended s mid.faults disk.faults) is ended).1

  -- the write failed
  pub ends-unwritten : (disk : Outer) (got : Option (List ℕ)) (sink_faults : ℕ) (disk_stays sink_stays : Type 0) (given ending : Status) (output : List ℕ) (fail : SinkFail)
      → given ≡ sink_status fail
      → ((file : List ℕ) → Begins file loaded swap mid.moments → Prints workers commands file loaded ending mid disk output)
      → ReadsStay mid.faults disk.faults → AppendsPrefix before.got got output
      → (fail ≡ sink.Failed → Rose before.sink_faults sink_faults) → (fail ≢ sink.Failed → sink_faults ≡ before.sink_faults)
      → IsEdit workers before (at-end left faults disk got sink_faults) disk_stays sink_stays given
  ends-unwritten disk got sink_faults disk_stays sink_stays given ending output fail is prints reads gains rose calm =
      ends-late disk got sink_faults disk_stays sink_stays given (ap is_late is ∙ sink-late fail) reads
      (λ which. absurd (neither which))
      (λ lost. absurd (never status.SwapLost refl lost))
      (λ more. subst (Contains (status.DiskFault ∷ status.WriteFault ∷ status.NoMemory ∷ [])) (sym is) (sink-replaced fail))
      (λ failed. rose (sink-failed fail (sym is ∙ failed)))
      (λ more. is ∙ sink-comes fail before.sink_faults sink_faults calm more)
      (λ which. for-told (λ script file. (got ≡ before.got) ⊎ WritesPrefix workers script file before.disk disk before.got got)
      (λ script file script_is file_is. inr (record {
        output = output;
        ending = ending;
        outputs = outputs script file ending disk output (prints file) script_is file_is;
        gains = gains;
      })))
    where
      never : (other : Status) → is_of_sink other ≡ false → given ≡ other → ⊥
      never other is_not same = not-of is_of_sink given other (ap is_of_sink is ∙ sink-of fail) is_not same

      neither : (given ≡ status.Ok) ⊎ (given ≡ status.SwapLost) ⊎ (given ≡ status.DiskFault) → ⊥
      neither (inl same) = never status.Ok refl same
      neither (inr (inl same)) = never status.SwapLost refl same
      neither (inr (inr same)) = never status.DiskFault refl same

  -- the output was written, or only its first bytes
  pub ends-in-writing : (disk : Outer) (got : Option (List ℕ)) (sink_faults : ℕ) (disk_stays sink_stays : Type 0) (given ending : Status) (output : List ℕ)
      → IsEdited workers commands loaded swap mid disk ending output → ReadsStay mid.faults disk.faults
      → IsWritten output ending given before.got got before.sink_faults sink_faults
      → IsEdit workers before (at-end left faults disk got sink_faults) disk_stays sink_stays given
  ends-in-writing disk got sink_faults disk_stays sink_stays given ending output edited reads (inl whole) =
      subst (λ (s : Status). IsEdit workers before (at-end left faults disk got sink_faults) disk_stays sink_stays s) (sym whole.0)
      (ends-written disk got sink_faults disk_stays sink_stays ending output edited.prints edited.ended reads whole.1 whole.2)
  ends-in-writing disk got sink_faults disk_stays sink_stays given ending output edited reads (inr cut) =
      ends-unwritten disk got sink_faults disk_stays sink_stays given ending output cut.fail cut.is edited.prints reads cut.gains cut.rose cut.calm
