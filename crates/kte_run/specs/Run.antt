-- What an edit prints, and what its statuses say. This project's own rules.
use Rattle.std.specs.Prelude.{true, false, ◌≡◌, ◌≢◌, ◌⊎◌, ◌<◌, ℕ, List, [], ◌∷◌, ◌++◌, length, Option, Some, Ok, Err, IsOk, IfSome, IsSomeAnd, Contains}
use Rattle.std.specs.Io.KnownBytes.{Appends, IsAtEnd}
use Rattle.kte_causes.specs.Faults.{Rose, last_count}
use Rattle.kte_causes.specs.Contents.{AppendsPrefix}
use Rattle.kte_causes.specs.DiskFaults.{AllStay}
use Rattle.kte_causes.specs.Moments.{Moment, AddsMoments, Staying, saved_now, swap_now}
use Rattle.kte_causes.specs.declared.causes.DiskCall.{DiskCall}
use Rattle.kte_causes.specs.declared.causes.DiskCall.TheVariants.{SavedLen, SavedAt, SwapLen, Append, Sync, Replace, Reset}
use Rattle.kte_text.specs.Files.{Loads, Refuses}
use Rattle.kte_text.specs.declared.loading.Loaded.{Loaded}
use Rattle.kte_text.specs.declared.loading.LoadFault.{LoadFault}
use Rattle.kte_text.specs.declared.loading.LoadFault.TheVariants as load_fault
use Rattle.kte_command.specs.declared.command.Command.{Command}
use Rattle.kte_script.specs.Script.{script_of}
use Rattle.kte_script.specs.declared.fault.ScriptFault.{ScriptFault}
use Rattle.kte_script.specs.declared.fault.ScriptFault.TheVariants as script_fault
use Rattle.kte_core.specs.State.{State}
use Rattle.kte_core.specs.Replay.{beginning, replay}
use Rattle.kte_core.specs.declared.event.Event.{Event}
use Rattle.kte_report.specs.Journal.{journal_text}
use Rattle.kte_report.specs.Report.{report}
use Rattle.kte_run.specs.declared.TheConstants.{MAX_REVISIONS}
use Rattle.kte_run.specs.declared.status.Status.{Status}
use Rattle.kte_run.specs.declared.status.Status.TheVariants as status
use Rattle.kte_run.specs.Statuses.{file_status, is_of_edit}
use Rattle.kte_desk.specs.Schedule.{NoneFailed, Schedule}
use Rattle.kte_run.specs.Outcomes.{Counted, IsEnding, Keeps, ReadsStay, failed_appends, failed_calls}

-- the state at first
abbrev pub start_of : Loaded → State
start_of loaded = beginning loaded MAX_REVISIONS

-- what the disk has counted and holds
pub record Outer : Type 0 where
  pub faults : DiskCall → ℕ
  pub moments : Option (List Moment)

-- .. each given by itself
abbrev pub outer : Option (List Moment) → (DiskCall → ℕ) → Outer
outer moments faults = record { faults = faults; moments = moments }

-- What is printed for some commands after loading a file, by these events: they are the history of
-- a run with so many checkers beside the editor, and the output is their journal and the report of
-- the state after them
pub record PrintsEvents (workers : ℕ) (commands : List Command) (loaded : Loaded)
    (events : List Event) (output : List ℕ) : Type 0 where
  pub schedule : Schedule commands workers (start_of loaded) events
  pub printed : output ≡ journal_text events ++ report (replay (start_of loaded) events)

-- There is such a history, and it tells what came of each call of the disk: as many have failed as
-- the counts rose by, at the most; the run ends so; and while the swap is not lost, the disk has
-- all that was typed
pub record Prints (workers : ℕ) (commands : List Command) (file : List ℕ) (loaded : Loaded)
    (ending : Status) (before after : Outer) (output : List ℕ) : Type 0 where
  pub events : List Event
  pub prints : PrintsEvents workers commands loaded events output
  pub counted : Counted (failed_appends events) (failed_calls false events) before.faults after.faults
  pub ends : IsEnding ending events before.faults after.faults
  pub keeps : Keeps file (start_of loaded) events after.moments

-- a file that is not refused
abbrev pub IsLoadable : List ℕ → Type 0
IsLoadable file = (fault : LoadFault) → ¬ (Refuses file fault)

-- What is printed for a script and a file: the script spells commands, the file is loaded, and the
-- output is printed for them
pub record Outputs (workers : ℕ) (script file : List ℕ) (ending : Status) (before after : Outer)
    (output : List ℕ) : Type 0 where
  pub commands : List Command
  pub spelled : script_of script ≡ Ok commands
  pub loaded : Loaded
  pub loads : Loads file loaded
  pub prints : Prints workers commands file loaded ending before after output

-- .. by a history with no checkers, in which no call outside failed
pub record OutputsWell (script file output : List ℕ) : Type 0 where
  pub commands : List Command
  pub spelled : script_of script ≡ Ok commands
  pub loaded : Loaded
  pub loads : Loads file loaded
  pub events : List Event
  pub prints : PrintsEvents 0 commands loaded events output
  pub well : NoneFailed events

-- a count did not rise, and has not reached its last value, from which none rises
abbrev pub DidNotRise : ℕ → ℕ → Type 0
DidNotRise before after = (after ≡ before) × (after < last_count)

-- no append, sync, replacement or reset failed
pub record CallsStay (before after : DiskCall → ℕ) : Type 0 where
  pub append : DidNotRise (before Append) (after Append)
  pub sync : DidNotRise (before Sync) (after Sync)
  pub replace : DidNotRise (before Replace) (after Replace)
  pub reset : DidNotRise (before Reset) (after Reset)

-- what was written is the output for this script and this file, and the run ended so
pub record Writes (workers : ℕ) (script file : List ℕ) (ending : Status) (before after : Outer)
    (got now : Option (List ℕ)) : Type 0 where
  pub output : List ℕ
  pub outputs : Outputs workers script file ending before after output
  pub gains : Appends got now output

-- what was written is the first bytes of that output, however the run ended
pub record WritesPrefix (workers : ℕ) (script file : List ℕ) (before after : Outer)
    (got now : Option (List ℕ)) : Type 0 where
  pub output : List ℕ
  pub ending : Status
  pub outputs : Outputs workers script file ending before after output
  pub gains : AppendsPrefix got now output

-- the script was read to its end without a fault, and spells commands
pub record ReadsScript (before after : Option (List ℕ)) (faults later_faults : ℕ) : Type 0 where
  pub whole : IsAtEnd after
  pub calm : later_faults ≡ faults
  pub spells : IfSome before (λ bytes. IsOk (script_of bytes))

-- What a script, a disk and a sink tell, and how many faults they have counted
pub record Outside : Type 0 where
  -- the bytes that the script has left
  pub left : Option (List ℕ)
  pub script_faults : ℕ
  pub disk : Outer
  -- the bytes that the sink has got
  pub got : Option (List ℕ)
  pub sink_faults : ℕ

-- .. each given by itself
abbrev pub outside : Option (List ℕ) → ℕ → Option (List Moment) → (DiskCall → ℕ) → Option (List ℕ) → ℕ → Outside
outside left script_faults moments disk_faults got sink_faults = record {
  left = left;
  script_faults = script_faults;
  disk = outer moments disk_faults;
  got = got;
  sink_faults = sink_faults;
}

-- the script was read to its end, and spells commands
abbrev pub WasRead : Outside → Outside → Type 0
WasRead before after =
    ReadsScript before.left after.left before.script_faults after.script_faults

-- the files on the disk are as before at each moment
abbrev pub FilesStay : Outer → Outer → Type 0
FilesStay before after = AddsMoments Staying before.moments after.moments

-- the swap file was empty, and the saved file was read without a fault, and is not refused
pub record WasLoaded (before after : Outer) : Type 0 where
  pub reads : ReadsStay before.faults after.faults
  pub empty : IfSome (swap_now before.moments) (λ swap. swap ≡ [])
  pub loads : IfSome (saved_now before.moments) IsLoadable

-- the disk has counted a fault of a length or of a read of the saved file
abbrev pub LoadRose : (DiskCall → ℕ) → (DiskCall → ℕ) → Type 0
LoadRose before after = Rose (before SavedLen) (after SavedLen)
    ⊎ Rose (before SavedAt) (after SavedAt)

-- .. or of the length of the swap file
abbrev pub DiskRose : (DiskCall → ℕ) → (DiskCall → ℕ) → Type 0
DiskRose before after = Rose (before SwapLen) (after SwapLen) ⊎ LoadRose before after

-- what was written is the whole output, where script and file are told, and the run ended so
abbrev pub WasWritten : ℕ → Outside → Outside → Status → Type 0
WasWritten workers before after ending =
    WasRead before after × WasLoaded before.disk after.disk
    × (after.sink_faults ≡ before.sink_faults)
    × IfSome before.left (λ script. IfSome (saved_now before.disk.moments) (λ file.
    Writes workers script file ending before.disk after.disk before.got after.got))

-- the disk failed before anything was written, and its files are as before
pub record FailedBefore (before after : Outside) (sink_stays : Type 0) : Type 0 where
  pub rose : DiskRose before.disk.faults after.disk.faults
  pub files : FilesStay before.disk after.disk
  pub sink : sink_stays

-- What an edit does, with so many checkers beside the editor. That the disk and the sink stay says
-- that nothing was asked of them
pub record IsEdit (workers : ℕ) (before after : Outside) (disk_stays sink_stays : Type 0)
    (given : Status) : Type 0 where
  -- the whole output was written
  pub ok : given ≡ status.Ok → WasWritten workers before after given
  pub swap_lost : given ≡ status.SwapLost → WasWritten workers before after given
  pub swap_lost_rose : given ≡ status.SwapLost
      → Rose (before.disk.faults Append) (after.disk.faults Append)
      ⊎ Rose (before.disk.faults Sync) (after.disk.faults Sync)
      ⊎ Rose (before.disk.faults Reset) (after.disk.faults Reset)
  pub disk_fault : given ≡ status.DiskFault → WasRead before after
      × (FailedBefore before after sink_stays ⊎ WasWritten workers before after given)
  pub disk_fault_comes : (call : DiskCall) → Contains (SwapLen ∷ SavedLen ∷ SavedAt ∷ []) call
      → before.disk.faults call < after.disk.faults call → given ≡ status.DiskFault
  pub replace_fault_comes : before.disk.faults Replace < after.disk.faults Replace
      → Contains (status.DiskFault ∷ status.WriteFault ∷ status.NoMemory ∷ []) given
  -- the script
  pub read_fault : given ≡ status.ReadFault
      → Rose before.script_faults after.script_faults × disk_stays × sink_stays
  pub read_fault_comes : before.script_faults < after.script_faults → given ≡ status.ReadFault
  pub bad_script : (fault : ScriptFault) → given ≡ status.BadScript fault
      → (after.script_faults ≡ before.script_faults)
      × IfSome before.left (λ bytes. script_of bytes ≡ Err fault) × disk_stays × sink_stays
  pub bad_script_comes : (fault : ScriptFault)
      → IsSomeAnd before.left (λ bytes. script_of bytes ≡ Err fault)
      → Contains (status.BadScript fault ∷ status.ReadFault ∷ status.NoMemory ∷ []) given
  pub bad_script_named : given ≢ status.BadScript script_fault.NoMemory
  -- the swap file
  pub swap_present : (bytes : ℕ) → given ≡ status.SwapPresent bytes
      → WasRead before after × AllStay before.disk.faults after.disk.faults
      × IfSome (swap_now before.disk.moments) (λ swap. (bytes ≡ length swap) × (swap ≢ []))
      × FilesStay before.disk after.disk × sink_stays
  pub swap_present_comes : (swap : List ℕ)
      → IsSomeAnd before.left (λ bytes. IsOk (script_of bytes))
      → swap_now before.disk.moments ≡ Some swap → swap ≢ []
      → Contains (status.SwapPresent (length swap) ∷ status.DiskFault ∷ status.ReadFault ∷ status.NoMemory ∷ [])
      given
  -- the saved file
  pub refused : (fault : LoadFault) → fault ≢ load_fault.NoMemory → given ≡ file_status fault
      → WasRead before after × AllStay before.disk.faults after.disk.faults
      × IfSome (swap_now before.disk.moments) (λ swap. swap ≡ [])
      × IfSome (saved_now before.disk.moments) (λ file. Refuses file fault)
      × FilesStay before.disk after.disk × sink_stays
  pub refused_comes : (fault : LoadFault)
      → IsSomeAnd before.left (λ bytes. IsOk (script_of bytes))
      → IsSomeAnd (swap_now before.disk.moments) (λ swap. swap ≡ [])
      → IsSomeAnd (saved_now before.disk.moments) (λ file. Refuses file fault)
      → Contains (file_status fault ∷ status.DiskFault ∷ status.ReadFault ∷ status.NoMemory ∷ []) given
  -- the output
  pub write_fault : given ≡ status.WriteFault
      → WasRead before after × WasLoaded before.disk after.disk
      × Rose before.sink_faults after.sink_faults
  pub write_fault_comes : before.sink_faults < after.sink_faults → given ≡ status.WriteFault
  pub prefix : (given ≡ status.WriteFault) ⊎ (given ≡ status.NoMemory)
      → IfSome before.left (λ script. IfSome (saved_now before.disk.moments) (λ file.
      (after.got ≡ before.got)
      ⊎ WritesPrefix workers script file before.disk after.disk before.got after.got))
  -- with a script and a file of their forms and no swap file, only a fault or a lack of memory
  -- prevents status 0
  pub complete : IsSomeAnd before.left (λ bytes. IsOk (script_of bytes))
      → IsSomeAnd (swap_now before.disk.moments) (λ swap. swap ≡ [])
      → IsSomeAnd (saved_now before.disk.moments) IsLoadable
      → Contains (status.Ok ∷ status.ReadFault ∷ status.DiskFault ∷ status.SwapLost ∷ status.WriteFault ∷ status.NoMemory ∷ [])
      given
  -- no other status comes
  pub only : is_of_edit given ≡ true
