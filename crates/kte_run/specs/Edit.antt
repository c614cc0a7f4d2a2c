-- The steps of an edit: how it begins, what it makes, and how its output is written. This project's
-- own rules.
use Rattle.std.specs.Prelude.{◌≡◌, ◌≢◌, ◌⊎◌, ℕ, List, [], Option, Ok, IfSome}
use Rattle.std.specs.Io.KnownBytes.{Appends, IsAtEnd}
use Rattle.kte_causes.specs.Contents.{AppendsPrefix}
use Rattle.kte_causes.specs.DiskFaults.{AllStay}
use Rattle.kte_causes.specs.Faults.{Rose}
use Rattle.kte_causes.specs.Moments.{Moment, saved_now, swap_now}
use Rattle.kte_causes.specs.declared.causes.DiskCall.{DiskCall}
use Rattle.kte_causes.specs.declared.causes.SinkFail.{SinkFail}
use Rattle.kte_causes.specs.declared.causes.SinkFail.TheVariants as sink
use Rattle.kte_text.specs.Digests.{digest_of}
use Rattle.kte_text.specs.Files.{Loads}
use Rattle.kte_text.specs.declared.loading.Loaded.{Loaded}
use Rattle.kte_swap.specs.Swap.{SwapView}
use Rattle.kte_swap.specs.declared.causes.SwapState.TheVariants.{Guarded}
use Rattle.kte_command.specs.declared.command.Command.{Command}
use Rattle.kte_script.specs.Script.{script_of}
use Rattle.kte_run.specs.declared.status.Status.{Status}
use Rattle.kte_run.specs.Outcomes.{Begins, Ended}
use Rattle.kte_run.specs.Run.{FilesStay, IsEdit, IsLoadable, Outer, Outside, Prints, outer}
use Rattle.kte_run.specs.Statuses.{sink_status}

-- ---- how it begins

-- What a script and a disk tell, and how many faults they have counted
pub record Inputs : Type 0 where
  -- the bytes that the script has left
  pub left : Option (List ℕ)
  pub script_faults : ℕ
  pub disk : Outer

-- .. each given by itself
abbrev pub inputs : Option (List ℕ) → ℕ → Option (List Moment) → (DiskCall → ℕ) → Inputs
inputs left script_faults moments disk_faults = record {
  left = left;
  script_faults = script_faults;
  disk = outer moments disk_faults;
}

-- .. beside a sink that has got these bytes, and counted so many faults
abbrev pub beside : Inputs → Option (List ℕ) → ℕ → Outside
beside given got sink_faults = record {
  left = given.left;
  script_faults = given.script_faults;
  disk = given.disk;
  got = got;
  sink_faults = sink_faults;
}

-- An edit begins so: the script was read to its end and spells these commands, there is no swap
-- file, and the saved file was loaded, beside which the writer of the swap file lies
pub record IsBegun (before after : Inputs) (commands : List Command) (loaded : Loaded)
    (swap : SwapView) : Type 0 where
  pub whole : IsAtEnd after.left
  pub calm : after.script_faults ≡ before.script_faults
  pub spelled : IfSome before.left (λ script. script_of script ≡ Ok commands)
  pub stays : AllStay before.disk.faults after.disk.faults
  pub files : FilesStay before.disk after.disk
  pub empty : IfSome (swap_now before.disk.moments) (λ swap. swap ≡ [])
  -- the bytes of the saved file
  pub bytes : List ℕ
  pub saved : IfSome (saved_now before.disk.moments) (λ file. bytes ≡ file)
  pub loads : Loads bytes loaded
  pub loadable : IsLoadable bytes
  pub beside : swap ≡ record { base = digest_of bytes; state = Guarded; count = 0 }

-- it ends so before anything is asked of the sink, whoever does the jobs
abbrev pub EndsEarly : Inputs → Inputs → Type 0 → Status → Type 0
EndsEarly before after disk_stays given =
    (workers : ℕ) (got : Option (List ℕ)) (sink_faults : ℕ)
    → IsEdit workers (beside before got sink_faults) (beside after got sink_faults)
    disk_stays (Unit {0}) given

-- ---- what it makes

-- The commands were carried out after loading, with so many checkers: this is the output, and the
-- run ends so once it is written
pub record IsEdited (workers : ℕ) (commands : List Command) (loaded : Loaded) (swap : SwapView)
    (before after : Outer) (ending : Status) (output : List ℕ) : Type 0 where
  pub prints : (file : List ℕ) → Begins file loaded swap before.moments
      → Prints workers commands file loaded ending before after output
  pub ended : Ended ending before.faults after.faults

-- ---- how its output is written

-- only the first bytes of an output were written, since the sink failed or memory ran out
pub record IsCut (output : List ℕ) (given : Status) (got now : Option (List ℕ))
    (faults later : ℕ) : Type 0 where
  pub fail : SinkFail
  pub is : given ≡ sink_status fail
  pub gains : AppendsPrefix got now output
  pub rose : fail ≡ sink.Failed → Rose faults later
  pub calm : fail ≢ sink.Failed → later ≡ faults

-- an output was written, after which the run ends so, or it was cut
abbrev pub IsWritten : List ℕ → Status → Status → Option (List ℕ) → Option (List ℕ) → ℕ → ℕ → Type 0
IsWritten output ending given got now faults later =
    ((given ≡ ending) × Appends got now output × (later ≡ faults))
    ⊎ IsCut output given got now faults later
