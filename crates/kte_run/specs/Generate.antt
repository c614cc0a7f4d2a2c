-- What is printed for a generated script. This project's own rules.
use Rattle.std.specs.Prelude.{◌≡◌, ◌⊎◌, ◌<◌, ℕ, List, [], ◌∷◌, length, Option, Ok, Contains}
use Rattle.std.specs.Io.KnownBytes.{Appends}
use Rattle.kte_causes.specs.Faults.{Rose}
use Rattle.kte_causes.specs.Contents.{AppendsPrefix}
use Rattle.kte_text.specs.Digests.{digest_of}
use Rattle.kte_text.specs.Files.{Loads}
use Rattle.kte_text.specs.declared.loading.Loaded.{Loaded}
use Rattle.kte_record.specs.Recovery.{Answer, Answers, damaged, torn, clean}
use Rattle.kte_record.specs.Transactions.{written}
use Rattle.kte_command.specs.declared.command.Command.{Command}
use Rattle.kte_script.specs.Script.{script_of}
use Rattle.kte_gen.specs.Commands as generator
use Rattle.kte_core.specs.Replay.{replay}
use Rattle.kte_core.specs.declared.event.Event.{Event}
use Rattle.kte_report.specs.Report.{summary}
use Rattle.kte_run.specs.declared.status.Status.{Status}
use Rattle.kte_run.specs.declared.status.Status.TheVariants as status
use Rattle.kte_run.specs.Outcomes.{file_after, unsaved_after}
use Rattle.kte_run.specs.Run.{start_of}
use Rattle.kte_desk.specs.Schedule.{NoneFailed, Schedule}

-- how many transactions count in an answer
abbrev pub done_of : Answer → ℕ
done_of (clean done text) = done
done_of (torn done text) = done
done_of (damaged at done text) = done
done_of _ = 0

-- the saved file and the swap file after some events, from a file on, answer so
abbrev pub LeavesAnswer : List ℕ → Loaded → List Event → Answer → Type 0
LeavesAnswer file loaded events answer =
    Answers (file_after (start_of loaded) events file)
    (written (digest_of (file_after (start_of loaded) events file))
    (unsaved_after (start_of loaded) events [])) answer

-- What is printed for a number and a count: the script that they generate spells so many commands,
-- there is a history of a run of them from an empty file, with no workers beside the editor, in
-- which no call outside failed, and the output is its summary, with the transactions that recovering
-- its files finds
pub record Summarises (number count : ℕ) (output : List ℕ) : Type 0 where
  pub commands : List Command
  pub spelled : script_of (generator.script_of number count) ≡ Ok commands
  pub counted : length commands ≡ count
  pub loaded : Loaded
  pub loads : Loads [] loaded
  pub events : List Event
  pub schedule : Schedule commands 0 (start_of loaded) events
  pub well : NoneFailed events
  pub answer : Answer
  pub leaves : LeavesAnswer [] loaded events answer
  pub printed : output
      ≡ summary count (length events) (replay (start_of loaded) events) (done_of answer)

-- what was written is that summary, or its first bytes
pub record WritesSummary (number count : ℕ) (got now : Option (List ℕ)) : Type 0 where
  pub output : List ℕ
  pub summarises : Summarises number count output
  pub gains : Appends got now output

pub record WritesSummaryPrefix (number count : ℕ) (got now : Option (List ℕ)) : Type 0 where
  pub output : List ℕ
  pub summarises : Summarises number count output
  pub gains : AppendsPrefix got now output

-- What a generation does, from what the sink got and the faults that it counted
pub record IsGeneration (number count : ℕ) (got now : Option (List ℕ)) (faults later : ℕ)
    (given : Status) : Type 0 where
  pub ok : given ≡ status.Ok → (later ≡ faults) × WritesSummary number count got now
  pub write_fault : given ≡ status.WriteFault → Rose faults later
  pub write_fault_comes : faults < later → given ≡ status.WriteFault
  pub prefix : (given ≡ status.WriteFault) ⊎ (given ≡ status.NoMemory)
      → (now ≡ got) ⊎ WritesSummaryPrefix number count got now
  -- no other status comes
  pub only : Contains (status.Ok ∷ status.NoMemory ∷ status.WriteFault ∷ []) given
