-- What a recovery prints, and what its statuses say. This project's own rules; the swap file is that
-- of Kate.
use Rattle.std.specs.Prelude.{true, false, ◌≡◌, ◌≢◌, ◌⊎◌, ◌<◌, ℕ, Bool, List, [], ◌∷◌, Option, Some, None, IfSome, Contains}
use Rattle.std.specs.Io.KnownBytes.{Appends}
use Rattle.kte_causes.specs.Faults.{Rose}
use Rattle.kte_causes.specs.Contents.{AppendsPrefix}
use Rattle.kte_causes.specs.DiskFaults.{AllStay}
use Rattle.kte_causes.specs.Moments.{Moment, saved_now, swap_now}
use Rattle.kte_causes.specs.declared.causes.DiskCall.{DiskCall}
use Rattle.kte_causes.specs.declared.causes.DiskCall.TheVariants.{SwapAt}
use Rattle.kte_text.specs.Files.{Loads}
use Rattle.kte_text.specs.declared.digests.Digest.{Digest}
use Rattle.kte_text.specs.declared.loading.Loaded.{Loaded}
use Rattle.kte_text.specs.declared.loading.LoadFault.{LoadFault}
use Rattle.kte_text.specs.declared.loading.LoadFault.TheVariants as load_fault
use Rattle.kte_record.specs.Recovery.{Answer, Answers, no_swap, refused, version, changed, damaged, torn, clean}
use Rattle.kte_recover.specs.declared.answer.Tail.TheVariants as tail
use Rattle.kte_report.specs.Recovery.{recovered_text, damaged_text}
use Rattle.kte_run.specs.declared.status.Status.{Status}
use Rattle.kte_run.specs.declared.status.Status.TheVariants as status
use Rattle.kte_run.specs.Run.{Outer, DiskRose, FilesStay}
use Rattle.kte_run.specs.Statuses.{file_status, is_of_recovery}

-- The text that is printed for an answer, where it has one: how many transactions count, how the
-- records end, and the recovered text, with the line end and the mark of the saved file
abbrev pub text_for : Answer → Loaded → Option (List ℕ)
text_for (clean done text) loaded = Some (recovered_text (record {
  text = text;
  eol = loaded.eol;
  bom = loaded.bom;
  done = done;
  tail = tail.Clean;
}))
text_for (torn done text) loaded = Some (recovered_text (record {
  text = text;
  eol = loaded.eol;
  bom = loaded.bom;
  done = done;
  tail = tail.Torn;
}))
text_for (damaged at done text) loaded = Some (damaged_text (record {
  at = at;
  done = done;
  text = text;
  eol = loaded.eol;
  bom = loaded.bom;
}))
text_for _ loaded = None

-- two digests are told
pub record TellsDigests (kept found : List ℕ) (given : Status) : Type 0 where
  pub kept_digest : Digest
  pub found_digest : Digest
  pub told : given ≡ status.FileChanged kept_digest found_digest
  pub kept_is : kept_digest.0 ≡ kept
  pub found_is : found_digest.0 ≡ found

-- the status tells an answer
abbrev pub TellsAnswer : Answer → Status → Type 0
TellsAnswer no_swap given = given ≡ status.NoSwap
TellsAnswer (refused fault) given = (fault ≢ load_fault.NoMemory) × (given ≡ file_status fault)
TellsAnswer version given = given ≡ status.Version
TellsAnswer (changed kept found) given = TellsDigests kept found given
TellsAnswer (damaged at done text) given = given ≡ status.Damaged at done
TellsAnswer (torn done text) given = given ≡ status.Ok
TellsAnswer (clean done text) given = given ≡ status.Ok

-- the statuses that tell an answer, and those of them whose answer has a text
abbrev pub is_answer : Status → Bool
is_answer status.NoSwap = true
is_answer (status.NotUtf8 at) = true
is_answer (status.TooLarge size) = true
is_answer status.Version = true
is_answer (status.FileChanged kept found) = true
is_answer (status.Damaged at done) = true
is_answer status.Ok = true
is_answer _ = false

abbrev pub has_text : Status → Bool
has_text (status.Damaged at done) = true
has_text status.Ok = true
has_text _ = false

-- the two files recover to an answer that the status tells
pub record Tells (saved swap : List ℕ) (given : Status) : Type 0 where
  pub answer : Answer
  pub answers : Answers saved swap answer
  pub told : TellsAnswer answer given

-- .. and this is the text that is printed for it
pub record Shows (saved swap : List ℕ) (given : Status) (output : List ℕ) : Type 0 where
  pub tells : Tells saved swap given
  pub loaded : Loaded
  pub loads : Loads saved loaded
  pub printed : text_for tells.answer loaded ≡ Some output

-- what was written is that text, or its first bytes
pub record WritesRecovery (given : Status) (got now : Option (List ℕ)) (saved swap : List ℕ) : Type 0 where
  pub output : List ℕ
  pub shows : Shows saved swap given output
  pub gains : Appends got now output

pub record WritesRecoveryPrefix (got now : Option (List ℕ)) (saved swap : List ℕ) : Type 0 where
  pub output : List ℕ
  pub given : Status
  pub shows : Shows saved swap given output
  pub gains : AppendsPrefix got now output

-- the two files, where they are told
abbrev pub IfBoth : Option (List Moment) → (List ℕ → List ℕ → Type 0) → Type 0
IfBoth moments P =
    IfSome (saved_now moments) (λ saved. IfSome (swap_now moments) (λ swap. P saved swap))

-- What a recovery does, from the disk before and after it, and from what the sink got and the faults
-- that it counted. That the sink stays says that nothing was asked of it
pub record IsRecovery (before after : Outer) (got now : Option (List ℕ)) (faults later : ℕ)
    (sink_stays : Type 0) (given : Status) : Type 0 where
  -- the answer of the two files, exactly
  pub answers : is_answer given ≡ true → AllStay before.faults after.faults
      × IfBoth before.moments (λ saved swap. Tells saved swap given)
  pub answers_come : IfBoth before.moments (λ saved swap. (answer : Answer) → Answers saved swap answer
      → TellsAnswer answer given
      ⊎ Contains (status.DiskFault ∷ status.WriteFault ∷ status.NoMemory ∷ []) given)
  -- the disk, whose files are as before at each moment
  pub disk_fault : given ≡ status.DiskFault
      → DiskRose before.faults after.faults ⊎ Rose (before.faults SwapAt) (after.faults SwapAt)
  pub disk_fault_comes : (call : DiskCall) → before.faults call < after.faults call
      → given ≡ status.DiskFault
  pub files : FilesStay before after
  -- what is written: the whole text of the answer, or its first bytes, or nothing
  pub shown : has_text given ≡ true
      → (later ≡ faults) × IfBoth before.moments (WritesRecovery given got now)
  pub silent : has_text given ≡ false → given ≢ status.WriteFault → given ≢ status.NoMemory
      → sink_stays
  pub write_fault : given ≡ status.WriteFault
      → AllStay before.faults after.faults × Rose faults later
  pub write_fault_comes : faults < later → given ≡ status.WriteFault
  pub prefix : (given ≡ status.WriteFault) ⊎ (given ≡ status.NoMemory)
      → IfBoth before.moments (λ saved swap. (now ≡ got) ⊎ WritesRecoveryPrefix got now saved swap)
  -- no other status comes
  pub only : is_of_recovery given ≡ true
