-- The statuses: their codes, their lines, and the faults that they stand for. This project's own
-- rules.
use Rattle.std.specs.Prelude.{ℕ, Bool, true, false, List, [], ◌++◌, codes, Option, None, Some}
use Rattle.std.specs.Fmt.{decimal}
use Rattle.hex.specs.Hex.{encode_lower}
use Rattle.kte_causes.specs.declared.causes.DiskFail.{DiskFail}
use Rattle.kte_causes.specs.declared.causes.DiskFail.TheVariants as disk
use Rattle.kte_causes.specs.declared.causes.ReadFault.{ReadFault}
use Rattle.kte_causes.specs.declared.causes.ReadFault.TheVariants as read
use Rattle.kte_causes.specs.declared.causes.SinkFail.{SinkFail}
use Rattle.kte_causes.specs.declared.causes.SinkFail.TheVariants as sink
use Rattle.kte_script.specs.declared.fault.ScriptFault.{ScriptFault}
use Rattle.kte_script.specs.declared.fault.ScriptFault.TheVariants as faults
use Rattle.kte_text.specs.declared.loading.LoadFault.{LoadFault}
use Rattle.kte_text.specs.declared.loading.LoadFault.TheVariants as load
use Rattle.kte_run.specs.declared.status.Status.{Status}
use Rattle.kte_run.specs.declared.status.Status.TheVariants as status

-- the code that the program ends with
abbrev pub code_of : Status → ℕ
code_of status.Ok = 0
code_of status.NoMemory = 1
code_of (status.BadWords at) = 2
code_of status.ReadFault = 3
code_of (status.BadScript fault) = 4
code_of status.DiskFault = 5
code_of (status.NotUtf8 at) = 6
code_of (status.TooLarge size) = 7
code_of (status.SwapPresent bytes) = 8
code_of status.SwapLost = 9
code_of status.WriteFault = 10
code_of status.NoSwap = 11
code_of status.Version = 12
code_of (status.FileChanged kept found) = 13
code_of (status.Damaged at done) = 14

-- a text that is too large, or a file that is too long for its text to be told
abbrev pub too_large_line : Option ℕ → List ℕ
too_large_line None = codes "kted: file too long"
too_large_line (Some size) = codes "kted: text too large: " ++ decimal size

-- where a script is at fault
abbrev pub script_line : ScriptFault → List ℕ
script_line (faults.Bad line column) = codes "kted: script line " ++ decimal line ++ codes " column " ++ decimal column
script_line (faults.TooMany line) = codes "kted: script line " ++ decimal line ++ codes " is one command too many"
script_line faults.TooLong = codes "kted: script too long"
script_line faults.NoMemory = codes "kted: out of memory"

-- the line on standard error, without its end
abbrev pub error_line : Status → List ℕ
error_line status.Ok = []
error_line status.NoMemory = codes "kted: out of memory"
error_line (status.BadWords at) = codes "kted: word " ++ decimal at ++ codes " does not fit"
error_line status.ReadFault = codes "kted: reading the script failed"
error_line (status.BadScript fault) = script_line fault
error_line status.DiskFault = codes "kted: the disk failed"
error_line (status.NotUtf8 at) = codes "kted: file is not UTF-8 at byte " ++ decimal at
error_line (status.TooLarge size) = too_large_line size
error_line (status.SwapPresent bytes) = codes "kted: swap file present: " ++ decimal bytes ++ codes " bytes"
error_line status.SwapLost = codes "kted: swap file lost"
error_line status.WriteFault = codes "kted: writing failed"
error_line status.NoSwap = codes "kted: no swap file"
error_line status.Version = codes "kted: unknown swap version"
error_line (status.FileChanged kept found) =
    codes "kted: file changed: swap " ++ encode_lower kept.0 ++ codes " file " ++ encode_lower found.0
error_line (status.Damaged at done) =
    codes "kted: swap damaged at byte " ++ decimal at ++ codes " after " ++ decimal done
    ++ codes " transactions"

-- the status of a script that is at fault
abbrev pub bad_script_status : ScriptFault → Status
bad_script_status faults.NoMemory = status.NoMemory
bad_script_status (faults.Bad line column) = status.BadScript (faults.Bad line column)
bad_script_status (faults.TooMany line) = status.BadScript (faults.TooMany line)
bad_script_status faults.TooLong = status.BadScript faults.TooLong

-- the status of a script that was not read
abbrev pub script_status : ReadFault → Status
script_status read.Failed = status.ReadFault
script_status read.TooLong = status.BadScript faults.TooLong
script_status read.NoMemory = status.NoMemory

-- the status of a call of the disk that failed
abbrev pub disk_status : DiskFail → Status
disk_status disk.Failed = status.DiskFault
disk_status disk.NoMemory = status.NoMemory

-- the status of a file that is not loaded
abbrev pub file_status : LoadFault → Status
file_status load.LongFile = status.TooLarge None
file_status (load.NotUtf8 at) = status.NotUtf8 at
file_status (load.TooLarge size) = status.TooLarge (Some size)
file_status load.NoMemory = status.NoMemory

-- the status of a write that failed
abbrev pub sink_status : SinkFail → Status
sink_status sink.Failed = status.WriteFault
sink_status sink.NoMemory = status.NoMemory

-- the statuses with which reading the script may end a run
abbrev pub is_of_script : Status → Bool
is_of_script status.NoMemory = true
is_of_script status.ReadFault = true
is_of_script (status.BadScript fault) = true
is_of_script _ = false

-- the statuses with which loading the file may end a run
abbrev pub is_of_file : Status → Bool
is_of_file status.NoMemory = true
is_of_file status.DiskFault = true
is_of_file (status.NotUtf8 at) = true
is_of_file (status.TooLarge size) = true
is_of_file _ = false

-- .. and looking for a swap file
abbrev pub is_of_swap : Status → Bool
is_of_swap status.NoMemory = true
is_of_swap status.DiskFault = true
is_of_swap (status.SwapPresent bytes) = true
is_of_swap _ = false

-- the statuses with which an edit may end
abbrev pub is_of_edit : Status → Bool
is_of_edit status.Ok = true
is_of_edit status.NoMemory = true
is_of_edit status.ReadFault = true
is_of_edit (status.BadScript fault) = true
is_of_edit status.DiskFault = true
is_of_edit (status.NotUtf8 at) = true
is_of_edit (status.TooLarge size) = true
is_of_edit (status.SwapPresent bytes) = true
is_of_edit status.SwapLost = true
is_of_edit status.WriteFault = true
is_of_edit _ = false

-- the statuses with which a recovery may end
abbrev pub is_of_recovery : Status → Bool
is_of_recovery status.Ok = true
is_of_recovery status.NoMemory = true
is_of_recovery status.DiskFault = true
is_of_recovery (status.NotUtf8 at) = true
is_of_recovery (status.TooLarge size) = true
is_of_recovery status.WriteFault = true
is_of_recovery status.NoSwap = true
is_of_recovery status.Version = true
is_of_recovery (status.FileChanged kept found) = true
is_of_recovery (status.Damaged at done) = true
is_of_recovery _ = false

-- .. where the length of the swap file is 0 or is not told
abbrev pub is_of_length : Status → Bool
is_of_length status.NoMemory = true
is_of_length status.DiskFault = true
is_of_length status.NoSwap = true
is_of_length _ = false

-- .. before anything is written
abbrev pub is_unwritten : Status → Bool
is_unwritten status.NoMemory = true
is_unwritten status.DiskFault = true
is_unwritten (status.NotUtf8 at) = true
is_unwritten (status.TooLarge size) = true
is_unwritten status.NoSwap = true
is_unwritten status.Version = true
is_unwritten (status.FileChanged kept found) = true
is_unwritten _ = false

-- .. once both files were read
abbrev pub is_unread : Status → Bool
is_unread status.NoMemory = true
is_unread status.NoSwap = true
is_unread (status.NotUtf8 at) = true
is_unread (status.TooLarge size) = true
is_unread status.Version = true
is_unread (status.FileChanged kept found) = true
is_unread _ = false
