-- The whole script: its lines, what each of them says, and the first fault. This project's own form
use denote.Ref.{Bor}
use Rattle.std.specs.Prelude.{◌≡◌, ◌<◌, ◌==◌, ℕ, ◌+◌, ◌-◌, Bool, true, List, [], ◌∷◌, ◌++◌, length, take, drop, nat_lt, Option, Some, None, Result, Ok, Err, if◌then◌else◌}
use Rattle.std.specs.Str.{bytes_eq, is_utf8}
use Rattle.std.specs.Str.Lossy.{utf8_valid_len}
use Rattle.kte_command.specs.declared.command.Command.{Command}
use Rattle.kte_script.specs.declared.fault.ScriptFault.{ScriptFault}
use Rattle.kte_script.specs.declared.fault.ScriptFault.TheVariants as faults
use Rattle.kte_script.specs.declared.TheConstants.{MAX_SCRIPT_LENGTH, MAX_COMMANDS}
use Rattle.kte_script.specs.Ends.{parts_of}
use Rattle.kte_script.specs.Words.{skip}
use Rattle.kte_script.specs.Reading.{command_at}

-- one CR before the LF belongs to the line's end
abbrev pub without_cr : List ℕ → List ℕ
without_cr line =
    if bytes_eq (drop (length line - 1) line) (13 ∷ []) then take (length line - 1) line else line

-- all parts but the last end by LF
abbrev pub ended : List (List ℕ) → List (List ℕ)
ended [] = []
ended (last ∷ []) = last ∷ []
ended (line ∷ next ∷ lines) = without_cr line ∷ ended (next ∷ lines)

-- the lines of a script; the last one needs no end, and is empty where the script ends by LF
abbrev pub lines_of : List ℕ → List (List ℕ)
lines_of bytes = ended (parts_of bytes)

-- What a line says: nothing, a command, or that the word at this column is at fault, counted in
-- bytes from 1
pub data Meaning : Type 0 where
  Nothing : Meaning
  Says : Command → Meaning
  Faulty : ℕ → Meaning

-- a line without words, or whose first word begins with `#`
abbrev pub is_skipped : List ℕ → Bool
is_skipped [] = true
is_skipped (byte ∷ bytes) = byte == 35

abbrev pub said : ℕ → Result Command ℕ → Meaning
said size (Ok command) = Says command
said size (Err left) = Faulty (size - left + 1)

-- a line must be UTF-8 before its words are looked at
unfoldable pub meaning : List ℕ → Meaning
meaning line =
    if is_utf8 line
    then (if is_skipped (skip line) then Nothing else said (length line) (command_at line))
    else Faulty (utf8_valid_len line + 1)

abbrev pub before_all : Command → Result (List Command) ScriptFault → Result (List Command) ScriptFault
before_all command (Ok commands) = Ok (command ∷ commands)
before_all command (Err fault) = Err fault

-- a line of this number and meaning, where so many commands may still come, and the lines after it
abbrev pub with_line : ℕ → ℕ → Meaning → (ℕ → Result (List Command) ScriptFault) → Result (List Command) ScriptFault
with_line number room Nothing later = later room
with_line number room (Says command) later =
    if room == 0 then Err (faults.TooMany number) else before_all command (later (room - 1))
with_line number room (Faulty column) later = Err (faults.Bad number column)

-- the commands of these lines, or the first fault; the first line has this number
abbrev pub read_from : ℕ → ℕ → List (List ℕ) → Result (List Command) ScriptFault
read_from number room [] = Ok []
read_from number room (line ∷ lines) =
    with_line number room (meaning line) (λ left. read_from (number + 1) left lines)

-- the commands of a script, or its first fault; a script is too long before anything else
abbrev pub script_of : List ℕ → Result (List Command) ScriptFault
script_of bytes =
    if nat_lt MAX_SCRIPT_LENGTH (length bytes) then Err faults.TooLong
    else read_from 1 MAX_COMMANDS (lines_of bytes)

-- these commands, and those that are still read
abbrev pub after_all : List Command → Result (List Command) ScriptFault → Result (List Command) ScriptFault
after_all front (Ok commands) = Ok (front ++ commands)
after_all front (Err fault) = Err fault

-- ---- what the program's readers give, unless memory runs out

abbrev pub Tells : ℕ → Result (Option Command) ScriptFault → Meaning → Type 0
Tells number (Ok None) meant = meant ≡ Nothing
Tells number (Ok (Some command)) meant = meant ≡ Says command
Tells number (Err faults.NoMemory) meant = Unit {0}
Tells number (Err (faults.Bad line column)) meant = (line ≡ number) × (meant ≡ Faulty column)
Tells number (Err fault) meant = ⊥

abbrev pub FailsScript : ScriptFault → Result (List Command) ScriptFault → Type 0
FailsScript faults.NoMemory read = Unit {0}
FailsScript fault read = read ≡ Err fault

-- the first line, and the bytes after its end; None where it is the last
abbrev pub FirstLine : List ℕ → List ℕ → Option (Bor (List ℕ)) → Type 0
FirstLine bytes line None = lines_of bytes ≡ line ∷ []
FirstLine bytes line (Some rest) =
    (lines_of bytes ≡ line ∷ lines_of rest.now) × (length rest.now < length bytes)
