-- The meaning of a whole script, stated over its lines. Laws prove that reading agrees with it. This
-- project's own form
use Rattle.std.specs.Prelude.{◌≡◌, ℕ, ◌+◌, ◌≤◌, ◌⊎◌, List, [], ◌∷◌, ◌++◌, length}
use Rattle.kte_command.specs.declared.command.Command.{Command}
use Rattle.kte_script.specs.declared.TheConstants.{MAX_SCRIPT_LENGTH, MAX_COMMANDS}
use Rattle.kte_script.specs.Script.{Nothing, Says, Faulty, meaning, lines_of}

-- these lines say these commands, in order, and none of them is at fault
abbrev pub AllSay : List (List ℕ) → List Command → Type 0
AllSay [] commands = commands ≡ []
AllSay (line ∷ lines) commands =
    ((meaning line ≡ Nothing) × AllSay lines commands)
    ⊎ ((command : Command) × (others : List Command) × (commands ≡ command ∷ others)
    × (meaning line ≡ Says command) × AllSay lines others)

-- a line of this number, from 1, after lines that say these commands
pub record Comes (lines : List (List ℕ)) (number : ℕ) (line : List ℕ) (commands : List Command) : Type 0 where
  pub before : List (List ℕ)
  pub after : List (List ℕ)
  pub parts : lines ≡ before ++ line ∷ after
  pub counted : number ≡ length before + 1
  pub said : AllSay before commands

-- the script is not too long, its lines say these commands, and these are not too many
pub record IsScript (bytes : List ℕ) (commands : List Command) : Type 0 where
  pub short : length bytes ≤ MAX_SCRIPT_LENGTH
  pub said : AllSay (lines_of bytes) commands
  pub few : length commands ≤ MAX_COMMANDS

-- this line is the first at fault, and there are not too many commands before it
pub record IsBad (bytes : List ℕ) (number column : ℕ) : Type 0 where
  pub short : length bytes ≤ MAX_SCRIPT_LENGTH
  pub line : List ℕ
  pub commands : List Command
  pub comes : Comes (lines_of bytes) number line commands
  pub few : length commands ≤ MAX_COMMANDS
  pub faulty : meaning line ≡ Faulty column

-- this line has the first command too many, and no line before it is at fault
pub record HasTooMany (bytes : List ℕ) (number : ℕ) : Type 0 where
  pub short : length bytes ≤ MAX_SCRIPT_LENGTH
  pub line : List ℕ
  pub commands : List Command
  pub comes : Comes (lines_of bytes) number line commands
  pub full : length commands ≡ MAX_COMMANDS
  pub command : Command
  pub says : meaning line ≡ Says command
