-- Which words are a command of the program, and which word does not fit. This project's own form
use Rattle.std.specs.Prelude.{◌≡◌, ◌≤◌, ◌↔◌, ◌-◌, ◌^◌, ℕ, List, [], ◌∷◌, ◌++◌, length, take, codes, Option, Some, None}
use Rattle.kte_words.specs.Forms.{Part, Lead, AFile, ANumber, Are, number_at}
use Rattle.kte_words.specs.declared.TheConstants.{MAX_COUNT, MAX_WORKERS}
use Rattle.kte_words.specs.declared.words.Words.{Words}
use Rattle.kte_words.specs.declared.words.Words.TheVariants.{Edit, Check, Recover, Gen}

-- a command's word, and the name of a file
abbrev pub file_form : List ℕ → List Part
file_form lead = Lead lead ∷ AFile ∷ []

-- the words are a command of this word for the file that the word of this index names
abbrev pub SpellsFile : List ℕ → List (List ℕ) → ℕ → Type 0
SpellsFile lead words file = Are (file_form lead) words × (file ≡ 1)

-- the word `check`, a number of checkers, and the name of a file
abbrev pub check_form : List Part
check_form = Lead (codes "check") ∷ ANumber 1 MAX_WORKERS ∷ AFile ∷ []

-- the words are the command `check` with this many checkers for the file that the word of this
-- index names
abbrev pub SpellsCheck : List (List ℕ) → ℕ → ℕ → Type 0
SpellsCheck words workers file =
    Are check_form words × (workers ≡ number_at words 1) × (file ≡ 2)

-- the word `gen`, a number of 64 bits, and a count of commands
abbrev pub gen_form : List Part
gen_form = Lead (codes "gen") ∷ ANumber 0 (2 ^ 64 - 1) ∷ ANumber 1 MAX_COUNT ∷ []

-- the words are the command `gen` for this number and this count
abbrev pub SpellsGen : List (List ℕ) → ℕ → ℕ → Type 0
SpellsGen words number count =
    Are gen_form words × (number ≡ number_at words 1) × (count ≡ number_at words 2)

-- the words of each command, one case a command; no other words are one
abbrev pub Spells : List (List ℕ) → Words → Type 0
Spells words (Edit file) = SpellsFile (codes "edit") words file
Spells words (Check workers file) = SpellsCheck words workers file
Spells words (Recover file) = SpellsFile (codes "recover") words file
Spells words (Gen number count) = SpellsGen words number count

-- the index of the word that names the command's file, if it has one
abbrev pub file_of : Words → Option ℕ
file_of (Edit file) = Some file
file_of (Check workers file) = Some file
file_of (Recover file) = Some file
file_of (Gen number count) = None

-- the words are a command
abbrev pub IsCommand : List (List ℕ) → Type 0
IsCommand words = (command : Words) × Spells words command

-- the words are a command, or become one with some more words after them
pub record BeginsCommand (words : List (List ℕ)) : Type 0 where
  pub more : List (List ℕ)
  pub whole : IsCommand (words ++ more)

-- The words are no command, and the longest front of them that begins one has this many words. This
-- is the index of the first word that does not fit, or the number of words if one is missing
pub record FirstMisfit (words : List (List ℕ)) (at : ℕ) : Type 0 where
  pub no_command : ¬ (IsCommand words)
  pub within : at ≤ length words
  pub longest : (count : ℕ) → count ≤ length words
      → BeginsCommand (take count words) ↔ (count ≤ at)
