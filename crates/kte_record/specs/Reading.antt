-- What a reader of records returns.
use Rattle.std.specs.Prelude.{◌≡◌, ℕ, ◌+◌, ◌<◌, ◌≤◌, List, ◌++◌, length, take, drop, Result, Ok, Err}
use Rattle.kte_record.specs.Grammar.{Item, item_of, number, spelling, Begins, IsCutShort, FirstFault}
use Rattle.kte_record.specs.declared.record.Record.{Record}
use Rattle.kte_record.specs.declared.reading.Reading.{Reading}
use Rattle.kte_record.specs.declared.reading.Reading.TheVariants.{Got, Part, Bad}
use Rattle.kte_record.specs.declared.reading.Gap.{Gap}
use Rattle.kte_record.specs.declared.reading.Gap.TheVariants.{Cut, Fault}

-- the reading is this record, with its length in bytes
abbrev pub IsGot : Item → Reading → Type 0
IsGot item (Got found used) = (item_of found ≡ item) × (used ≡ length (spelling item))
IsGot item Part = ⊥
IsGot item (Bad at) = ⊥

-- What was read is so: the record with which the bytes begin, and its length in bytes; or that they
-- are the front of a record; or the first field at fault
abbrev pub Finds : List ℕ → Reading → Type 0
Finds bytes (Got found used) =
    Begins bytes (item_of found) × (used ≡ length (spelling (item_of found)))
Finds bytes Part = IsCutShort bytes
Finds bytes (Bad at) = FirstFault bytes at

-- the bytes, or none, are the front of a number up to this one, of which some bytes are missing
pub record IsNumberFront (most : ℕ) (bytes : List ℕ) : Type 0 where
  pub n : ℕ
  pub small : n ≤ most
  pub missing : List ℕ
  pub some : 0 < length missing
  pub spelled : number n ≡ bytes ++ missing

-- no number up to this one begins with these bytes, whatever follows them
abbrev pub NoNumber : ℕ → List ℕ → Type 0
NoNumber most bytes =
    (n : ℕ) (more rest : List ℕ) → n ≤ most → bytes ++ more ≡ number n ++ rest → ⊥

-- what was read at an offset is the number that stands there, or why there is none
abbrev pub ReadsNumber : ℕ → ℕ → List ℕ → Result ℕ Gap → Type 0
ReadsNumber most at bytes (Ok n) =
    (n ≤ most) × (drop at bytes ≡ number n ++ drop (at + 4) bytes)
ReadsNumber most at bytes (Err Cut) = IsNumberFront most (drop at bytes)
ReadsNumber most at bytes (Err (Fault found)) =
    (found ≡ at) × NoNumber most (take 4 (drop at bytes))

-- what was read is the record with which the bytes begin and its length, or why there is none
abbrev pub ReadsRecord : List ℕ → Result (Record × ℕ) Gap → Type 0
ReadsRecord bytes (Ok found) =
    Begins bytes (item_of found.0) × (found.1 ≡ length (spelling (item_of found.0)))
ReadsRecord bytes (Err Cut) = IsCutShort bytes
ReadsRecord bytes (Err (Fault at)) = FirstFault bytes at
