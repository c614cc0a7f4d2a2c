-- The header and the records of a swap file. Source: Kate's swap file, version 2.0, of KTextEditor
use Rattle.std.specs.Prelude.{◌≡◌, ℕ, ◌+◌, ◌<◌, ◌≤◌, List, [], ◌∷◌, ◌++◌, length, take, codes, if◌then◌else◌, nat_eq}
use Rattle.std.specs.List.{Contains}
use Rattle.std.specs.Int.{w32, to_be_bytes}
use Rattle.kte_record.specs.declared.record.TheConstants.{MAX_NUMBER, MAX_TEXT_LENGTH}
use Rattle.kte_record.specs.declared.record.Record.{Record}
use Rattle.kte_record.specs.declared.record.Record.TheVariants.{Start, Finish, Wrap, Unwrap, Insert, Remove}

-- a record without where its text lies in memory
pub data Item : Type 0 where
  starts : Item
  finishes : Item
  wraps : ℕ → ℕ → Item
  unwraps : ℕ → Item
  inserts : ℕ → ℕ → List ℕ → Item
  removes : ℕ → ℕ → ℕ → Item

-- what a record of the program is
abbrev pub item_of : Record → Item
item_of Start = starts
item_of Finish = finishes
item_of (Wrap line column) = wraps line column
item_of (Unwrap line) = unwraps line
item_of (Insert line column text) = inserts line column text.now
item_of (Remove line start end) = removes line start end

-- a number: four bytes, the highest first, as QDataStream writes it
abbrev pub number : ℕ → List ℕ
number n = to_be_bytes w32 n

-- an array of bytes: its length, and its bytes
abbrev pub byte_array : List ℕ → List ℕ
byte_array bytes = number (length bytes) ++ bytes

-- the bytes of a record: its tag, S, E, W, U, I or R, and its fields
abbrev pub spelling : Item → List ℕ
spelling starts = 0x53 ∷ []
spelling finishes = 0x45 ∷ []
spelling (wraps line column) = 0x57 ∷ number line ++ number column
spelling (unwraps line) = 0x55 ∷ number line
spelling (inserts line column text) = 0x49 ∷ number line ++ number column ++ byte_array text
spelling (removes line start end) = 0x52 ∷ number line ++ number start ++ number end

-- The numbers are not negative, as numbers of 32 bits with a sign, and the text is not too long.
-- What the bytes of the text are, and which column of a removal is the greater, does not matter
-- here
abbrev pub IsRecord : Item → Type 0
IsRecord starts = Unit {0}
IsRecord finishes = Unit {0}
IsRecord (wraps line column) = (line ≤ MAX_NUMBER) × (column ≤ MAX_NUMBER)
IsRecord (unwraps line) = line ≤ MAX_NUMBER
IsRecord (inserts line column text) =
    (line ≤ MAX_NUMBER) × (column ≤ MAX_NUMBER) × (length text ≤ MAX_TEXT_LENGTH)
IsRecord (removes line start end) =
    (line ≤ MAX_NUMBER) × (start ≤ MAX_NUMBER) × (end ≤ MAX_NUMBER)

-- the bytes begin with this record
pub record Begins (bytes : List ℕ) (item : Item) : Type 0 where
  pub is_record : IsRecord item
  pub rest : List ℕ
  pub spelled : bytes ≡ spelling item ++ rest

-- the bytes, or none, are the front of a record of which at least one byte is missing
pub record IsCutShort (bytes : List ℕ) : Type 0 where
  pub item : Item
  pub is_record : IsRecord item
  pub missing : List ℕ
  pub some : 0 < length missing
  pub spelled : spelling item ≡ bytes ++ missing

-- no record begins with these bytes, whatever bytes follow them
abbrev pub IsUnknown : List ℕ → Type 0
IsUnknown bytes =
    (item : Item) (more rest : List ℕ) → IsRecord item → bytes ++ more ≡ spelling item ++ rest → ⊥

-- where the tag and the numbers of a record begin
abbrev pub field_starts : List ℕ
field_starts = 0 ∷ 1 ∷ 5 ∷ 9 ∷ []

-- where the tag or the number that begins there ends
abbrev pub field_end : ℕ → ℕ
field_end at = if nat_eq at 0 then 1 else at + 4

-- The tag or number that begins at this offset is the first at fault: the bytes before it are the
-- front of a record, and with its own bytes they begin no record. The bytes may end within it
pub record FirstFault (bytes : List ℕ) (at : ℕ) : Type 0 where
  pub field : Contains field_starts at
  pub before : IsCutShort (take at bytes)
  pub fault : IsUnknown (take (field_end at) bytes)

-- the version of the format, and the length of the digest that follows it
abbrev pub version_bytes : List ℕ
version_bytes = byte_array (codes "Kate Swap File 2.0") ++ number 20

-- the header: the version, and the digest of the saved file as an array of 20 bytes
abbrev pub header : List ℕ → List ℕ
header digest = version_bytes ++ digest

-- the bytes begin with the version, or end within it
abbrev pub HasVersion : List ℕ → Type 0
HasVersion bytes = (missing : List ℕ) × (version_bytes ≡ take 26 bytes ++ missing)

-- the bytes begin with the header of a file with this digest
pub record HasHeader (bytes digest : List ℕ) : Type 0 where
  pub long : length digest ≡ 20
  pub rest : List ℕ
  pub spelled : bytes ≡ header digest ++ rest
