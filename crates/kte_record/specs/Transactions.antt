-- The transactions of a swap file: what is written for the primitives of each. Source: Kate's swap
-- file, whose records are the four editing primitives of KTextEditor's Document
use Rattle.std.specs.Prelude.{◌≡◌, ℕ, zero, suc, ◌+◌, List, [], ◌∷◌, ◌++◌, None}
use Rattle.std.specs.List.{flat_map}
use Rattle.kte_text.specs.Units.{utf8_of}
use Rattle.kte_text.specs.Primitives.{HasLine, after, misfit}
use Rattle.kte_text.specs.declared.primitive.Primitive.{Primitive}
use Rattle.kte_text.specs.declared.primitive.Primitive.TheVariants.{Wrap, Unwrap, Insert, Remove}
use Rattle.kte_record.specs.Grammar.{Item, starts, finishes, wraps, unwraps, inserts, removes, spelling, IsRecord, header}

-- the record of a primitive: its text in UTF-8, and for a removal the columns of both ends
abbrev pub record_of : Primitive → Item
record_of (Wrap line column) = wraps line column
record_of (Unwrap line) = unwraps line
record_of (Insert line column text) = inserts line column (utf8_of text)
record_of (Remove line column units) = removes line column (column + units)

-- the primitive can be written: its text is a line, and its record is one
pub record IsWritable (primitive : Primitive) : Type 0 where
  pub line : HasLine primitive
  pub is_record : IsRecord (record_of primitive)

-- the bytes of the records of some primitives, in order
abbrev pub records : List Primitive → List ℕ
records primitives = flat_map (λ primitive. spelling (record_of primitive)) primitives

-- the bytes of a transaction: its start, its records, and its end
abbrev pub transaction : List Primitive → List ℕ
transaction primitives = spelling starts ++ records primitives ++ spelling finishes

-- the primitives of several transactions as one list
abbrev pub joined : List (List Primitive) → List Primitive
joined ts = flat_map (λ t. t) ts

-- The primitives fit one after another, the first of them this text. Unlike in a list of edits, one
-- may insert or remove nothing: it must fit as well
abbrev pub FitOneByOne : List Primitive → List (List ℕ) → Type 0
FitOneByOne [] text = Unit {0}
FitOneByOne (primitive ∷ primitives) text =
    (misfit primitive text ≡ None) × FitOneByOne primitives (after primitive text)

-- what the transaction with this number, from 0, adds to the swap: the first one comes after the
-- header
abbrev pub piece : ℕ → List ℕ → List Primitive → List ℕ
piece zero digest t = header digest ++ transaction t
piece (suc n) digest t = transaction t

-- what these transactions add, the first of which has this number
abbrev pub written_from : ℕ → List ℕ → List (List Primitive) → List ℕ
written_from n digest [] = []
written_from n digest (t ∷ ts) = piece n digest t ++ written_from (suc n) digest ts

-- the swap file of these transactions beside a saved file with this digest
abbrev pub written : List ℕ → List (List Primitive) → List ℕ
written digest ts = written_from 0 digest ts
