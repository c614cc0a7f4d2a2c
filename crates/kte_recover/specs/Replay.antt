-- Where a replay of the records of a swap file stands.
use Rattle.std.specs.Prelude.{◌≡◌, ◌⊎◌, ℕ, ◌+◌, ◌<◌, Bool, true, false, List, [], ◌∷◌, ◌++◌, length, Option, Some, None}
use Rattle.std.specs.FinMap.{get}
use Rattle.kte_text.specs.Texts.{IsText}
use Rattle.kte_text.specs.Primitives.{after, after_all}
use Rattle.kte_text.specs.declared.primitive.Primitive.{Primitive}
use Rattle.kte_buffer.specs.Buffer.{Contents}
use Rattle.kte_record.specs.Grammar.{Item, IsRecord, IsCutShort, spelling}
use Rattle.kte_record.specs.Transactions.{joined}
use Rattle.kte_record.specs.Recovery.{Reads, MayCome, IsAtFault, opening, read_primitives}
use Rattle.kte_record.specs.declared.header.TheConstants.{HEADER_LENGTH}
use Rattle.kte_recover.specs.Inverse.{inverse, undone, CanUndo}
use Rattle.kte_recover.specs.declared.replay.Replay.{Replay}
use Rattle.kte_recover.specs.declared.replay.End.{End}
use Rattle.kte_recover.specs.declared.replay.End.TheVariants.{Clean, Torn, Damaged}

-- no cursor hangs in the buffer
abbrev pub HasNoCursors : Contents → Type 0
HasNoCursors buffer = (id : ℕ) → get buffer.hung id ≡ None

-- a text, and no cursor in it
pub record IsPlain (buffer : Contents) : Type 0 where
  pub text : IsText buffer.text
  pub cursors : HasNoCursors buffer

-- a transaction is begun
abbrev pub is_begun : Option (List Primitive) → Bool
is_begun None = false
is_begun (Some primitives) = true

-- The replay of the records in front of `rest`, in the bytes after a header: its text is the saved
-- text after all of them, and what it keeps takes back those of the transaction that is begun
pub record Stands (replay : Replay) (text : List (List ℕ)) (body rest : List ℕ) : Type 0 where
  pub done : List (List Primitive)
  pub begun : Option (List Primitive)
  pub reads : Reads text body done begun rest
  pub text_is : replay.buffer.text ≡ after_all (read_primitives done begun) text
  pub can_undo : CanUndo replay.undo.items replay.buffer.text
  pub undone_is : undone replay.undo.items replay.buffer.text ≡ after_all (joined done) text
  pub is_open : replay.is_open ≡ is_begun begun
  pub count : replay.done ≡ length done

-- the record may come next, and the replay has taken it
abbrev pub Took : Item → Replay → Replay → Type 0
Took item old new =
    (text : List (List ℕ)) (body more : List ℕ)
    → Stands old text body (spelling item ++ more) → Stands new text body more

-- the record may not come next
abbrev pub MayNotCome : Item → Replay → Type 0
MayNotCome item replay =
    (text : List (List ℕ)) (body rest : List ℕ) (stands : Stands replay text body rest)
    → ¬ (MayCome stands.begun item replay.buffer.text)

-- the primitive was applied, and what takes it back is kept
pub record Applied (primitive : Primitive) (old new : Replay) : Type 0 where
  pub text : new.buffer.text ≡ after primitive old.buffer.text
  pub undo : new.undo.items ≡ old.undo.items ++ inverse primitive old.buffer.text ∷ []
  pub plain : IsPlain new.buffer

-- where the replay of all records ends
abbrev pub Ends : List (List ℕ) → List ℕ → End → Replay → Type 0
Ends text body Clean replay =
    (stands : Stands replay text body []) × (stands.begun ≡ None)
Ends text body Torn replay =
    (rest : List ℕ) × (stands : Stands replay text body rest) × IsCutShort rest
    × (0 < length (opening stands.begun ++ rest))
Ends text body (Damaged at) replay =
    (rest : List ℕ) × (stands : Stands replay text body rest)
    × IsAtFault replay.buffer.text stands.begun rest
    × (at + length rest ≡ HEADER_LENGTH + length body)
