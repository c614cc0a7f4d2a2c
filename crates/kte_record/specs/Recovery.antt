-- What a swap file recovers to, beside its saved file. Source: Kate's recovery of swap files. That
-- a transaction counts as a whole or not at all, and which answer comes first, is this project's
-- own rule
use Rattle.std.specs.Prelude.{◌≡◌, ◌≢◌, ◌⊎◌, ℕ, ◌+◌, ◌<◌, List, [], ◌++◌, length, Option, Some, None}
use Rattle.std.specs.List.{flat_map, AllByRecursion}
use Rattle.kte_text.specs.Files.{Loads, Refuses}
use Rattle.kte_text.specs.Digests.{digest_of}
use Rattle.kte_text.specs.Primitives.{after_all, misfit}
use Rattle.kte_text.specs.declared.loading.Loaded.{Loaded}
use Rattle.kte_text.specs.declared.loading.LoadFault.{LoadFault}
use Rattle.kte_text.specs.declared.primitive.Primitive.{Primitive}
use Rattle.kte_record.specs.Grammar.{Item, starts, finishes, spelling, Begins, IsCutShort, IsUnknown, HasVersion, HasHeader}
use Rattle.kte_record.specs.Transactions.{record_of, IsWritable, records, transaction, joined, FitOneByOne}
use Rattle.kte_record.specs.declared.header.TheConstants.{HEADER_LENGTH}

-- a transaction that was begun and has no end, if there is one
abbrev pub opening : Option (List Primitive) → List ℕ
opening None = []
opening (Some primitives) = spelling starts ++ records primitives

-- its primitives
abbrev pub begun_primitives : Option (List Primitive) → List Primitive
begun_primitives None = []
begun_primitives (Some primitives) = primitives

-- all primitives that were read
abbrev pub read_primitives : List (List Primitive) → Option (List Primitive) → List Primitive
read_primitives done begun = joined done ++ begun_primitives begun

-- The bytes after the header are whole transactions, then what was begun, and then these bytes. All
-- primitives fit, the first of them the saved text
pub record Reads (text : List (List ℕ)) (body : List ℕ) (done : List (List Primitive)) (begun : Option (List Primitive)) (rest : List ℕ) : Type 0 where
  pub parts : body ≡ flat_map transaction done ++ (opening begun ++ rest)
  pub writable : AllByRecursion IsWritable (read_primitives done begun)
  pub fit : FitOneByOne (read_primitives done begun) text

-- the record is that of a primitive that fits the text
pub record Fits (item : Item) (text : List (List ℕ)) : Type 0 where
  pub primitive : Primitive
  pub writable : IsWritable primitive
  pub spelled : item ≡ record_of primitive
  pub fits : misfit primitive text ≡ None

-- The record may come next: a start where no transaction is begun, and within one its end or a
-- record that fits the text so far
abbrev pub MayCome : Option (List Primitive) → Item → List (List ℕ) → Type 0
MayCome None item text = item ≡ starts
MayCome (Some primitives) item text = (item ≡ finishes) ⊎ Fits item text

-- no record begins with the bytes, or a whole one that may not come
abbrev pub IsAtFault : List (List ℕ) → Option (List Primitive) → List ℕ → Type 0
IsAtFault text begun rest =
    IsUnknown rest ⊎ ((item : Item) × Begins rest item × ¬ (MayCome begun item text))

-- no record that may come can be read: the bytes end, possibly within a record, or are at fault
abbrev pub Stops : List (List ℕ) → Option (List Primitive) → List ℕ → Type 0
Stops text begun rest = IsCutShort rest ⊎ IsAtFault text begun rest

-- The answer of a recovery, for each with what it tells. A text is the saved text after the
-- transactions that count, which are those with an end; `at` is an offset in the swap file
pub data Answer : Type 0 where
  no_swap : Answer
  refused : LoadFault → Answer
  version : Answer
  changed : (kept found : List ℕ) → Answer
  damaged : (at done : ℕ) → (text : List (List ℕ)) → Answer
  torn : (done : ℕ) → (text : List (List ℕ)) → Answer
  clean : (done : ℕ) → (text : List (List ℕ)) → Answer

-- so many transactions count, and this is the text after them
pub record Counts (text : List (List ℕ)) (done : List (List Primitive)) (count : ℕ) (result : List (List ℕ)) : Type 0 where
  pub count_is : count ≡ length done
  pub result_is : result ≡ after_all (joined done) text

-- the bytes after the header end after a whole transaction, or there are none
pub record IsClean (text : List (List ℕ)) (body : List ℕ) (count : ℕ) (result : List (List ℕ)) : Type 0 where
  pub done : List (List Primitive)
  pub reads : Reads text body done None []
  pub counts : Counts text done count result

-- they end within a transaction or within a record
pub record IsTorn (text : List (List ℕ)) (body : List ℕ) (count : ℕ) (result : List (List ℕ)) : Type 0 where
  pub done : List (List Primitive)
  pub begun : Option (List Primitive)
  pub rest : List ℕ
  pub reads : Reads text body done begun rest
  pub cut : IsCutShort rest
  pub some : 0 < length (opening begun ++ rest)
  pub counts : Counts text done count result

-- at an offset of the swap file stands what is no record, or a record that may not come
pub record IsDamaged (text : List (List ℕ)) (body : List ℕ) (at count : ℕ) (result : List (List ℕ)) : Type 0 where
  pub done : List (List Primitive)
  pub begun : Option (List Primitive)
  pub rest : List ℕ
  pub reads : Reads text body done begun rest
  pub fault : IsAtFault (after_all (read_primitives done begun) text) begun rest
  pub place : at + length rest ≡ HEADER_LENGTH + length body
  pub counts : Counts text done count result

-- the swap ends within its header, of which there is at least one byte
pub record IsCutHeader (swap : List ℕ) : Type 0 where
  pub version : HasVersion swap
  pub short : length swap < HEADER_LENGTH
  pub some : swap ≢ []

-- What a swap that is not empty comes to beside a saved file with this text and digest: another
-- version; the front of a header; the header of another file; or what its records come to
abbrev pub AnswersBeside : List (List ℕ) → List ℕ → List ℕ → Answer → Type 0
AnswersBeside text digest swap no_swap = ⊥
AnswersBeside text digest swap (refused fault) = ⊥
AnswersBeside text digest swap version = ¬ (HasVersion swap)
AnswersBeside text digest swap (changed kept found) =
    HasHeader swap kept × (kept ≢ digest) × (found ≡ digest)
AnswersBeside text digest swap (damaged at done result) =
    (header : HasHeader swap digest) × IsDamaged text header.rest at done result
AnswersBeside text digest swap (torn done result) =
    (IsCutHeader swap × (done ≡ 0) × (result ≡ text))
    ⊎ ((header : HasHeader swap digest) × IsTorn text header.rest done result)
AnswersBeside text digest swap (clean done result) =
    (header : HasHeader swap digest) × IsClean text header.rest done result

-- the saved file loads, and the answer is that beside its text
pub record AnswersLoaded (saved swap : List ℕ) (answer : Answer) : Type 0 where
  pub loaded : Loaded
  pub loads : Loads saved loaded
  pub allowed : (fault : LoadFault) → ¬ (Refuses saved fault)
  pub beside : AnswersBeside loaded.text (digest_of saved) swap answer

-- The answer for a saved file and a swap file, the first of these: the swap is empty; the saved
-- file is refused; the answer beside its text
abbrev pub Answers : List ℕ → List ℕ → Answer → Type 0
Answers saved swap no_swap = swap ≡ []
Answers saved swap (refused fault) = (swap ≢ []) × Refuses saved fault
Answers saved swap answer = (swap ≢ []) × AnswersLoaded saved swap answer

-- The text that a crash leaves: the saved text where the swap is empty or of another file, and
-- otherwise that of the answer, which is then torn or clean
abbrev pub Leaves : Answer → List (List ℕ) → List (List ℕ) → Type 0
Leaves no_swap text result = result ≡ text
Leaves (refused fault) text result = ⊥
Leaves version text result = ⊥
Leaves (changed kept found) text result = result ≡ text
Leaves (damaged at done left) text result = ⊥
Leaves (torn done left) text result = result ≡ left
Leaves (clean done left) text result = result ≡ left

-- a swap file recovers to this text, beside a saved file with this text and digest
abbrev pub Recovers : List (List ℕ) → List ℕ → List ℕ → List (List ℕ) → Type 0
Recovers text digest swap result =
    ((swap ≡ []) × (result ≡ text))
    ⊎ ((answer : Answer) × (swap ≢ []) × AnswersBeside text digest swap answer × Leaves answer text result)
