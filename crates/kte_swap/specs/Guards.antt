-- The condition that every call keeps, and what a crash leaves under it. This project's own rules.
use Rattle.std.specs.Prelude.{◌≡◌, ℕ, ◌≤◌, List, ◌++◌, length, min, take, Option, Some, None}
use Rattle.std.specs.List.{AllByRecursion}
use Rattle.kte_text.specs.Files.{Loads, Refuses}
use Rattle.kte_text.specs.Digests.{digest_of}
use Rattle.kte_text.specs.Primitives.{after_all}
use Rattle.kte_text.specs.declared.loading.Loaded.{Loaded}
use Rattle.kte_text.specs.declared.loading.LoadFault.{LoadFault}
use Rattle.kte_text.specs.declared.primitive.Primitive.{Primitive}
use Rattle.kte_record.specs.Transactions.{IsWritable, FitOneByOne, joined, written}
use Rattle.kte_record.specs.Recovery.{Recovers}
use Rattle.kte_causes.specs.Faults.{last_count}
use Rattle.kte_causes.specs.Moments.{Moment, IsImage, latest}
use Rattle.kte_swap.specs.Swap.{SwapView}
use Rattle.kte_swap.specs.declared.causes.SwapState.{SwapState}
use Rattle.kte_swap.specs.declared.causes.SwapState.TheVariants.{Guarded, Lost}

-- the file is that of this text, and is not refused
pub record IsFileOf (saved : List ℕ) (text : List (List ℕ)) : Type 0 where
  pub loaded : Loaded
  pub loads : Loads saved loaded
  pub allowed : (fault : LoadFault) → ¬ (Refuses saved fault)
  pub text_is : loaded.text ≡ text

-- The swap file is what is written for these transactions beside the saved file, which is that of
-- this text. They fit the text one after another, and all are counted
pub record Guards (swap : SwapView) (text : List (List ℕ)) (ts : List (List Primitive)) (moment : Moment) : Type 0 where
  pub file : IsFileOf moment.saved text
  pub base_is : digest_of moment.saved ≡ swap.base
  pub bytes : moment.swap ≡ written swap.base ts
  pub counted : swap.count ≡ min (length ts) last_count
  pub writable : AllByRecursion IsWritable (joined ts)
  pub fit : FitOneByOne (joined ts) text

-- the swap file is a front of what is written for some transactions beside a file with this digest
pub record IsFront (base : List ℕ) (moment : Moment) : Type 0 where
  pub ts : List (List Primitive)
  pub rest : List ℕ
  pub bytes : written base ts ≡ moment.swap ++ rest

-- what holds of a moment: the one of a guarded swap, the other of a lost one
abbrev pub StandsIn : SwapState → SwapView → List (List ℕ) → List (List Primitive) → Moment → Type 0
StandsIn Guarded swap text ts moment = Guards swap text ts moment
StandsIn Lost swap text ts moment = IsFront swap.base moment

-- The condition that every call keeps. It is said of the last moment of a disk that tells. The text
-- is that of the saved file, and the transactions are those since the last save
abbrev pub Stands : SwapView → List (List ℕ) → List (List Primitive) → Option (List Moment) → Type 0
Stands swap text ts None = ⊥
Stands swap text ts (Some moments) = StandsIn swap.state swap text ts (latest moments)

-- While guarded, the primitives fit the text after these transactions. Of a lost swap nothing is
-- asked
abbrev pub FitAfter : SwapState → List Primitive → List (List Primitive) → List (List ℕ) → Type 0
FitAfter Guarded batch ts text = FitOneByOne batch (after_all (joined ts) text)
FitAfter Lost batch ts text = Unit {0}

-- An image of a moment recovers to the text after a front of the transactions: all that are whole in
-- it, and so each that the moment has synced
pub record ImageRecovers (text : List (List ℕ)) (ts : List (List Primitive)) (moment : Moment) (saved swap : List ℕ) : Type 0 where
  pub file : IsFileOf saved text
  pub count : ℕ
  pub most : count ≤ length ts
  pub whole : length (written (digest_of saved) (take count ts)) ≤ length swap
  pub least : (j : ℕ) → j ≤ length ts → length (written (digest_of saved) (take j ts)) ≤ length swap → j ≤ count
  pub synced : (j : ℕ) → j ≤ length ts → length (written (digest_of saved) (take j ts)) ≤ moment.synced → j ≤ count
  pub recovers : Recovers text (digest_of saved) swap (after_all (joined (take count ts)) text)

-- each image of a moment does
abbrev pub ImagesRecover : List (List ℕ) → List (List Primitive) → Moment → Type 0
ImagesRecover text ts moment =
    (saved : List ℕ) (swap : List ℕ) → IsImage moment saved swap → ImageRecovers text ts moment saved swap
