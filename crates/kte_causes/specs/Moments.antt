-- The moments of a disk: what its two files hold after each step of a call. A crash leaves an image
-- of a moment. This project's own rules; the swap file is that of Kate.
use Rattle.std.specs.Prelude.{◌≡◌, ℕ, ◌<◌, ◌≤◌, List, [], ◌∷◌, ◌++◌, length, take, Option, Some, None, Result, Ok, Err, ⊤}
use Rattle.std.specs.List.{AllByRecursion}
use Rattle.std.specs.Option.{option_map}
use Rattle.kte_causes.specs.declared.causes.DiskFail.{DiskFail}
use Rattle.kte_causes.specs.declared.causes.DiskFail.TheVariants.{Failed, NoMemory}

-- one moment: the bytes of the saved file and of the swap file, how many of the swap's first bytes
-- a crash keeps, and the sum of the disk's counts of faults
pub record Moment : Type 0 where
  pub saved : List ℕ
  pub swap : List ℕ
  pub synced : ℕ
  pub faults : ℕ

-- an image of a moment, which a crash may leave: the saved bytes, and a prefix of the swap bytes
-- that has at least those synced
pub record IsImage (moment : Moment) (saved swap : List ℕ) : Type 0 where
  pub whole : saved ≡ moment.saved
  pub cut : ℕ
  pub synced : moment.synced ≤ cut
  pub within : cut ≤ length moment.swap
  pub front : swap ≡ take cut moment.swap

-- the last of some moments, or the one before them
abbrev pub latest_from : Moment → List Moment → Moment
latest_from old [] = old
latest_from old (moment ∷ moments) = latest_from moment moments

-- two empty files
abbrev pub nowhere : Moment
nowhere = record { saved = []; swap = []; synced = 0; faults = 0 }

-- the last of some moments
abbrev pub latest : List Moment → Moment
latest moments = latest_from nowhere moments

-- the saved bytes of the last moment, where moments are told
abbrev pub saved_now : Option (List Moment) → Option (List ℕ)
saved_now moments = option_map (λ told. (latest told).saved) moments

-- the swap bytes of the last moment, where moments are told
abbrev pub swap_now : Option (List Moment) → Option (List ℕ)
swap_now moments = option_map (λ told. (latest told).swap) moments

-- moments were added, or none, and P says which, from the last one before them. A disk that tells
-- goes on telling; of one that did not tell nothing is said
abbrev pub AddsMoments : (Moment → List Moment → Type 0) → Option (List Moment)
    → Option (List Moment) → Type 0
AddsMoments P None after = ⊤
AddsMoments P (Some before) None = ⊥
AddsMoments P (Some before) (Some after) =
    (added : List Moment) × (after ≡ before ++ added) × P (latest before) added

-- what one call adds. Each says what the added moments are, Last what the last one is after Ok.
-- Ok and Failed add at least one moment; the sum of the counts rises with Failed alone
abbrev pub AddedBy : {T : Type 0} → Result T DiskFail → (Moment → List Moment → Type 0)
    → (Moment → Moment → Type 0) → Moment → List Moment → Type 0
AddedBy (Ok value) Each Last old added =
    (0 < length added) × Each old added × Last old (latest_from old added)
    × AllByRecursion (λ moment. moment.faults ≡ old.faults) added
AddedBy (Err Failed) Each Last old added =
    Each old added × AllByRecursion (λ moment. old.faults ≤ moment.faults) added
    × (old.faults < (latest_from old added).faults)
AddedBy (Err NoMemory) Each Last old added = added ≡ []

-- first some that are so, and then the rest: what has come to be so stays so
abbrev pub Turns : (Moment → Type 0) → (Moment → Type 0) → List Moment → Type 0
Turns P Q added =
    (xs : List Moment) × (ys : List Moment) × (added ≡ xs ++ ys)
    × AllByRecursion P xs × AllByRecursion Q ys

-- both files, and what is synced, are as before
abbrev pub IsSame : Moment → Moment → Type 0
IsSame old moment =
    (moment.saved ≡ old.saved) × (moment.swap ≡ old.swap) × (moment.synced ≡ old.synced)

-- a length or a read: both files are as before
abbrev pub Staying : Moment → List Moment → Type 0
Staying old added = AllByRecursion (IsSame old) added

-- after a length or a read
abbrev pub Stayed : Moment → Moment → Type 0
Stayed old moment = IsSame old moment

-- the swap is the old one and a prefix of these bytes
abbrev pub HasPrefix : List ℕ → Moment → Moment → Type 0
HasPrefix bytes old moment =
    (moment.saved ≡ old.saved) × (moment.synced ≡ old.synced)
    × ((n : ℕ) × (moment.swap ≡ old.swap ++ take n bytes))

-- an append: the swap is the old one and a prefix of these bytes
abbrev pub Appending : List ℕ → Moment → List Moment → Type 0
Appending bytes old added = AllByRecursion (HasPrefix bytes old) added

-- after an append: the swap is the old one and all of these bytes
abbrev pub Appended : List ℕ → Moment → Moment → Type 0
Appended bytes old moment = moment.swap ≡ old.swap ++ bytes

-- both files are as before, and no less of the swap is synced
abbrev pub IsSyncedMore : Moment → Moment → Type 0
IsSyncedMore old moment =
    (moment.saved ≡ old.saved) × (moment.swap ≡ old.swap)
    × (old.synced ≤ moment.synced) × (moment.synced ≤ length moment.swap)

-- a sync: both files are as before, and what was synced stays so
abbrev pub Syncing : Moment → List Moment → Type 0
Syncing old added = AllByRecursion (IsSyncedMore old) added

-- after a sync: all of the swap is synced
abbrev pub Synced : Moment → Moment → Type 0
Synced old moment = moment.synced ≡ length moment.swap

-- the saved file has these bytes, and the swap is as before
abbrev pub IsReplaced : List ℕ → Moment → Moment → Type 0
IsReplaced bytes old moment =
    (moment.saved ≡ bytes) × (moment.swap ≡ old.swap) × (moment.synced ≡ old.synced)

-- a replace: the saved file is the old one, whole, and then the new one, whole
abbrev pub Replacing : List ℕ → Moment → List Moment → Type 0
Replacing bytes old added = Turns (IsSame old) (IsReplaced bytes old) added

-- after a replace: the saved file is the new one
abbrev pub Replaced : List ℕ → Moment → Moment → Type 0
Replaced bytes old moment = moment.saved ≡ bytes

-- the swap is empty, and the saved file is as before
abbrev pub IsReset : Moment → Moment → Type 0
IsReset old moment = (moment.saved ≡ old.saved) × (moment.swap ≡ []) × (moment.synced ≡ 0)

-- a reset: the swap is the old one, whole, and then empty
abbrev pub Resetting : Moment → List Moment → Type 0
Resetting old added = Turns (IsSame old) (IsReset old) added

-- after a reset: the swap is empty
abbrev pub Reset : Moment → Moment → Type 0
Reset old moment = (moment.swap ≡ []) × (moment.synced ≡ 0)
