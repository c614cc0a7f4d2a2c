-- A disk in memory keeps every saved file and every swap that it ever had, one after another, and a
-- moment is a place in them. This project's own rules.
use Rattle.std.specs.Prelude.{◌≡◌, ℕ, zero, suc, ◌+◌, ◌≤◌, Bool, true, false, List, [], ◌++◌, length, take, drop}
use Rattle.std.specs.List.{AllByRecursion}
use Rattle.kte_causes.specs.Moments.{Moment}
use Rattle.kte_causes.specs.declared.shelf.Place.{Place}
use Rattle.kte_causes.specs.declared.shelf.Change.{Change}
use Rattle.kte_causes.specs.declared.shelf.Change.TheVariants as change

-- the moment at a place
abbrev pub moment_of : List ℕ → List ℕ → Place → Moment
moment_of saved swap place = record {
  saved = take place.saved_len (drop place.saved_from saved);
  swap = take place.swap_len (drop place.swap_from swap);
  synced = place.synced;
  faults = place.faults;
}

-- the place lies within what is kept
pub record IsWithin (saved swap : ℕ) (place : Place) : Type 0 where
  pub saved_fits : place.saved_from + place.saved_len ≤ saved
  pub swap_fits : place.swap_from + place.swap_len ≤ swap
  pub synced_fits : place.synced ≤ place.swap_len

-- every place lies within what is kept, the present swap ends what is kept of swaps, and at most
-- as many calls have failed as moments are past
pub record IsInOrder (saved swap : List ℕ) (past : List Place) (present : Place) : Type 0 where
  pub earlier : AllByRecursion (IsWithin (length saved) (length swap)) past
  pub present_fits : IsWithin (length saved) (length swap) present
  pub at_the_end : present.swap_from + present.swap_len ≡ length swap
  pub few_faults : present.faults ≤ length past

-- a moment like the one before
abbrev pub stayed : Moment → Moment
stayed moment = moment

-- the moment after these bytes were added to the swap
abbrev pub appended : List ℕ → Moment → Moment
appended bytes moment = record moment { swap = moment.swap ++ bytes }

-- the moment after the swap was synced
abbrev pub synced : Moment → Moment
synced moment = record moment { synced = length moment.swap }

-- the moment after the saved file was replaced by these bytes
abbrev pub replaced : List ℕ → Moment → Moment
replaced bytes moment = record moment { saved = bytes }

-- the moment after the swap was emptied
abbrev pub emptied : Moment → Moment
emptied moment = record moment { swap = []; synced = 0 }

-- this moment where a call that fails takes place nevertheless, which a number other than 0 says,
-- and else the one before
abbrev pub taken_place : ℕ → Moment → Moment → Moment
taken_place zero after before = before
taken_place (suc n) after before = after

-- the moment after a change
abbrev pub changed : Change → Moment → Moment
changed change.Keep moment = stayed moment
changed (change.Append bytes) moment = appended bytes.now moment
changed change.Sync moment = synced moment
changed (change.Replace bytes) moment = replaced bytes.now moment
changed change.Empty moment = emptied moment

-- The moment after a change by a call that fails: it has so many of the bytes of an append; a sync
-- does not take place, and a replace or an emptying does where the number is not 0
abbrev pub left_by : Change → ℕ → Moment → Moment
left_by change.Keep done moment = stayed moment
left_by (change.Append bytes) done moment = appended (take done bytes.now) moment
left_by change.Sync done moment = stayed moment
left_by (change.Replace bytes) done moment = taken_place done (replaced bytes.now moment) moment
left_by change.Empty done moment = taken_place done (emptied moment) moment

-- one fault more, where a call failed
abbrev pub fault_of : Bool → ℕ
fault_of true = 1
fault_of false = 0

-- the moment with one fault more, where a call failed
abbrev pub counted : Bool → Moment → Moment
counted true moment = record moment { faults = moment.faults + 1 }
counted false moment = moment

-- the first moment of a disk in memory: all of its swap counts as synced
abbrev pub first_moment : List ℕ → List ℕ → Moment
first_moment saved swap = record { saved = saved; swap = swap; synced = length swap; faults = 0 }

-- the bytes that a change adds to those of the saved files
abbrev pub saved_bytes : Change → List ℕ
saved_bytes change.Keep = []
saved_bytes (change.Append bytes) = []
saved_bytes change.Sync = []
saved_bytes (change.Replace bytes) = bytes.now
saved_bytes change.Empty = []

-- the bytes that a change adds to those of the swap files
abbrev pub swap_bytes : Change → List ℕ
swap_bytes change.Keep = []
swap_bytes (change.Append bytes) = bytes.now
swap_bytes change.Sync = []
swap_bytes (change.Replace bytes) = []
swap_bytes change.Empty = []

-- the place after a change, where so many bytes of saved files and of swap files were kept before
abbrev pub place_after : Place → Change → Bool → ℕ → ℕ → Place
place_after place change.Keep failed saved swap =
    record place { faults = place.faults + fault_of failed }
place_after place (change.Append bytes) failed saved swap = record place {
  swap_len = place.swap_len + length bytes.now;
  faults = place.faults + fault_of failed;
}
place_after place change.Sync failed saved swap =
    record place { synced = place.swap_len; faults = place.faults + fault_of failed }
place_after place (change.Replace bytes) failed saved swap = record place {
  saved_from = saved;
  saved_len = length bytes.now;
  faults = place.faults + fault_of failed;
}
place_after place change.Empty failed saved swap = record place {
  swap_from = swap;
  swap_len = 0;
  synced = 0;
  faults = place.faults + fault_of failed;
}
