-- What a row of actors is after all have acted. This project's own.
use Rattle.std.specs.Prelude.{ℕ, ◌<◌, List, length, slice_index_or}

-- each actor, at its place in the row, is done from what it was (`a` is never used)
abbrev pub EachDone : {A : Type 0} → (A → A → Type 0) → List A → List A → Type 0
EachDone {A} done before after =
    (place : ℕ) (a : A) → place < length before
    → done (slice_index_or before place a) (slice_index_or after place a)
