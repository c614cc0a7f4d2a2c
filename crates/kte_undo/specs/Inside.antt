-- The private fields of the kept edits.
use Rattle.std.specs.Prelude.{◌≡◌, ℕ, ◌<◌}

-- The open group is empty outside a transaction, and where it is not empty there is room to close it;
-- the spare vectors are empty
pub record IsSound (depth current groups room units steps : ℕ) : Type 0 where
  pub shut : depth ≡ 0 → current ≡ 0
  pub closes : 0 < current → groups < room
  pub no_units : units ≡ 0
  pub no_steps : steps ≡ 0
