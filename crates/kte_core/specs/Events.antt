-- What contracts see of a `Journal`.
use Rattle.std.specs.Prelude.{ℕ, List}
use Rattle.kte_core.specs.declared.event.Event.{Event}

-- what a `Journal` holds
pub record Events : Type 0 where
  -- in the order in which they took effect
  pub events : List Event
  -- for how many more there is memory already
  pub room : ℕ
