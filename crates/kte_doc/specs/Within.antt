-- The places that the ends of a range can be at. This project's own rule.
use Rattle.std.specs.Prelude.{◌≡◌, ℕ, ◌+◌, ◌*◌, ◌<◌, ◌≤◌, Some}
use Rattle.kte_text.specs.declared.TheConstants.{MAX_SIZE}
use Rattle.kte_place.specs.declared.place.TheConstants.{MAX_REACH}
use Rattle.kte_place.specs.declared.place.Place.{Place}
use Rattle.kte_place.specs.declared.span.Empty.{Empty}
use Rattle.kte_place.specs.Ends.{Ends}
use Rattle.kte_place.specs.Span.{settle}

-- the greatest column at a revision: each primitive moves a place by at most the greatest size
abbrev pub farthest_at : ℕ → ℕ
farthest_at revision = MAX_REACH + revision * MAX_SIZE

-- a place in a text of so many lines, at no greater column
pub record IsWithin (lines farthest : ℕ) (place : Place) : Type 0 where
  pub line : place.line < lines
  pub column : place.column ≤ farthest

-- a settled span with both ends there
pub record IsSettledWithin (lines farthest : ℕ) (empty : Empty) (span : Ends) : Type 0 where
  pub settled : settle span.start span.end empty ≡ Some span
  pub start_within : IsWithin lines farthest span.start
  pub end_within : IsWithin lines farthest span.end
