-- How far a check has come.
use Rattle.std.specs.Prelude.{◌≡◌, ℕ, List, take, IsTrue}
use Rattle.kte_place.specs.declared.place.Place.{Place}
use Rattle.kte_place.specs.Ends.{Ends}
use Rattle.kte_place.specs.Place.{is_before}
use Rattle.kte_find.specs.declared.found.TheConstants.{MAX_FINDINGS}
use Rattle.kte_find.specs.declared.rule.Rule.{Rule}
use Rattle.kte_find.specs.Findings.{IsFinding, AreAll}

-- a span with the property that starts before the place
pub record StartsBefore (P : Ends → Type 0) (place : Place) (span : Ends) : Type 0 where
  pub has : P span
  pub before : IsTrue (is_before span.start place)

-- the first spans with the property of those that start before the place
pub record AreFirst (P : Ends → Type 0) (place : Place) (spans : List Ends) : Type 0 where
  pub all : List Ends
  pub are_all : AreAll (StartsBefore P place) all
  pub first : spans ≡ take MAX_FINDINGS all

-- the findings of the rule in the text as far as they start before the place
abbrev pub AreFound : Rule → List (List ℕ) → Place → List Ends → Type 0
AreFound rule text place spans = AreFirst (IsFinding rule text) place spans
