-- Where a query matches in one line.
use Rattle.std.specs.Prelude.{ℕ, ◌+◌, ◌≤◌, ◌==◌, ◌≡◌, List, length, if◌then◌else◌}
use Rattle.kte_place.specs.declared.place.Place.{Place}
use Rattle.kte_search.specs.declared.query.Query.{Query}
use Rattle.kte_place.specs.Ends.{Ends}
use Rattle.kte_place.specs.Place.{at}
use Rattle.kte_search.specs.Matches.{MatchesIn, FollowFrom, end_of_last}

-- the first column from a column on at which the query matches
pub record IsFirstColumn (q : Query) (units : List ℕ) (from column : ℕ) : Type 0 where
  pub here : MatchesIn q units column
  pub after : from ≤ column
  pub least : (c : ℕ) → from ≤ c → MatchesIn q units c → column ≤ c

-- the last column at which the query matches and the match ends at or before a column
pub record IsLastColumn (q : Query) (units : List ℕ) (before column : ℕ) : Type 0 where
  pub here : MatchesIn q units column
  pub inside : column + length q.pattern ≤ before
  pub greatest : (c : ℕ) → c + length q.pattern ≤ before → MatchesIn q units c → c ≤ column

-- it matches at no column from a column on
abbrev pub NoColumnFrom : Query → List ℕ → ℕ → Type 0
NoColumnFrom q units from = (c : ℕ) → from ≤ c → ¬ (MatchesIn q units c)

-- no match ends at or before a column
abbrev pub NoColumnTo : Query → List ℕ → ℕ → Type 0
NoColumnTo q units before = (c : ℕ) → c + length q.pattern ≤ before → ¬ (MatchesIn q units c)

-- the column from which a line is searched for what starts at or after a place
abbrev pub first_column : Place → ℕ → ℕ
first_column from line = if line == from.line then from.column else 0

-- the column up to which a line is searched for what ends at or before a place
abbrev pub last_column : Place → ℕ → List ℕ → ℕ
last_column before line units = if line == before.line then before.column else length units

-- so many matches were found from the start of the text, and the search goes on from this place
pub record FoundSoFar (q : Query) (text : List (List ℕ)) (spans : List Ends) (from : Place) (count : ℕ) : Type 0 where
  pub in_order : FollowFrom q text (at 0 0) spans
  pub from_end : from ≡ end_of_last (at 0 0) spans
  pub counted : length spans ≡ count
