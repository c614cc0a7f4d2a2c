-- The matches of a query in a text. This project's own rules
use Rattle.std.specs.Prelude.{◌≡◌, ℕ, ◌+◌, ◌<◌, ◌≤◌, List, [], ◌∷◌, length, IsTrue}
use Rattle.kte_text.specs.Texts.{line_at}
use Rattle.kte_text.specs.Words.{MatchesAt}
use Rattle.kte_place.specs.declared.place.Place.{Place}
use Rattle.kte_place.specs.Ends.{Ends}
use Rattle.kte_place.specs.Place.{at, is_at_or_before}
use Rattle.kte_search.specs.declared.query.Query.{Query}
use Rattle.kte_search.specs.declared.search.TheConstants.{MAX_MATCHES}

-- the query matches at this column of a line
abbrev pub MatchesIn : Query → List ℕ → ℕ → Type 0
MatchesIn q units column = MatchesAt q.fold_case q.whole q.pattern units column

-- the span of a match: the query matches where it starts, and it is as long as the pattern
pub record IsMatch (q : Query) (text : List (List ℕ)) (s : Ends) : Type 0 where
  pub line : s.start.line < length text
  pub units : MatchesIn q (line_at text s.start.line) s.start.column
  pub end : s.end ≡ at s.start.line (s.start.column + length q.pattern)

-- the least match that starts at or after a place
pub record IsFirst (q : Query) (text : List (List ℕ)) (from : Place) (s : Ends) : Type 0 where
  pub is_match : IsMatch q text s
  pub after : IsTrue (is_at_or_before from s.start)
  pub least : (t : Ends) → IsMatch q text t → IsTrue (is_at_or_before from t.start)
      → IsTrue (is_at_or_before s.start t.start)

-- the match with the greatest start among those that end at or before a place
pub record IsLast (q : Query) (text : List (List ℕ)) (before : Place) (s : Ends) : Type 0 where
  pub is_match : IsMatch q text s
  pub inside : IsTrue (is_at_or_before s.end before)
  pub greatest : (t : Ends) → IsMatch q text t → IsTrue (is_at_or_before t.end before)
      → IsTrue (is_at_or_before t.start s.start)

-- no match starts at or after the place
abbrev pub HasNoneFrom : Query → List (List ℕ) → Place → Type 0
HasNoneFrom q text from = (t : Ends) → IsMatch q text t → ¬ (IsTrue (is_at_or_before from t.start))

-- no match ends at or before the place
abbrev pub HasNoneTo : Query → List (List ℕ) → Place → Type 0
HasNoneTo q text before = (t : Ends) → IsMatch q text t → ¬ (IsTrue (is_at_or_before t.end before))

-- there is no match
abbrev pub HasNone : Query → List (List ℕ) → Type 0
HasNone q text = (t : Ends) → ¬ (IsMatch q text t)

-- matches from left to right without overlap: each is the first at or after the end of the one
-- before, and the first of them the first at or after a place
abbrev pub FollowFrom : Query → List (List ℕ) → Place → List Ends → Type 0
FollowFrom q text from [] = Unit {0}
FollowFrom q text from (s ∷ rest) = IsFirst q text from s × FollowFrom q text s.end rest

-- where the last span ends, or the place where there is none
abbrev pub end_of_last : Place → List Ends → Place
end_of_last from [] = from
end_of_last from (s ∷ rest) = end_of_last s.end rest

-- The matches from the start of the text, up to the greatest number; where there are fewer, no
-- match starts at or after the end of the last
pub record AreAll (q : Query) (text : List (List ℕ)) (spans : List Ends) : Type 0 where
  pub in_order : FollowFrom q text (at 0 0) spans
  pub few : length spans ≤ MAX_MATCHES
  pub whole : length spans < MAX_MATCHES → HasNoneFrom q text (end_of_last (at 0 0) spans)
