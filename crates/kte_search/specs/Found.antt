-- What a search finds, picked from the list of all matches of a query. This project's own rules
use Rattle.std.specs.Prelude.{ℕ, Bool, ◌+◌, List, [], ◌∷◌, ◌++◌, length, map, filter, reverse, take, Option, if◌then◌else◌}
use Rattle.std.specs.List.{find, range_with_len}
use Rattle.kte_text.specs.Words.{matches}
use Rattle.kte_place.specs.declared.place.Place.{Place}
use Rattle.kte_place.specs.Ends.{Ends}
use Rattle.kte_place.specs.Place.{at, is_at_or_before}
use Rattle.kte_place.specs.Span.{ends}
use Rattle.kte_search.specs.declared.query.Query.{Query}
use Rattle.kte_search.specs.declared.search.TheConstants.{MAX_MATCHES}

-- the query matches at this column of a line, as a test
abbrev pub is_match_at : Query → List ℕ → ℕ → Bool
is_match_at q units column = matches q.fold_case q.whole q.pattern units column

-- the span of a match at a place
abbrev pub match_at : Query → ℕ → ℕ → Ends
match_at q line column = ends (at line column) (at line (column + length q.pattern))

-- the matches in a line, from left to right; they may overlap
abbrev pub matches_on : Query → ℕ → List ℕ → List Ends
matches_on q line units =
    map (match_at q line) (filter (is_match_at q units) (range_with_len 0 (length units)))

-- the matches in these lines, the first of which has this number
abbrev pub matches_from : Query → ℕ → List (List ℕ) → List Ends
matches_from q line [] = []
matches_from q line (units ∷ text) = matches_on q line units ++ matches_from q (line + 1) text

-- all matches in a text, in the order of their starts
abbrev pub matches_of : Query → List (List ℕ) → List Ends
matches_of q text = matches_from q 0 text

-- the first match that starts at or after a place
abbrev pub first_match : Query → List (List ℕ) → Place → Option Ends
first_match q text from = find (λ s. is_at_or_before from s.start) (matches_of q text)

-- the last match that ends at or before a place
abbrev pub last_match : Query → List (List ℕ) → Place → Option Ends
last_match q text before = find (λ s. is_at_or_before s.end before) (reverse (matches_of q text))

-- of spans in order, the first that starts at or after a place, then the first that starts at or
-- after its end, and so on
abbrev pub apart : Place → List Ends → List Ends
apart from [] = []
apart from (s ∷ spans) =
    if is_at_or_before from s.start then s ∷ apart s.end spans else apart from spans

-- the matches from left to right without overlap, the first ones up to the greatest number
abbrev pub all_matches : Query → List (List ℕ) → List Ends
all_matches q text = take MAX_MATCHES (apart (at 0 0) (matches_of q text))
