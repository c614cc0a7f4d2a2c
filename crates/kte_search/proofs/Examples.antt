-- Worked examples of the definitions, each proved by computation.
use Rattle.std.proofs.Common.{◌≡◌, ℕ, ◌+◌, Bool, true, false, List, [], ◌∷◌, refl, lit<, ap, arith}
use Rattle.std.specs.Prelude.{codes}
use Rattle.kte_text.proofs.WordLemmas.{MatchesAt-matches, matches-MatchesAt}
use Rattle.kte_place.specs.declared.place.Place.{Place}
use Rattle.kte_place.specs.Ends.{Ends}
use Rattle.kte_place.specs.Place.{at}
use Rattle.kte_place.specs.Span.{ends}
use Rattle.kte_search.specs.declared.query.Query.{Query}
use Rattle.kte_search.specs.declared.search.TheConstants.{MAX_MATCHES}
use Rattle.kte_search.specs.Matches.{IsMatch, end_of_last}
use Rattle.kte_search.specs.Inside.{first_column, last_column}

most : MAX_MATCHES ≡ 4096
most = refl

word : Bool → Bool → Query
word fold whole = record { pattern = codes "foo"; fold_case = fold; whole = whole }

foos : List (List ℕ)
foos = [] ∷ codes "foo Foo food" ∷ []

on_line_1 : ℕ → Ends
on_line_1 column = ends (at 1 column) (at 1 (column + 3))

-- a whole word, whatever its case
second_word : IsMatch (word true true) foos (on_line_1 4)
unfolding word foos on_line_1
second_word = record { line = lit< tt; units = MatchesAt-matches true true _ _ _ refl; end = refl }

-- .. which is no match with its case
not_with_case : ¬ (IsMatch (word false true) foos (on_line_1 4))
unfolding word foos on_line_1
not_with_case m = let same = matches-MatchesAt _ _ _ _ _ m.units in cc

-- the start of a longer word
begins_a_word : IsMatch (word false false) foos (on_line_1 8)
unfolding word foos on_line_1
begins_a_word = record { line = lit< tt; units = MatchesAt-matches false false _ _ _ refl; end = refl }

-- .. which is no whole word
not_whole : ¬ (IsMatch (word false true) foos (on_line_1 8))
unfolding word foos on_line_1
not_whole m = let same = matches-MatchesAt _ _ _ _ _ m.units in cc

column_is : (p : Place) (n : ℕ) → p ≡ at 1 n → p.column ≡ n
column_is p n e = ap (λ (q : Place). q.column) e

-- a match is as long as the pattern, and lies in the text
not_longer : ¬ (IsMatch (word false false) foos (ends (at 1 0) (at 1 4)))
unfolding word foos
not_longer m = absurd (omega (arith, column_is (at 1 4) 3 m.end))

not_past_the_text : ¬ (IsMatch (word false false) foos (ends (at 2 0) (at 2 3)))
unfolding word foos
not_past_the_text m = absurd (omega (arith, m.line))

-- where a search of a line begins and ends
from_the_place : first_column (at 1 5) 1 ≡ 5
from_the_place = refl

from_the_start : first_column (at 1 5) 2 ≡ 0
from_the_start = refl

to_the_place : last_column (at 1 5) 1 (codes "foo Foo food") ≡ 5
to_the_place = refl

to_the_end : last_column (at 1 5) 0 (codes "foo") ≡ 3
to_the_end = refl

-- the search goes on at the end of the last match
goes_on : end_of_last (at 0 0) (on_line_1 0 ∷ on_line_1 4 ∷ []) ≡ at 1 7
unfolding on_line_1
goes_on = refl

starts : end_of_last (at 0 0) [] ≡ at 0 0
starts = refl
