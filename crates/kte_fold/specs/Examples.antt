-- Short words for worked examples and tests.
use Rattle.std.specs.Prelude.{ℕ, Option, None, Some}
use Rattle.std.specs.FinMap.{insert, empty}
use Rattle.kte_place.specs.Ends.{Ends}
use Rattle.kte_fold.specs.Folds.{Spans}

-- the spans with one more, if the range is valid
abbrev pub with_span : Spans → ℕ → Option Ends → Spans
with_span spans id None = spans
with_span spans id (Some s) = insert spans id s

-- the ranges 1 to 3, each valid or not
abbrev pub three_spans : Option Ends → Option Ends → Option Ends → Spans
three_spans a b c = with_span (with_span (with_span empty 3 c) 2 b) 1 a
