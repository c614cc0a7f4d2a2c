use Rattle.std.proofs.Common.{ℕ, ◌<◌, ◌≤◌}
use Rattle.kte_search.specs.Matches.{MatchesIn}
use Rattle.kte_search.proofs.query.Query.first_in.Given as goal

-- no match at the columns that were tried
abbrev pub invariant-loop-column : goal.invariant-loop-column
invariant-loop-column l = (c : ℕ) → l.from ≤ c → c < l.column → ¬ (MatchesIn l.self l.units c)
