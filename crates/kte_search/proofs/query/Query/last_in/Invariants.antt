use Rattle.std.proofs.Common.{ℕ, ◌+◌, ◌≤◌, length}
use Rattle.kte_search.specs.Matches.{MatchesIn}
use Rattle.kte_search.proofs.query.Query.last_in.Given as goal

-- no match at the columns that were tried
abbrev pub invariant-loop-column : goal.invariant-loop-column
invariant-loop-column l =
    (c : ℕ) → l.column ≤ c → c + length l.self.pattern ≤ l.before → ¬ (MatchesIn l.self l.units c)
