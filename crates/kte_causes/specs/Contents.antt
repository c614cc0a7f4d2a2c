-- What a call takes from the bytes that an object tells, or adds to them, in std's words.
-- `None` stands for an object that does not tell: nothing is said of it.
use Rattle.std.specs.Prelude.{ℕ, List, take, Option}
use Rattle.std.specs.Io.KnownBytes.{Consumes, Appends}

-- some first bytes were taken, or none. This project's own rule
abbrev pub ConsumesSome : Option (List ℕ) → Option (List ℕ) → Type 0
ConsumesSome before after = (taken : List ℕ) × Consumes before after taken

-- the first of these bytes were added at the end, or none. This project's own rule
abbrev pub AppendsPrefix : Option (List ℕ) → Option (List ℕ) → List ℕ → Type 0
AppendsPrefix before after bytes = (n : ℕ) × Appends before after (take n bytes)
