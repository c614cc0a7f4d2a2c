-- Counts of faults.
use Rattle.std.specs.Prelude.{◌≡◌, ◌≢◌, ◌⊎◌, ℕ, ◌+◌, ◌-◌, ◌^◌, ◌<◌, ◌≤◌, min, Result, IsErrOf, IfErr, OnOk}

-- the last value of a count that is kept in a u64
abbrev pub last_count : ℕ
last_count = 2 ^ 64 - 1

-- a count rose; at its last value it stays there. This project's own rule
abbrev pub Rose : ℕ → ℕ → Type 0
Rose before after = (before < after) ⊎ ((before ≡ last_count) × (after ≡ last_count))

-- the count after one more. This project's own rule
abbrev pub raised : ℕ → ℕ
raised count = min (count + 1) last_count

-- a call that fails by this error has raised the count, and any other result leaves it.
-- This project's own rule
pub record CountsFault {T E : Type 0} (fault : E) (result : Result T E)
    (before after : ℕ) : Type 0 where
  pub failed : IsErrOf result fault → Rose before after
  pub calm_error : IfErr result (λ error. error ≢ fault → after ≡ before)
  pub calm : OnOk result (after ≡ before)
  pub counted : before ≤ after
