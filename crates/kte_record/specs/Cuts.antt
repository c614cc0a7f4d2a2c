-- A swap file that was written up to some number of bytes, as a crash leaves it.
use Rattle.std.specs.Prelude.{ℕ, ◌≤◌, List, length, take}
use Rattle.kte_text.specs.Primitives.{after_all}
use Rattle.kte_text.specs.declared.primitive.Primitive.{Primitive}
use Rattle.kte_record.specs.Transactions.{joined, written}
use Rattle.kte_record.specs.Recovery.{Recovers}

-- The first `n` bytes of what is written for these transactions recover to the text after a front
-- of them: all that are whole in these bytes, and no more
pub record CutRecovers (text : List (List ℕ)) (digest : List ℕ) (ts : List (List Primitive)) (n : ℕ) : Type 0 where
  pub count : ℕ
  pub most : count ≤ length ts
  pub whole : length (written digest (take count ts)) ≤ n
  pub least : (j : ℕ) → j ≤ length ts → length (written digest (take j ts)) ≤ n → j ≤ count
  pub recovers : Recovers text digest (take n (written digest ts)) (after_all (joined (take count ts)) text)
