-- What is true of the fields of every history.
use Rattle.std.specs.Prelude.{ℕ, ◌+◌, ◌≤◌, List, length, All}
use Rattle.kte_place.specs.declared.entry.Entry.{Entry}
use Rattle.kte_place.specs.Entry.{EntryFits}
use Rattle.kte_history.specs.declared.lock.Lock.{Lock}
use Rattle.kte_history.specs.Locks.{IsRising}
use Rattle.kte_history.specs.declared.history.TheConstants.{MAX_REVISIONS}

-- the revision was there, and so many last entries reach back to it
pub record IsReached (current entries revision : ℕ) : Type 0 where
  pub past : revision ≤ current
  pub stored : current ≤ revision + entries

-- the revision is within the limit, the locks are in the order of their revisions, and the entries
-- reach back to each of them
pub record IsSound (entries : List Entry) (locks : List Lock) (revision limit : ℕ) : Type 0 where
  pub within : revision ≤ limit
  pub small : limit ≤ MAX_REVISIONS
  pub rising : IsRising locks
  pub reached : All (λ lock. IsReached revision (length entries) lock.revision) locks
  pub fits : All EntryFits entries
