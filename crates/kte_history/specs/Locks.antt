-- The locks on revisions, and what they keep. Locks are those of KTextEditor's MovingInterface,
-- where a revision that was locked twice stays locked until it was unlocked twice. That exactly the
-- entries after the oldest lock are kept is this project's own rule.
use Rattle.std.specs.Prelude.{ℕ, ◌≤◌, AllPairs, List, [], ◌∷◌, drop, Bool, true, false, ◌==◌, ◌&&◌, Option, None, Some, unwrap_or, min, if◌then◌else◌}
use Rattle.std.specs.Option.{option_map_or}
use Rattle.std.specs.List.{list_any}
use Rattle.kte_place.specs.declared.entry.Entry.{Entry}
use Rattle.kte_history.specs.declared.lock.Lock.{Lock}
use Rattle.kte_history.specs.declared.lock.Owner.{Owner}
use Rattle.kte_history.specs.declared.lock.Owner.TheVariants.{Editor, Job}

-- the least locked revision, if any is locked
abbrev pub oldest : List Lock → Option ℕ
oldest [] = None
oldest (lock ∷ locks) = Some (min lock.revision (unwrap_or (oldest locks) lock.revision))

-- the entries of a trail that are kept: those after the oldest lock, and none if nothing is locked
abbrev pub kept : List Lock → List Entry → List Entry
kept locks trail = option_map_or (λ revision. drop revision trail) (oldest locks) []

-- the revision is locked, by anybody
abbrev pub is_locked : List Lock → ℕ → Bool
is_locked locks revision = list_any (λ lock. lock.revision == revision) locks

-- the two owners are the same
abbrev pub is_owner : Owner → Owner → Bool
is_owner Editor Editor = true
is_owner Editor (Job b) = false
is_owner (Job a) Editor = false
is_owner (Job a) (Job b) = a == b

-- this owner holds the lock, on this revision
abbrev pub is_lock_of : Owner → ℕ → Lock → Bool
is_lock_of owner revision lock = is_owner lock.owner owner && lock.revision == revision

-- the locks are in the order of their revisions
abbrev pub IsRising : List Lock → Type 0
IsRising locks = AllPairs (λ a b. a.revision ≤ b.revision) locks

-- this owner has a lock on the revision
abbrev pub has_lock : List Lock → Owner → ℕ → Bool
has_lock locks owner revision = list_any (is_lock_of owner revision) locks

-- the locks without one of this owner on this revision: the first, as all of them are alike
abbrev pub unlocked : List Lock → Owner → ℕ → List Lock
unlocked [] owner revision = []
unlocked (lock ∷ locks) owner revision =
    if is_lock_of owner revision lock then locks else lock ∷ unlocked locks owner revision
