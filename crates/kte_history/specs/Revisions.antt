-- What contracts see of a `History`, and what its calls do to it.
use Rattle.std.specs.Prelude.{ℕ, ◌+◌, ◌-◌, List, [], ◌∷◌, ◌++◌, length, drop, Bool, ◌==◌, ◌||◌, Option, is_some, if◌then◌else◌}
use Rattle.std.specs.Option.{option_map_or}
use Rattle.kte_place.specs.declared.span.Expand.{Expand}
use Rattle.kte_place.specs.declared.span.Empty.{Empty}
use Rattle.kte_place.specs.declared.entry.Entry.{Entry}
use Rattle.kte_place.specs.Ends.{Ends}
use Rattle.kte_place.specs.Span.{settle}
use Rattle.kte_history.specs.declared.lock.Lock.{Lock}
use Rattle.kte_history.specs.declared.lock.Owner.{Owner}
use Rattle.kte_history.specs.Locks.{oldest, is_locked, unlocked}
use Rattle.kte_history.specs.Landing.{carry_all}

-- what a `History` holds
pub record Revisions : Type 0 where
  -- the kept entries, in the order in which they were added
  pub kept : List Entry
  -- the locks, in the order in which they were taken
  pub locks : List Lock
  -- how many entries were added since loading
  pub revision : ℕ
  -- how many may be added
  pub limit : ℕ
  -- for how many more there is memory already
  pub reserved : ℕ

-- the entries after a revision, of entries that lead to the current one: the last so many
abbrev pub entries_since : ℕ → ℕ → List Entry → List Entry
entries_since current revision entries = drop (length entries - (current - revision)) entries

-- the entries after the oldest lock, of entries that lead to the current revision, and none if
-- nothing is locked
abbrev pub kept_since : ℕ → Option ℕ → List Entry → List Entry
kept_since current oldest entries = option_map_or (λ revision. entries_since current revision entries) oldest []

-- the history of a text that was just loaded
abbrev pub begun : ℕ → Revisions
begun limit = record { kept = []; locks = []; revision = 0; limit = limit; reserved = 0 }

-- .. with one more entry, which is kept if anything is locked
abbrev pub with_entry : Entry → Revisions → Revisions
with_entry entry h = record h {
  kept = (if is_some (oldest h.locks) then h.kept ++ entry ∷ [] else []);
  revision = h.revision + 1;
}

-- .. with the current revision locked once more
abbrev pub with_lock : Owner → Revisions → Revisions
with_lock owner h = record h { locks = h.locks ++ record { owner = owner; revision = h.revision } ∷ [] }

-- .. with one lock of this owner on this revision less
abbrev pub without_lock : Owner → ℕ → Revisions → Revisions
without_lock owner revision h = record h {
  kept = kept_since h.revision (oldest (unlocked h.locks owner revision)) h.kept;
  locks = unlocked h.locks owner revision;
}

-- a span at the revision can be carried to the present: the revision is locked or the current one
abbrev pub can_land : Revisions → ℕ → Bool
can_land h revision = revision == h.revision || is_locked h.locks revision

-- where a span at the revision has come to: it is settled, then carried over each later entry and
-- settled after each
abbrev pub landed : Revisions → ℕ → Ends → Expand → Empty → Option Ends
landed h revision span expand empty =
    carry_all (entries_since h.revision revision h.kept) (settle span.start span.end empty) expand empty
